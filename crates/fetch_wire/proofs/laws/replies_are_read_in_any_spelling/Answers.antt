use Rattle.fetch_replies.specs.declared.replies.reply.ReplyKind.TheVariants.{Reply}
use Rattle.fetch_replies.specs.declared.replies.reply.ParsedReply.TheVariants as told
use Rattle.fetch_replies.specs.Awaited.{step_of, start_of}
use Rattle.fetch_replies.specs.LinesTold.{lines_tell}
use Rattle.fetch_wire.proofs.InWords.{reply_read}
use Rattle.fetch_wire.proofs.laws.replies_are_read_in_any_spelling.Goals as goal

pub returns : goal.returns
returns c = λ bound asked lines rest bytes reply writes is. lines_tell step_of bound 0 (start_of (Reply asked)) lines rest bytes (told.Reply reply) writes (reply_read asked reply lines is)
