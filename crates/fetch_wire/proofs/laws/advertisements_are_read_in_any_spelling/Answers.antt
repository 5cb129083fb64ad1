use Rattle.fetch_replies.specs.declared.replies.reply.ParsedReply.TheVariants as told
use Rattle.fetch_replies.specs.declared.replies.parser.ReplyParser.TheVariants as reading
use Rattle.fetch_replies.specs.Awaited.{step_of}
use Rattle.fetch_replies.specs.LinesTold.{lines_tell}
use Rattle.fetch_wire.proofs.AdvertisementInWords.{advertisement_read}
use Rattle.fetch_wire.proofs.laws.advertisements_are_read_in_any_spelling.Goals as goal

pub returns : goal.returns
returns c = λ bound lines rest bytes handshake refs writes is. lines_tell step_of bound 0 reading.Greeting lines rest bytes (told.Advertisement handshake refs) writes (advertisement_read handshake refs lines is)
