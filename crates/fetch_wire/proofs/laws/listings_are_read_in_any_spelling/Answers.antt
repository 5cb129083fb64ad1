use Rattle.std.proofs.Common.{[]}
use Rattle.fetch_replies.specs.declared.replies.reply.ParsedReply.TheVariants as told
use Rattle.fetch_replies.specs.declared.replies.parser.ReplyParser.TheVariants as reading
use Rattle.fetch_replies.specs.Awaited.{step_of}
use Rattle.fetch_replies.specs.LinesTold.{lines_tell}
use Rattle.fetch_wire.proofs.InWords.{listing_read}
use Rattle.fetch_wire.proofs.laws.listings_are_read_in_any_spelling.Goals as goal

pub returns : goal.returns
returns c = λ bound kind lines rest bytes refs writes is. lines_tell step_of bound 0 (reading.Listing kind []) lines rest bytes (told.Listing refs) writes (listing_read kind refs lines is)
