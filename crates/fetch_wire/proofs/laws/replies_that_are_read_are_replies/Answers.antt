use Rattle.fetch_replies.specs.Awaited.{step_of}
use Rattle.fetch_lines.specs.FetchRecords.{no_reply}
use Rattle.fetch_replies.specs.declared.replies.reply.ParsedReply.TheVariants as tolds
use Rattle.fetch_replies.specs.declared.replies.parser.Part.TheVariants as parts
use Rattle.fetch_replies.specs.declared.replies.parser.ReplyParser.TheVariants as reading
use Rattle.fetch_replies.proofs.ReadBack.{told_were}
use Rattle.fetch_wire.proofs.SpelledReply.{reply_told}
use Rattle.fetch_wire.proofs.laws.replies_that_are_read_are_replies.Goals as goal

pub returns : goal.returns
returns c = λ bound asked bytes rest reply is.
    let w = told_were step_of bound 0 (reading.Reply asked parts.Beginning no_reply) bytes rest (tolds.Reply reply) is in
    (w.0, w.1, reply_told asked reply w.0 w.2)
