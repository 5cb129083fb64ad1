use Rattle.fetch_replies.specs.Awaited.{step_of}
use Rattle.fetch_replies.specs.declared.replies.reply.ParsedReply.TheVariants as tolds
use Rattle.fetch_replies.specs.declared.replies.parser.ReplyParser.TheVariants as reading
use Rattle.fetch_replies.proofs.ReadBack.{told_were}
use Rattle.fetch_wire.proofs.Spelled.{greeted}
use Rattle.fetch_wire.proofs.laws.greetings_that_are_read_are_greetings.Goals as goal

pub returns : goal.returns
returns c = λ bound bytes rest h is.
    let w = told_were step_of bound 0 reading.Greeting bytes rest (tolds.Greeting h) is in
    (w.0, w.1, greeted w.0 h w.2)
