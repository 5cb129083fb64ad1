use Rattle.fetch_replies.specs.Awaited.{step_of}
use Rattle.fetch_replies.specs.declared.replies.reply.ReplyKind.TheVariants as awaits
use Rattle.fetch_replies.specs.declared.replies.reply.ParsedReply.TheVariants as tolds
use Rattle.fetch_replies.specs.declared.replies.parser.ReplyParser.TheVariants as reading
use Rattle.fetch_replies.proofs.ReadBack.{told_were}
use Rattle.fetch_wire.proofs.NamedOnce.{names_once}
use Rattle.fetch_wire.proofs.SpelledAdvertisement.{advertisement_told}
use Rattle.fetch_wire.proofs.laws.advertisements_that_are_read_are_advertisements.Goals as goal

pub returns : goal.returns
returns c = λ bound bytes rest h refs is.
    let w = told_were step_of bound 0 reading.Greeting bytes rest (tolds.Advertisement h refs) is in
    (w.0, w.1, advertisement_told h refs w.0 w.2 (names_once bound awaits.Greeting bytes rest (tolds.Advertisement h refs) is))
