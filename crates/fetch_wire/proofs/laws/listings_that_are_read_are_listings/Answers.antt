use Rattle.std.proofs.Common.{[]}
use Rattle.fetch_replies.specs.Awaited.{step_of}
use Rattle.fetch_replies.specs.declared.replies.reply.ReplyKind.TheVariants as awaits
use Rattle.fetch_replies.specs.declared.replies.reply.ParsedReply.TheVariants as tolds
use Rattle.fetch_replies.specs.declared.replies.parser.ReplyParser.TheVariants as reading
use Rattle.fetch_replies.proofs.ReadBack.{told_were}
use Rattle.fetch_wire.proofs.NamedOnce.{names_once}
use Rattle.fetch_wire.proofs.SpelledListing.{listing_told}
use Rattle.fetch_wire.proofs.laws.listings_that_are_read_are_listings.Goals as goal

pub returns : goal.returns
returns c = λ bound kind bytes rest refs is.
    let w = told_were step_of bound 0 (reading.Listing kind []) bytes rest (tolds.Listing refs) is in
    (w.0, w.1, listing_told kind refs w.0 w.2 (names_once bound (awaits.Listing kind) bytes rest (tolds.Listing refs) is))
