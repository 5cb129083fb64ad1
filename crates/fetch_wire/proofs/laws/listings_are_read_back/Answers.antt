use Rattle.fetch_replies.proofs.ListingLines.{listing_tells}
use Rattle.fetch_wire.proofs.laws.listings_are_read_back.Goals as goal

pub returns : goal.returns
returns c = listing_tells
