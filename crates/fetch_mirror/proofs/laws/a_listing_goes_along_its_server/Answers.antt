use Rattle.fetch_mirror.proofs.ListingAlong.{greeting_too_long, listing_along, listing_too_long}
use Rattle.fetch_mirror.proofs.laws.a_listing_goes_along_its_server.Goals as goal

pub returns-clause-mapped : goal.returns-clause-mapped
returns-clause-mapped c = listing_along

pub returns-clause-long_listing : goal.returns-clause-long_listing
returns-clause-long_listing c = listing_too_long

pub returns-clause-long_greeting : goal.returns-clause-long_greeting
returns-clause-long_greeting c = greeting_too_long
