use Rattle.std.proofs.Common.{◌≡◌, take}
use Rattle.fetch_clone.proofs.fetching.listing.copies.Given as goal

abbrev pub invariant-loop-s : goal.invariant-loop-s
invariant-loop-s l = l.specs.items ≡ take l.s-index l.given
