use Rattle.std.proofs.Common.{◌≡◌, drop}
use Rattle.fetch_lookup.specs.Branches.{destination_of}
use Rattle.fetch_lookup.proofs.Destinations.{first}
use Rattle.fetch_lookup.proofs.branches.first_destination.Given as goal

abbrev pub invariant-loop-item : goal.invariant-loop-item
invariant-loop-item l = first destination_of (drop l.item-index l.found) ≡ first destination_of l.found
