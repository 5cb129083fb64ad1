use Rattle.std.proofs.Common.{◌≡◌, ◌+◌, ◌≤◌, length}
use Rattle.fetch_refs.specs.Iter.{standing_in}
use Rattle.fetch_refs.proofs.iter.count_of.Given as goal

abbrev pub invariant-places : goal.invariant-places
invariant-places l = (l.count + length (standing_in l.entry-iterator) ≡ length (standing_in l.names.entries)) × (l.count + length l.entry-iterator ≤ length l.names.entries)
