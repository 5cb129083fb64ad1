use Rattle.std.proofs.Common.{◌≡◌, length}
use Rattle.fetch_refs.specs.Iter.{standing_in}
use Rattle.fetch_refs.proofs.iter.first.Given as goal

abbrev pub invariant-entries : goal.invariant-entries
invariant-entries l = standing_in l.entries ≡ standing_in l.fn.entries

abbrev pub decreases-entries : goal.decreases-entries
decreases-entries l = length l.entries
