use Rattle.std.proofs.Common.{◌≡◌, ◌≤◌, false, length, drop}
use Rattle.std.specs.List.{list_any}
use Rattle.fetch_lookup.specs.Saved as spec
use Rattle.fetch_lookup.proofs.saving.last_own.Given as goal

abbrev pub invariant-sections : goal.invariant-sections
invariant-sections l = record { within : l.left ≤ length l.sections; same : l.sections ≡ l.file.sections; none : list_any (spec.is_own l.file.meta l.name) (drop l.left l.sections) ≡ false }

abbrev pub decreases-sections : goal.decreases-sections
decreases-sections l = l.left
