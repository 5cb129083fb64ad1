use Rattle.std.proofs.Common.{◌≡◌, drop, ◌+◌, ◌-◌, ◌^◌, ◌<◌, length}
use Rattle.std.specs.Prelude.{min}
use Rattle.std.specs.List.{flat_map}
use Rattle.fetch_config.specs.Lookups.{values_at}
use Rattle.fetch_config.proofs.lookup.count_at.Given as goal

abbrev pub invariant-loop-entry : goal.invariant-loop-entry
invariant-loop-entry l = (min (l.count + length (flat_map (values_at l.key) (drop l.entry-index l.entries))) (2 ^ 64 - 1) ≡ min (l.initial.count + length (flat_map (values_at l.key) l.entries)) (2 ^ 64 - 1)) × (l.count < 2 ^ 64)
