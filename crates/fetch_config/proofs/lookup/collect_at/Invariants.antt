use Rattle.std.proofs.Common.{◌≡◌, drop, ◌++◌}
use Rattle.std.specs.List.{flat_map}
use Rattle.fetch_config.specs.Lookups.{explicit, values_at}
use Rattle.fetch_config.proofs.lookup.collect_at.Given as goal

abbrev pub invariant-loop-entry : goal.invariant-loop-entry
invariant-loop-entry l = l.values.items ++ explicit (flat_map (values_at l.key) (drop l.entry-index l.entries)) ≡ l.initial.values.items ++ explicit (flat_map (values_at l.key) l.entries)
