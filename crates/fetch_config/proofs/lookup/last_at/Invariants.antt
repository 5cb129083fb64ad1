use Rattle.std.proofs.Common.{◌≡◌, drop}
use Rattle.std.specs.List.{flat_map}
use Rattle.std.specs.Option.{option_copied}
use Rattle.fetch_config.specs.Lookups.{last_or, values_at}
use Rattle.fetch_config.proofs.lookup.last_at.Given as goal

abbrev pub invariant-loop-entry : goal.invariant-loop-entry
invariant-loop-entry l = last_or (option_copied l.last) (flat_map (values_at l.key) (drop l.entry-index l.entries)) ≡ last_or (option_copied l.initial.last) (flat_map (values_at l.key) l.entries)
