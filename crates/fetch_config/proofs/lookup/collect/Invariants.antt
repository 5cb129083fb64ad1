use Rattle.std.proofs.Common.{◌≡◌, drop, ◌++◌}
use Rattle.std.specs.List.{flat_map}
use Rattle.std.specs.Option.{option_map}
use Rattle.fetch_config.specs.Lookups.{explicit, values_in, values_of}
use Rattle.fetch_config.proofs.lookup.collect.Given as goal

abbrev pub invariant-loop-section : goal.invariant-loop-section
invariant-loop-section l = l.values.items ++ explicit (flat_map (values_in l.name (option_map (λ s. s.now) l.sub) l.key l.trusted_only) (drop l.section-index l.sections)) ≡ explicit (values_of l.name (option_map (λ s. s.now) l.sub) l.key l.trusted_only l.sections)
