use Rattle.std.proofs.Common.{◌≡◌, drop, ◌+◌, ◌-◌, ◌^◌, ◌<◌, length}
use Rattle.std.specs.Prelude.{min}
use Rattle.std.specs.List.{flat_map}
use Rattle.std.specs.Option.{option_map}
use Rattle.fetch_config.specs.Lookups.{values_in, values_of}
use Rattle.fetch_config.proofs.lookup.count.Given as goal

abbrev pub invariant-loop-section : goal.invariant-loop-section
invariant-loop-section l = (min (l.count + length (flat_map (values_in l.name (option_map (λ s. s.now) l.sub) l.key l.trusted_only) (drop l.section-index l.sections))) (2 ^ 64 - 1) ≡ min (length (values_of l.name (option_map (λ s. s.now) l.sub) l.key l.trusted_only l.sections)) (2 ^ 64 - 1)) × (l.count < 2 ^ 64)
