use Rattle.std.proofs.Common.{◌≡◌, drop}
use Rattle.std.specs.List.{flat_map}
use Rattle.std.specs.Option.{option_copied, option_map}
use Rattle.fetch_config.specs.Lookups.{last_or, last_of, values_in, values_of}
use Rattle.fetch_config.proofs.lookup.last_value.Given as goal

abbrev pub invariant-loop-section : goal.invariant-loop-section
invariant-loop-section l =
    last_or (option_copied l.last) (flat_map (values_in l.name (option_map (λ s. s.now) l.sub) l.key l.trusted_only) (drop l.section-index l.sections))
    ≡ last_of (values_of l.name (option_map (λ s. s.now) l.sub) l.key l.trusted_only l.sections)
