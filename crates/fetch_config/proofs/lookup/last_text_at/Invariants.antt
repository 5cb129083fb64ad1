use Rattle.std.proofs.Common.{◌≡◌, drop}
use Rattle.std.specs.List.{flat_map}
use Rattle.std.specs.Option.{option_map}
use Rattle.fetch_config.specs.Lookups.{last_or, explicit, values_at}
use Rattle.fetch_config.proofs.lookup.last_text_at.Given as goal

abbrev pub invariant-loop-entry : goal.invariant-loop-entry
invariant-loop-entry l = last_or (option_map (λ v. v.now) l.last) (explicit (flat_map (values_at l.key) (drop l.entry-index l.entries))) ≡ last_or (option_map (λ v. v.now) l.initial.last) (explicit (flat_map (values_at l.key) l.entries))
