use Rattle.std.proofs.Common.{◌≡◌, ◌++◌, drop}
use Rattle.std.specs.List.{flat_map}
use Rattle.fetch_specs.specs.declared.found.Match.{Match}
use Rattle.fetch_lookup.specs.Upstreams.{names_of_source}
use Rattle.fetch_lookup.proofs.leading.source_names.Given as goal

abbrev pub invariant-loop-item : goal.invariant-loop-item
invariant-loop-item l = l.names ++ flat_map (λ (m : Match). names_of_source m.lhs) (drop l.item-index l.found) ≡ flat_map (λ (m : Match). names_of_source m.lhs) l.found
