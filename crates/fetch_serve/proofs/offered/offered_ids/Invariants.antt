use Rattle.std.proofs.Common.{◌≡◌, ◌++◌, drop}
use Rattle.std.specs.List.{flat_map}
use Rattle.fetch_serve.specs.Offered.{ids_in}
use Rattle.fetch_serve.proofs.offered.offered_ids.Given as goal

abbrev pub invariant-loop-reference : goal.invariant-loop-reference
invariant-loop-reference l = l.ids.items ++ flat_map ids_in (drop l.reference-index l.references) ≡ flat_map ids_in l.references
