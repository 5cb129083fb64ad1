use Rattle.std.proofs.Common.{◌≡◌, ◌++◌, drop}
use Rattle.std.specs.List.{flat_map}
use Rattle.fetch_serve.specs.Depths.{ids_if_named}
use Rattle.fetch_serve.proofs.depth.named_ids.Given as goal

abbrev pub invariant-loop-reference : goal.invariant-loop-reference
invariant-loop-reference l = l.ids.items ++ flat_map (ids_if_named l.names) (drop l.reference-index l.references) ≡ flat_map (ids_if_named l.names) l.references
