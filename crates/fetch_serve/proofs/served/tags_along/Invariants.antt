use Rattle.std.proofs.Common.{◌≡◌, ◌++◌, drop}
use Rattle.std.specs.List.{flat_map}
use Rattle.fetch_store.specs.Graph.{graph_of}
use Rattle.fetch_serve.specs.Packs.{tags_of}
use Rattle.fetch_serve.specs.Parts.{held_by}
use Rattle.fetch_asked.specs.Requests.{has_id}
use Rattle.fetch_serve.proofs.served.tags_along.Given as goal

abbrev pub invariant-loop-reference : goal.invariant-loop-reference
invariant-loop-reference l =
    l.ids.items ++ flat_map (tags_of (graph_of (held_by l.parts).objects) (λ id. has_id id l.needed)) (drop l.reference-index l.references)
    ≡ flat_map (tags_of (graph_of (held_by l.parts).objects) (λ id. has_id id l.needed)) l.references
