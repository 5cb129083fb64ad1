use Rattle.std.proofs.Common.{◌≡◌, ◌++◌, drop}
use Rattle.std.specs.List.{flat_map}
use Rattle.fetch_store.specs.Graph.{graph_of}
use Rattle.fetch_serve.specs.Depths.{parents_in}
use Rattle.fetch_serve.proofs.served.append_parents_of.Given as goal

abbrev pub invariant-loop-id : goal.invariant-loop-id
invariant-loop-id l = l.into.items ++ flat_map (parents_in (graph_of l.store.objects)) (drop l.id-index l.ids) ≡ l.initial.into.items ++ flat_map (parents_in (graph_of l.store.objects)) l.ids
