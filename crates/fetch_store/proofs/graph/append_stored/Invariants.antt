use Rattle.std.proofs.Common.{◌≡◌, ◌++◌, map, length}
use Rattle.std.specs.FinMap.{entries}
use Rattle.fetch_store.specs.Graph.{node_of}
use Rattle.fetch_store.specs.Iter.{left}
use Rattle.fetch_store.proofs.graph.append_stored.Given as goal

abbrev pub invariant-loop-id : goal.invariant-loop-id
invariant-loop-id l = l.nodes.items ++ map (λ e. (e.0, node_of e.1)) (left l.objects) ≡ l.fn.nodes.items ++ map (λ e. (e.0, node_of e.1)) (entries l.store.objects)

abbrev pub decreases-loop-id : goal.decreases-loop-id
decreases-loop-id l = length (left l.objects)
