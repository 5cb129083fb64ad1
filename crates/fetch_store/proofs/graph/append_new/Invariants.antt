use Rattle.std.proofs.Common.{◌≡◌, ◌++◌, map, take, filter, not}
use Rattle.std.specs.FinMap.{contains_key}
use Rattle.fetch_store.specs.Graph.{node_of}
use Rattle.fetch_store.proofs.graph.append_new.Given as goal

abbrev pub invariant-loop-id : goal.invariant-loop-id
invariant-loop-id l = l.nodes.items ≡ l.fn.nodes.items ++ map (λ e. (e.0, node_of e.1)) (filter (λ e. not (contains_key l.graph e.0)) (take l.id-index l.objects))
