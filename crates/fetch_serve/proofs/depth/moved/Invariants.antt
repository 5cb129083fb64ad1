use Rattle.std.proofs.Common.{◌≡◌, ◌++◌, drop, filter}
use Rattle.fetch_store.specs.Graph.{graph_of}
use Rattle.fetch_serve.specs.Depths.{is_moved, moved_of}
use Rattle.fetch_serve.proofs.depth.moved.Given as goal

abbrev pub invariant-loop-id : goal.invariant-loop-id
invariant-loop-id l =
    l.ids ++ filter (is_moved (graph_of l.walk.store.now.objects) l.border l.kept l.way) (drop l.id-index l.kept) ≡ moved_of (graph_of l.walk.store.now.objects) l.border l.kept l.way
