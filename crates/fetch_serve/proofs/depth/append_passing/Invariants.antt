use Rattle.std.proofs.Common.{◌≡◌, ◌++◌, length, filter}
use Rattle.fetch_store.specs.Graph.{graph_of}
use Rattle.fetch_objects.specs.References.{parents_left}
use Rattle.fetch_serve.specs.Depths.{may_be_kept}
use Rattle.fetch_serve.proofs.depth.append_passing.Given as goal

abbrev pub invariant-loop-parent : goal.invariant-loop-parent
invariant-loop-parent l =
    l.into.items ++ filter (may_be_kept (graph_of l.store.objects) l.limits.cutoff l.limits.excluded.now) (parents_left l.parents)
    ≡ l.initial.into.items ++ filter (may_be_kept (graph_of l.store.objects) l.limits.cutoff l.limits.excluded.now) (parents_left l.initial.parents)

abbrev pub decreases-loop-parent : goal.decreases-loop-parent
decreases-loop-parent l = length (parents_left l.parents)
