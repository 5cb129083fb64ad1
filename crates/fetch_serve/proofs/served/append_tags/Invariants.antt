use Rattle.std.proofs.Common.{◌≡◌, ◌++◌}
use Rattle.std.specs.FinMap as finmap
use Rattle.fetch_store.specs.Graph.{graph_of}
use Rattle.fetch_serve.specs.Packs.{tags_from}
use Rattle.fetch_serve.proofs.served.append_tags.Given as goal

abbrev pub invariant-tags : goal.invariant-tags
invariant-tags l =
    l.ids.items ++ tags_from (graph_of l.store.objects) l.left l.id ≡ l.initial.ids.items ++ tags_from (graph_of l.store.objects) (finmap.len (graph_of l.store.objects)) l.fn.first

abbrev pub decreases-tags : goal.decreases-tags
decreases-tags l = l.left
