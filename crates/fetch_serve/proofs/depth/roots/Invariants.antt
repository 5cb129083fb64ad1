use Rattle.std.proofs.Common.{◌≡◌, ◌++◌, drop, map}
use Rattle.fetch_store.specs.Graph.{graph_of}
use Rattle.fetch_refs.specs.TagEnds.{AreEnds}
use Rattle.fetch_serve.specs.Depths.{peeled_or_self}
use Rattle.fetch_serve.proofs.depth.roots.Given as goal

abbrev pub invariant-loop-id : goal.invariant-loop-id
invariant-loop-id l = record {
  roots : l.roots.items ++ map (peeled_or_self (graph_of l.store.objects)) (drop l.id-index l.wants) ≡ map (peeled_or_self (graph_of l.store.objects)) l.wants;
  known : AreEnds (graph_of l.store.objects) l.known;
}
