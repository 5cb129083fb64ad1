use Rattle.std.proofs.Common.{◌++◌}
use Rattle.std.specs.FinMap.{entries}
use Rattle.fetch_objects.specs.References.{seen}
use Rattle.fetch_store.specs.Iter.{left}
use Rattle.fetch_store.proofs.Appended.{appended_first}
use Rattle.fetch_store.proofs.Graphs.{nodes}
use Rattle.fetch_store.proofs.graph.append_stored.Goals as goal

pub loop-id-preserved : goal.loop-id-preserved
loop-id-preserved c =
    appended_first c.loop-id.nodes.items c.push.new.self.items (c.args.nodes.now.items ++ nodes (entries c.args.store.now.objects)) (left c.loop-id.objects) (left c.next.new.self) c.in-Some.id (seen c.in-Some.object) c.in_ok-history.history
    c.in-Some.ensures.steps c.in_ok-history.ensures c.in_ok-push.ensures.items c.loop-id.invariant
