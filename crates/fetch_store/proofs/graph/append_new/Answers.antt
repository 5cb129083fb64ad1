use Rattle.std.proofs.Common.{◌++◌, take_all, sym, ap, ◌∙◌, arith}
use Rattle.std.specs.Prelude.{is_some}
use Rattle.std.specs.FinMap.{contains_key}
use Rattle.fetch_store.specs.Graph.{node_of}
use Rattle.fetch_store.specs.Stores.{Entries}
use Rattle.fetch_store.proofs.Appended.{passed_known, appended_node}
use Rattle.fetch_store.proofs.Extended.{new_of}
use Rattle.fetch_store.proofs.Finds.{is_some-copied}
use Rattle.fetch_store.proofs.Graphs.{nodes}
use Rattle.fetch_store.proofs.graph.append_new.Goals as goal

pub loop-id-preserved-then-is_some : goal.loop-id-preserved-then-is_some
loop-id-preserved-then-is_some c =
    let known = sym (c.is_some.ensures ∙ is_some-copied c.get.result ∙ ap is_some c.get.ensures) ∙ c.if-is_some.true in
    passed_known (contains_key c.args.graph.now) c.args.nodes.now.items c.loop-id.nodes.items c.args.objects.now c.loop-id.id-index c.loop-id-item.result c.loop-id-test.true c.loop-id-item.is c.loop-id.invariant known

pub loop-id-preserved : goal.loop-id-preserved
loop-id-preserved c =
    let known = sym (c.is_some.ensures ∙ is_some-copied c.get.result ∙ ap is_some c.get.ensures) ∙ c.if-is_some.false in
    let made = c.in_ok-history.ensures ∙ ap node_of c.as_ref.ensures.same in
    appended_node (contains_key c.args.graph.now) c.args.nodes.now.items c.loop-id.nodes.items c.args.objects.now c.loop-id.id-index c.loop-id-item.result c.loop-id-test.true c.loop-id-item.is c.loop-id.invariant known
    c.in_ok-history.history c.push.new.self.items made c.in_ok-push.ensures.items

pub returns : goal.returns
returns c =
    c.loop-id.invariant ∙ ap (λ (es : Entries). c.args.nodes.now.items ++ nodes (new_of (contains_key c.args.graph.now) es)) (take_all c.loop-id.id-index c.args.objects.now (omega (arith, c.loop-id-test.false)))
