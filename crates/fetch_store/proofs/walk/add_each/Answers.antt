use Rattle.std.proofs.Common.{false, ◌∙◌, arith}
use Rattle.fetch_base.proofs.Orders.{cmp_is}
use Rattle.fetch_store.proofs.Spreading.{each_at, each_added}
use Rattle.fetch_store.proofs.walk.add_each.Goals as goal
use Rattle.fetch_store.proofs.walk.add_each.Goals.{then-is_there+in_ok-add, else-is_there}

pub loop-id-preserved : goal.loop-id-preserved
loop-id-preserved g c =
    let nexts = g.N.Next.nexts c.args.next.now in
    record {
      found =
          elim c.if-is_there.branch [
            | then-is_there+in_ok-add w ↦
                each_added nexts c.loop-id.found c.args.ids.now c.loop-id.id-index _ _ c.if-is_there.found c.loop-id-test.true w.if-is_there.ensures cmp_is (w.found-is ∙ w.in_ok-add.ensures.added) ∙ c.loop-id.invariant.found
            | else-is_there w ↦ each_at nexts c.loop-id.found c.args.ids.now c.loop-id.id-index _ false c.if-is_there.found c.loop-id-test.true w.if-is_there.ensures w.found-is ∙ c.loop-id.invariant.found
          ];
      steps = omega (arith, c.tick.ensures, c.loop-id.invariant.steps);
    }
