use Rattle.std.proofs.Common.{arith, ◌∙◌}
use Rattle.fetch_lookup.proofs.AddedSpecs.{extend-step, extend-end}
use Rattle.fetch_lookup.proofs.extending.extended.Goals as goal

pub loop-spec-preserved : goal.loop-spec-preserved
loop-spec-preserved c = record {
  known = c.in_ok-add_new.ensures.known;
  same = extend-step c.args.added.now c.loop-spec.spec-index c.spec-item.result c.loop-spec.all.items _ _ c.loop-spec-test.true c.spec-item.is c.in_ok-add_new.ensures.all c.loop-spec.invariant.same;
}

pub returns : goal.returns
returns c = c.from.ensures ∙ extend-end c.args.added.now c.loop-spec.spec-index c.loop-spec.all.items _ (omega arith) c.loop-spec.invariant.same
