use Rattle.std.proofs.Common.{arith, ap, ◌∙◌}
use Rattle.std.specs.BTreeSet.{insert_key}
use Rattle.fetch_lookup.specs.SpecOrder.{spec_cmp}
use Rattle.fetch_lookup.proofs.AddedSpecs.{put-step, put-end}
use Rattle.fetch_lookup.proofs.extending.set_of.Goals as goal

pub loop-spec-preserved : goal.loop-spec-preserved
loop-spec-preserved c = put-step c.args.specs.now c.loop-spec.spec-index c.spec-item.result c.loop-spec.set.keys _ _ c.loop-spec-test.true c.spec-item.is (c.in_ok-place.ensures ∙ ap (insert_key spec_cmp c.loop-spec.set.keys) c.in_ok-try_clone.ensures) c.loop-spec.invariant

pub returns : goal.returns
returns c = put-end c.args.specs.now c.loop-spec.spec-index c.loop-spec.set.keys _ (omega arith) c.loop-spec.invariant
