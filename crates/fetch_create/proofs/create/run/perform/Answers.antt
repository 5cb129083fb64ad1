use Rattle.std.proofs.Common.{◌∙◌, sym, arith}
use Rattle.fetch_base.specs.Faults.{Counts-then}
use Rattle.fetch_create.proofs.Steps.{next-step}
use Rattle.fetch_create.proofs.create.run.perform.Goals as goal

pub loop-step-preserved : goal.loop-step-preserved
loop-step-preserved g c =
    record {
      done = next-step _ _ _ c.args.plan.now c.loop-step.step-index c.step-item.result (omega arith) (sym c.step-item.is) c.loop-step.invariant.done c.in_ok-take_step.ensures.done;
      counts = Counts-then _ _ _ c.loop-step.invariant.counts c.in_ok-take_step.ensures.counts;
      may_fail = c.in_ok-take_step.ensures.may_fail ∙ c.loop-step.invariant.may_fail;
    }
