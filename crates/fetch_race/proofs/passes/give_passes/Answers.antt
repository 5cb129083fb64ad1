use Rattle.std.proofs.Common.{ℕ, ◌+◌, ap, subst, ◌∙◌, arith}
use Rattle.std.proofs.Math.Seq.{map-set_same}
use Rattle.fetch_race.specs.Passes.{HasPass}
use Rattle.fetch_race.specs.declared.job.JobRun.{JobRun}
use Rattle.fetch_race.proofs.GivenPasses.{one_below, all_have_passes, rest_at}
use Rattle.fetch_race.proofs.passes.give_passes.Goals as goal

pub loop-i-preserved : goal.loop-i-preserved
loop-i-preserved g c =
    let i = c.loop-i.i in
    let new = c.give_pass-rest.new.job_run in
    let here = c.loop-i.invariant.rest.number_is in
    record {
      rest = rest_at c.args.shared.now (c.loop-i.rest.number + 1) (i + 1) c.give_pass-rest.result (ap (λ (n : ℕ). n + 1) here) c.give_pass-rest.ensures.rest;
      jobs = map-set_same (λ (r : JobRun g.row.P.Denot). r.job) c.loop-i.job_runs i new c.index-job_runs-i.result c.give_pass-rest.ensures.job ∙ c.loop-i.invariant.jobs;
      given_passes = one_below c.args.shared.now c.loop-i.job_runs i new c.loop-i.invariant.given_passes (subst (λ (n : ℕ). HasPass c.args.shared.now n new) here c.give_pass-rest.ensures.own);
    }

pub returns-clause-given_passes : goal.returns-clause-given_passes
returns-clause-given_passes g c =
    all_have_passes c.args.shared.now c.loop-i.job_runs _ c.loop-i.i (omega (arith, c.loop-i-test.false, c.loop-i.auto.i-end, c.loop-i.auto.job_runs)) c.loop-i.invariant.jobs c.loop-i.invariant.given_passes
