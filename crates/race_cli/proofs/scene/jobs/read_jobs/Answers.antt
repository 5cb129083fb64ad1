use Rattle.std.proofs.Common.{rules, ◌≡◌, ◌++◌, ◌+◌, ◌-◌, length, [], ◌∷◌, suc, Some, None, Ok, arith, length-append}
use Rattle.race_cli.specs.Jobs as spec
use Rattle.race_cli.proofs.Jobs.{starts, goes, ends, fills, starts_failed, goes_failed}
use Rattle.race_cli.proofs.scene.jobs.read_jobs.Goals as goal

pub returns-in_err-first-clause-found : goal.returns-in_err-first-clause-found
returns-in_err-first-clause-found c = let e = starts_failed c.args.lines c.in_err-first.field-0.0 c.in_err-first.ensures in search rules

pub jobs-init : goal.jobs-init
jobs-init c = record {
  so_far = rw (c.in_ok-push.ensures.items, c.new-jobs.ensures.items) (starts c.args.lines c.in_ok-first.rest c.in_ok-first.first c.in_ok-first.ensures);
  few = rw (c.in_ok-push.ensures.items, c.new-jobs.ensures.items) (omega arith, omega arith);
}

pub returns-in_err-job-clause-found : goal.returns-in_err-job-clause-found
returns-in_err-job-clause-found c =
    let n = length c.jobs.jobs.items in
    let more : 8 - n ≡ suc (8 - (n + 1)) = omega (arith, c.len.ensures, c.jobs-test.true) in
    let e = goes_failed (8 - n) (8 - (n + 1)) c.jobs.jobs.items c.jobs.rest (spec.jobs_of c.args.lines) c.in_err-job.field-0.0 more c.jobs.invariant.so_far c.in_err-job.ensures in search rules

pub jobs-preserved : goal.jobs-preserved
jobs-preserved c =
    let n = length c.jobs.jobs.items in
    let more : 8 - n ≡ suc (8 - (n + 1)) = omega (arith, c.len.ensures, c.jobs-test.true) in
    let longer : length (c.jobs.jobs.items ++ c.in-Some.job ∷ []) ≡ n + 1 = length-append c.jobs.jobs.items (c.in-Some.job ∷ []) in
    let next : spec.further_job c.jobs.rest ≡ Ok (Some c.in-Some.job, c.in_ok-job.others) = rw (← c.in-Some.is) c.in_ok-job.ensures in
    record {
      so_far = rw (c.in_ok-push-in-Some.ensures.items, longer) (goes (8 - n) (8 - (n + 1)) c.jobs.jobs.items c.jobs.rest c.in_ok-job.others c.in-Some.job (spec.jobs_of c.args.lines) more next c.jobs.invariant.so_far);
      few = rw (c.in_ok-push-in-Some.ensures.items, longer) (omega arith, omega (arith, c.len.ensures, c.jobs-test.true));
    }

pub returns-in-None-clause-found : goal.returns-in-None-clause-found
returns-in-None-clause-found c =
    let n = length c.jobs.jobs.items in
    let more : 8 - n ≡ suc (8 - (n + 1)) = omega (arith, c.len.ensures, c.jobs-test.true) in
    let next : spec.further_job c.jobs.rest ≡ Ok (None, c.in_ok-job.others) = rw (← c.in-None.is) c.in_ok-job.ensures in
    rw c.from.ensures (ends (8 - n) (8 - (n + 1)) c.jobs.jobs.items c.jobs.rest c.in_ok-job.others (spec.jobs_of c.args.lines) more next c.jobs.invariant.so_far)

pub returns-clause-found : goal.returns-clause-found
returns-clause-found c =
    let n = length c.jobs.jobs.items in
    rw c.from-2.ensures (fills (8 - n) c.jobs.jobs.items c.jobs.rest (spec.jobs_of c.args.lines) (omega (arith, c.len.ensures, c.jobs-test.false)) c.jobs.invariant.so_far)
