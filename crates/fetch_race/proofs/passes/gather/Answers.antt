use Rattle.std.proofs.Common.{◌≡◌, ℕ, ◌<◌, length, Some, refl, sym, ap, subst, ◌∙◌, arith}
use Rattle.std.specs.Prelude.{slice_get, IfSome}
use Rattle.std.proofs.Math.Seq.{map-set_same}
use Rattle.std.proofs.lemmas.Option.{slice_get_read}
use Rattle.fetch_race.specs.Passes.{AreGathered}
use Rattle.fetch_race.specs.declared.job.JobRun.{JobRun}
use Rattle.fetch_race.proofs.Arrived.{none_gathered, one_gathered, behind, if_over}
use Rattle.fetch_race.proofs.passes.gather.Goals as goal

pub loop-i-init : goal.loop-i-init
loop-i-init g c = record {
  shared = c.requires.rest.shared_is;
  behind = λ k r low at. at;
  answers = refl;
  jobs = refl;
  gathered = none_gathered c.args.shared.now c.args.job_runs.now c.args.rest c.requires.rest;
}

pub take_pass-all-requires-clause-pass : goal.take_pass-all-requires-clause-pass
take_pass-all-requires-clause-pass g c =
    let i = c.loop-i.i in
    let x = c.index-job_runs-i.result in
    let lt : i < length c.loop-i.job_runs = omega (arith, c.loop-i-test.true, c.loop-i.auto.job_runs) in
    let at : slice_get c.loop-i.job_runs i ≡ Some x = slice_get_read c.loop-i.job_runs (length c.loop-i.job_runs) i x refl lt c.index-job_runs-i.is in
    let found : slice_get c.args.job_runs.now i ≡ Some x = c.loop-i.invariant.behind i x (omega arith) at in
    subst (λ (r : JobRun g.row.P.Denot). IfSome r.pass (λ p. p.shared ≡ c.args.shared.now)) c.index-job_runs-i.is (if_over c.args.shared.now i x (c.requires.over i x found))

pub loop-i-preserved : goal.loop-i-preserved
loop-i-preserved g c =
    let i = c.loop-i.i in
    let x = c.index-job_runs-i.result in
    let new = c.take_pass-all.new.job_run in
    let lt : i < length c.loop-i.job_runs = omega (arith, c.loop-i-test.true, c.loop-i.auto.job_runs) in
    let at : slice_get c.loop-i.job_runs i ≡ Some x = slice_get_read c.loop-i.job_runs (length c.loop-i.job_runs) i x refl lt c.index-job_runs-i.is in
    let found : slice_get c.args.job_runs.now i ≡ Some x = c.loop-i.invariant.behind i x (omega arith) at in
    record {
      shared = c.take_pass-all.ensures.shared;
      behind = behind c.loop-i.job_runs c.args.job_runs.now i new c.loop-i.invariant.behind;
      answers = map-set_same (λ (r : JobRun g.row.P.Denot). r.answer) c.loop-i.job_runs i new x c.take_pass-all.ensures.answer ∙ c.loop-i.invariant.answers;
      jobs = map-set_same (λ (r : JobRun g.row.P.Denot). r.job) c.loop-i.job_runs i new x c.take_pass-all.ensures.job ∙ c.loop-i.invariant.jobs;
      gathered = one_gathered c.args.shared.now c.args.job_runs.now i x c.loop-i.all c.take_pass-all.result c.loop-i.invariant.gathered found (c.requires.over i x found) (λ other is. c.take_pass-all.ensures.joined other (ap (λ (r : JobRun g.row.P.Denot). r.pass) (sym c.index-job_runs-i.is) ∙ is));
    }

pub returns-clause-gathered : goal.returns-clause-gathered
returns-clause-gathered g c =
    let all : c.loop-i.i ≡ length c.args.job_runs.now = omega (arith, c.loop-i-test.false, c.loop-i.auto.i-end, c.loop-i.auto.job_runs) in
    subst (λ (n : ℕ). AreGathered c.args.job_runs.now n c.loop-i.all) all c.loop-i.invariant.gathered
