use Rattle.std.proofs.Common.{sym, ap}
use Rattle.fetch_race.specs.Racing.{Race, IsRun}
use Rattle.fetch_race.specs.declared.job.Job.{Job}
use Rattle.fetch_race.proofs.Races.{run_by}
use Rattle.fetch_race.proofs.Rows.{not_both}
use Rattle.fetch_race.proofs.racing.run.Goals as goal

pub returns : goal.returns
returns g c =
    let race : Race g.row.P.Denot = record { answers = g.P.Peer.answers; told = g.P.Peer.told; faults = g.P.Peer.faults; trees = c.args.worktrees.now; opening = c.args.shared.now.opening } in
    let done = c.fetch_by_pass-pass.ensures in
    let job = c.arrive.ensures.job in
    let after : IsRun race c.in-Some.pass c.args.job_run.now c.arrive.new.job_run = record {
      after = c.fetch_by_pass-pass.result.0;
      receipt = c.fetch_by_pass-pass.result.1;
      answer = c.fetch_by_pass-pass.result.2;
      pass = c.arrive.ensures.pass;
      answer_is = c.arrive.ensures.answer;
      remote = ap (λ (j : Job g.row.P.Denot). j.remote) job;
      options = ap (λ (j : Job g.row.P.Denot). j.options) job;
      done = rw job done;
    } in
    record {
      ran = run_by race c.args.job_run.now c.arrive.new.job_run c.in-Some.pass (sym c.in-Some.ensures.value) after;
      left = λ none. absurd (not_both c.args.job_run.now.pass c.in-Some.pass (sym c.in-Some.ensures.value) none);
    }
