use Rattle.std.proofs.Common.{[], sym, ap}
use Rattle.fetch_race.specs.Racing.{Race, IsRun}
use Rattle.fetch_race.specs.declared.job.Job.{Job}
use Rattle.fetch_race.proofs.Races.{run_by}
use Rattle.fetch_mirror.specs.Lent.{owning}
use Rattle.fetch_mirror.proofs.working.fetch_one.Goals as goal

pub returns : goal.returns
returns g c =
    let race : Race g.row.P.Denot = record { answers = g.P.Peer.answers; told = g.P.Peer.told; faults = g.P.Peer.faults; trees = []; opening = c.args.shared.now.opening } in
    let done = c.fetch_by_pass-pass.ensures in
    let job = c.arrive.ensures.job in
    let after : IsRun race c.in-Some.pass (owning c.args.job_run.now c.args.peer.now) (owning c.arrive.new.job_run c.fetch_by_pass-pass.new.peer) = record {
      after = c.fetch_by_pass-pass.result.0;
      receipt = c.fetch_by_pass-pass.result.1;
      answer = c.fetch_by_pass-pass.result.2;
      pass = c.arrive.ensures.pass;
      answer_is = c.arrive.ensures.answer;
      remote = ap (λ (j : Job (Unit {0})). j.remote) job;
      options = ap (λ (j : Job (Unit {0})). j.options) job;
      done = done;
    } in
    record { ran = run_by race (owning c.args.job_run.now c.args.peer.now) (owning c.arrive.new.job_run c.fetch_by_pass-pass.new.peer) c.in-Some.pass (sym c.in-Some.ensures.value) after }
