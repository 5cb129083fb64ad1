use Rattle.std.proofs.Common.{◌≡◌, ◌++◌, ℕ, List, length, drop, take, map, Some, sym, subst, arith}
use Rattle.std.specs.Prelude.{slice_get, IsSome}
use Rattle.fetch_race.specs.Racing.{Race}
use Rattle.fetch_race.specs.Passes.{HaveRaced}
use Rattle.fetch_race.specs.declared.job.JobRun.{JobRun}
use Rattle.fetch_race.proofs.Races.{all_answered, raced_so}
use Rattle.fetch_race.proofs.Rows.{front_is}
use Rattle.fetch_race.proofs.passes.raced.Goals as goal

pub told-requires : goal.told-requires
told-requires g c =
    let race : Race g.row.P.Denot = record { answers = g.P.Peer.answers; told = g.P.Peer.told; faults = g.P.Peer.faults; trees = c.args.worktrees.now; opening = c.args.shared.opening } in
    let new = c.race_among-pass.new.job_runs in
    let count : c.args.job_runs.len ≡ length new = omega (arith, c.args.job_runs.ok.0, c.race_among-pass.auto.job_runs) in
    let same = front_is c.args.job_runs.len new (drop (length new) c.args.job_runs.items) count in
    record {
      answered = subst (λ (l : List (JobRun g.row.P.Denot)). (i : ℕ) (job_run : JobRun g.row.P.Denot) → slice_get l i ≡ Some job_run → IsSome job_run.answer) (sym same)
          (all_answered race c.race_among-pass.result.front _ new c.race_among-pass.ensures.raced);
      room = c.requires.room;
    }

pub returns : goal.returns
returns g c =
    let race : Race g.row.P.Denot = record { answers = g.P.Peer.answers; told = g.P.Peer.told; faults = g.P.Peer.faults; trees = c.args.worktrees.now; opening = c.args.shared.opening } in
    let closed = c.closed-repo.ensures in
    let told = c.told.ensures in
    let new = c.race_among-pass.new.job_runs in
    let count : c.args.job_runs.len ≡ length new = omega (arith, c.args.job_runs.ok.0, c.race_among-pass.auto.job_runs) in
    let same = front_is c.args.job_runs.len new (drop (length new) c.args.job_runs.items) count in
    let front = c.race_among-pass.result.front in
    let jobs = map (λ (r : JobRun g.row.P.Denot). r.job) c.args.job_runs.items in
    let raced : HaveRaced race front jobs new = subst (λ (l : List (JobRun g.row.P.Denot)). HaveRaced race front (map (λ r. r.job) l) new) c.as_mut_slice.ensures.value c.race_among-pass.ensures.raced in
    let have = subst (λ (l : List (JobRun g.row.P.Denot)). HaveRaced race front jobs l) (sym same) raced in
    record {
      raced = raced_so race jobs (take c.args.job_runs.len (new ++ drop (length new) c.args.job_runs.items)) front c.closed-repo.result.0 c.closed-repo.result.1.items c.told.result closed.kept closed.journal closed.numbered have
          told.repo told.journal told.answers told.peers;
    }
