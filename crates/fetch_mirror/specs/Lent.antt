-- Jobs whose peers are lent.
use Rattle.std.specs.Prelude.{List, [], ◌∷◌}
use Rattle.fetch_race.specs.declared.job.JobRun.{JobRun}

-- a job as if it had the peer that is lent to it
abbrev pub owning : {P : Type 0} → JobRun (Unit {0}) → P → JobRun P
owning job_run peer = record {
  job = record { remote = job_run.job.remote; peer = peer; options = job_run.job.options };
  pass = job_run.pass;
  answer = job_run.answer;
}

-- so each of a row
abbrev pub all_owning : {P : Type 0} → List (JobRun (Unit {0})) → List P → List (JobRun P)
all_owning [] peers = []
all_owning (job_run ∷ job_runs) [] = []
all_owning (job_run ∷ job_runs) (peer ∷ peers) = owning job_run peer ∷ all_owning job_runs peers
