use Rattle.std.proofs.Common.{◌≡◌, map}
use Rattle.fetch_race.proofs.passes.job_runs_of.Given as goal

abbrev pub invariant-loop-job : goal.invariant-loop-job
invariant-loop-job g l = map (λ r. r.job) l.job_runs.items ≡ l.yielded
