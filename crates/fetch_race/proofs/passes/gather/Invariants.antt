use Rattle.std.proofs.Common.{◌≡◌, ◌≤◌, ℕ, map, Some}
use Rattle.std.specs.Prelude.{slice_get}
use Rattle.fetch_race.specs.Passes.{AreGathered}
use Rattle.fetch_race.proofs.passes.gather.Given as goal

abbrev pub invariant-loop-i : goal.invariant-loop-i
invariant-loop-i g l = record {
  shared : l.all.shared ≡ l.shared;
  behind : (k : ℕ) (r : _) → l.i ≤ k → slice_get l.job_runs k ≡ Some r → slice_get l.initial.job_runs k ≡ Some r;
  answers : map (λ r. r.answer) l.job_runs ≡ map (λ r. r.answer) l.initial.job_runs;
  jobs : map (λ r. r.job) l.job_runs ≡ map (λ r. r.job) l.initial.job_runs;
  gathered : AreGathered l.initial.job_runs l.i l.all;
}
