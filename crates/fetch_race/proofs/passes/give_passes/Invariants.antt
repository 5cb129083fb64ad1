use Rattle.std.proofs.Common.{◌≡◌, map}
use Rattle.fetch_race.specs.Passes.{IsRest}
use Rattle.fetch_race.proofs.GivenPasses.{HavePassesBelow}
use Rattle.fetch_race.proofs.passes.give_passes.Given as goal

abbrev pub invariant-loop-i : goal.invariant-loop-i
invariant-loop-i g l = record {
  rest : IsRest l.shared l.i l.rest;
  jobs : map (λ r. r.job) l.job_runs ≡ map (λ r. r.job) l.initial.job_runs;
  given_passes : HavePassesBelow l.shared l.i l.job_runs;
}
