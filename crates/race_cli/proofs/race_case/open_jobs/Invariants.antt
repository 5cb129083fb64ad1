use Rattle.std.proofs.Common.{◌≡◌, ◌++◌, map}
use Rattle.std.specs.Vec.Iter.{into_iter_items}
use Rattle.race_cli.specs.RaceCases.{job_in}
use Rattle.race_cli.proofs.race_case.open_jobs.Given as goal

abbrev pub invariant-loop-job : goal.invariant-loop-job
invariant-loop-job l = record {
  next : (goal.iterator-loop-job).can_next l.job-iterator;
  ends : (goal.iterator-loop-job).is_finite l.job-iterator;
  rest : l.job_cases.items ++ map job_in (into_iter_items l.job-iterator) ≡ map job_in l.fn.jobs;
}
