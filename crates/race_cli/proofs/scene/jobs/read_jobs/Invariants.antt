use Rattle.std.proofs.Common.{◌≡◌, ◌-◌, length}
use Rattle.race_cli.specs.Jobs.{jobs_of, jobs_within, AreFew}
use Rattle.race_cli.proofs.Jobs.{before}
use Rattle.race_cli.proofs.scene.jobs.read_jobs.Given as goal

abbrev pub invariant-jobs : goal.invariant-jobs
invariant-jobs l = record {
  so_far : before l.jobs.items (jobs_within (8 - length l.jobs.items) l.rest) ≡ jobs_of l.fn.lines;
  few : AreFew l.jobs.items;
}

abbrev pub decreases-jobs : goal.decreases-jobs
decreases-jobs l = 8 - length l.jobs.items
