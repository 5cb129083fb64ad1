use Rattle.std.proofs.Common.{◌≡◌, map}
use Rattle.fetch_mirror.specs.Mirroring.{worker}
use Rattle.fetch_mirror.proofs.working.job_runs_of.Given as goal

abbrev pub invariant-loop-specs : goal.invariant-loop-specs
invariant-loop-specs l = l.job_runs.items ≡ map (worker l.fn.bound) l.yielded
