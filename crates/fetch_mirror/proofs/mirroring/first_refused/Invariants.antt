use Rattle.std.proofs.Common.{take}
use Rattle.fetch_mirror.specs.Mirroring.{AreUnrefused}
use Rattle.fetch_mirror.proofs.mirroring.first_refused.Given as goal

abbrev pub invariant-loop-i : goal.invariant-loop-i
invariant-loop-i l = AreUnrefused (take l.i l.job_runs)
