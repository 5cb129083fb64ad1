use Rattle.std.proofs.Common.{◌≡◌, take}
use Rattle.fetch_base.specs.Faults.{Counts}
use Rattle.fetch_create.specs.Creation.{Reaches}
use Rattle.fetch_create.proofs.create.run.perform.Given as goal

abbrev pub invariant-loop-step : goal.invariant-loop-step
invariant-loop-step g l =
    record {
      done : Reaches (g.F.Files.told l.fn.files) (take l.step-index l.plan) (g.F.Files.told l.files);
      counts : Counts (g.F.Files.faults l.fn.files) (g.F.Files.faults l.files);
      may_fail : g.F.Files.may_fail l.files ≡ g.F.Files.may_fail l.fn.files;
    }
