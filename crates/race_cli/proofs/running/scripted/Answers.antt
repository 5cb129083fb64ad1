use Rattle.std.proofs.Common.{◌++◌, ◌∷◌, [], List, sym, ap, ◌∙◌, append_assoc, subst}
use Rattle.std.specs.Vec.Iter.{into_iter_items}
use Rattle.fetch_race.specs.declared.job.Job.{Job}
use Rattle.fetch_wire.specs.Scripts.{Script}
use Rattle.race_cli.specs.RaceRun.{AreSetUp, IsSetUp}
use Rattle.race_cli.specs.declared.race_case.JobCase.{JobCase}
use Rattle.race_cli.proofs.Raced.{one_set_up}
use Rattle.race_cli.proofs.running.scripted.Goals as goal

pub loop-opened_case-preserved : goal.loop-opened_case-preserved
loop-opened_case-preserved c =
    let loop = c.loop-opened_case in
    let opened_case = c.in-Some.opened_case in
    let one : IsSetUp opened_case c.job_of.result = c.job_of.ensures in
    record {
      next = tt;
      ends = tt;
      split = append_assoc loop.yielded (opened_case ∷ []) (into_iter_items c.next.new.self) ∙ ap (λ (rest : List JobCase). loop.yielded ++ rest) (sym c.in-Some.ensures.steps.0) ∙ loop.invariant.split;
      set_up = subst (λ (jobs : List (Job Script)). AreSetUp (loop.yielded ++ opened_case ∷ []) jobs) (sym c.in_ok-push.ensures.items) (one_set_up loop.yielded loop.jobs.items opened_case c.job_of.result loop.invariant.set_up one);
    }
