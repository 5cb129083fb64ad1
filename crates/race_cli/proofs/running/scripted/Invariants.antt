use Rattle.std.proofs.Common.{◌≡◌, ◌++◌}
use Rattle.std.specs.Vec.Iter.{into_iter_items}
use Rattle.race_cli.specs.RaceRun.{AreSetUp}
use Rattle.race_cli.proofs.running.scripted.Given as goal

abbrev pub invariant-loop-opened_case : goal.invariant-loop-opened_case
invariant-loop-opened_case l = record {
  next : (goal.iterator-loop-opened_case).can_next l.opened_case-iterator;
  ends : (goal.iterator-loop-opened_case).is_finite l.opened_case-iterator;
  split : l.yielded ++ into_iter_items l.opened_case-iterator ≡ l.fn.job_cases;
  set_up : AreSetUp l.yielded l.jobs.items;
}
