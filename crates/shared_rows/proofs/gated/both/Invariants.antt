use Rattle.std.proofs.Common.{◌≤◌, vec_len}
use Rattle.shared_rows.proofs.gated.both.Given as goal

abbrev pub invariant-loop-opened_case : goal.invariant-loop-opened_case
invariant-loop-opened_case l = record {
  next : (goal.iterator-loop-opened_case).can_next l.opened_case-iterator;
  ends : (goal.iterator-loop-opened_case).is_finite l.opened_case-iterator;
  few : vec_len l.jobs ≤ 2;
}
