use Rattle.std.proofs.Common.{◌≡◌}
use Rattle.shared_rows.proofs.sharing.tell_lines.Given as goal

abbrev pub invariant-loop-line : goal.invariant-loop-line
invariant-loop-line g l = l.state.repository.state.hash ≡ l.desk.kind
