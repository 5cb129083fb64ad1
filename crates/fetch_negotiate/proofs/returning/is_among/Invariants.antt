use Rattle.std.proofs.Common.{◌≡◌, take, false}
use Rattle.fetch_negotiate.specs.Commits.{has}
use Rattle.fetch_negotiate.proofs.returning.is_among.Given as goal

abbrev pub invariant-loop-other : goal.invariant-loop-other
invariant-loop-other l = has (take l.other-index l.ids) l.id ≡ false
