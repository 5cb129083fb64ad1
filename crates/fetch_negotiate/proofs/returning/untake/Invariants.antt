use Rattle.std.proofs.Common.{length}
use Rattle.fetch_negotiate.proofs.GivingBack.{IsUntaking}
use Rattle.fetch_negotiate.proofs.returning.untake.Given as goal

abbrev pub invariant-taken : goal.invariant-taken
invariant-taken l = IsUntaking l.count l.fn.frontier l.frontier

abbrev pub decreases-taken : goal.decreases-taken
decreases-taken l = length l.frontier.taken.items
