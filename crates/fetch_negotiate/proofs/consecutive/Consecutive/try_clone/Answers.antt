use Rattle.fetch_negotiate.proofs.Copying.{walk}
use Rattle.fetch_negotiate.proofs.consecutive.Consecutive.try_clone.Goals as goal

pub invariant_of-result : goal.invariant_of-result
invariant_of-result c = walk c.in_ok-try_clone.field-0 c.self.inside.walk c.in_ok-try_clone.ensures c.self.invariant
