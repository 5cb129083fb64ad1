use Rattle.std.proofs.Common.{◌≡◌, ◌-◌, length}
use Rattle.fetch_negotiate.specs.Paired.{IsPaired}
use Rattle.fetch_negotiate.proofs.skips.enter.Given as goal

abbrev pub invariant-handed : goal.invariant-handed
invariant-handed l = record { paired : IsPaired l.skips; handed : l.skips.handed ≡ l.fn.skips.handed }

abbrev pub decreases-handed : goal.decreases-handed
decreases-handed l = length l.skips.handed.items - l.skips.entered
