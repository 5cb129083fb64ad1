use Rattle.fetch_store.specs.Entries.{Surrounds}
use Rattle.std.proofs.Common.{◌-◌}
use Rattle.fetch_store.proofs.entries.place_in_order.Given as goal

abbrev pub invariant-loop-low : goal.invariant-loop-low
invariant-loop-low g l = Surrounds l.entries l.id l.low l.high

abbrev pub decreases-loop-low : goal.decreases-loop-low
decreases-loop-low g l = l.high - l.low
