use Rattle.std.proofs.Common.{◌≤◌, ◌+◌, ◌-◌, ◌*◌, ◌^◌, length}
use Rattle.fetch_store.proofs.Probes.{IsProbing}
use Rattle.fetch_store.proofs.entries.find_counted.Given as goal

abbrev pub invariant-loop-low : goal.invariant-loop-low
invariant-loop-low g l = record {
  probing : IsProbing l.entries l.id l.low l.high;
  inside : l.low ≤ l.high;
  end : l.high ≤ length l.entries;
  rises : l.fn.steps ≤ l.steps;
  half : 2 ^ (l.steps - l.fn.steps) * (l.high - l.low) ≤ length l.entries;
  cost : 2 ^ (l.steps - l.fn.steps) ≤ 2 * length l.entries + 1;
}

abbrev pub decreases-loop-low : goal.decreases-loop-low
decreases-loop-low g l = l.high - l.low
