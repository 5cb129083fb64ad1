use Rattle.std.proofs.Common.{length, ◌-◌, ◌≡◌, ◌≤◌}
use Rattle.fetch_store.proofs.starts.Starts.add.Given as goal

abbrev pub invariant-loop-below : goal.invariant-loop-below
invariant-loop-below g l = l.below ≤ length l.entries

abbrev pub decreases-loop-below : goal.decreases-loop-below
decreases-loop-below g l = length l.entries - l.below

abbrev pub invariant-loop-place : goal.invariant-loop-place
invariant-loop-place g l = record { below : l.below ≤ length l.entries; len : length l.self.counts.items ≡ length l.fn.self.counts.items }
