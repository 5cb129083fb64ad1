use Rattle.std.proofs.Common.{ℕ, ◌+◌, ◌<◌, get_or}
use Rattle.fetch_store.proofs.fronts.rises.Given as goal

abbrev pub invariant-loop-i : goal.invariant-loop-i
invariant-loop-i l = (k : ℕ) (d : ℕ × ℕ) → k + 1 < l.i → (get_or l.places k d).0 < (get_or l.places (k + 1) d).0
