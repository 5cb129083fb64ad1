use Rattle.std.proofs.Common.{◌≡◌, ◌<◌, ◌≤◌, ℕ, true, get_or}
use Rattle.std.specs.Ordering.{is_lt}
use Rattle.fetch_base.specs.declared.id.ObjectId.{ObjectId}
use Rattle.fetch_base.specs.Id.{id_cmp}
use Rattle.fetch_reach.proofs.ids.first_not_below.Given as goal

abbrev pub invariant-loop-place : goal.invariant-loop-place
invariant-loop-place l = (k : ℕ) (d : ObjectId) → l.from ≤ k → k < l.place → is_lt (id_cmp (get_or l.ids k d) l.id) ≡ true
