use Rattle.std.proofs.Common.{◌≡◌, ◌++◌, not, filter, take}
use Rattle.std.specs.FinSet as set
use Rattle.fetch_store.proofs.border.keep.Given as goal

abbrev pub invariant-loop-id : goal.invariant-loop-id
invariant-loop-id l = l.into.items ≡ l.fn.into.items ++ filter (λ id. not (set.contains l.left id)) (take l.id-index l.ids)
