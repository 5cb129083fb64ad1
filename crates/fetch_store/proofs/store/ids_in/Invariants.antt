use Rattle.std.proofs.Common.{◌≡◌, map, take}
use Rattle.fetch_store.proofs.store.ids_in.Given as goal

abbrev pub invariant-loop-id : goal.invariant-loop-id
invariant-loop-id l = l.ids.items ≡ map (λ entry. entry.0) (take l.id-index l.index)
