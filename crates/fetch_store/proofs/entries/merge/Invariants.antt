use Rattle.std.proofs.Common.{◌≡◌, ◌≤◌, ◌+◌, ◌++◌, [], ◌∷◌, take, drop, vec_capacity, length}
use Rattle.fetch_store.proofs.Merging.{IsMerging}
use Rattle.fetch_store.proofs.entries.merge.Given as goal

abbrev pub invariant-loop-end : goal.invariant-loop-end
invariant-loop-end g l = record {
  merging : IsMerging (take l.kept l.entries.items) (l.fresh.items ++ l.next ∷ []) (drop l.end l.entries.items) (l.fn.entries.items ++ l.fn.fresh.items);
  ends : l.end ≡ l.kept + (length l.fresh.items + 1);
  long : l.end ≤ length l.entries.items;
  len : length l.entries.items ≡ length l.fn.entries.items + length l.fn.fresh.items;
  capacity : vec_capacity l.fn.entries ≤ vec_capacity l.entries;
  fresh_capacity : vec_capacity l.fresh ≡ vec_capacity l.fn.fresh;
}

abbrev pub decreases-loop-end : goal.decreases-loop-end
decreases-loop-end g l = l.kept

abbrev pub invariant-loop-next : goal.invariant-loop-next
invariant-loop-next g l = record {
  merging : IsMerging (take l.kept l.entries.items) l.fresh.items (drop l.end l.entries.items) (l.fn.entries.items ++ l.fn.fresh.items);
  ends : l.end ≡ l.kept + length l.fresh.items;
  long : l.end ≤ length l.entries.items;
  len : length l.entries.items ≡ length l.fn.entries.items + length l.fn.fresh.items;
  capacity : vec_capacity l.fn.entries ≤ vec_capacity l.entries;
  fresh_capacity : vec_capacity l.fresh ≡ vec_capacity l.fn.fresh;
}

abbrev pub decreases-loop-next : goal.decreases-loop-next
decreases-loop-next g l = length l.fresh.items
