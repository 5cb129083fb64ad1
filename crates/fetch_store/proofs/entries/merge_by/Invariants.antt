use Rattle.std.proofs.Common.{◌≡◌, ◌+◌, ◌++◌, [], ◌∷◌, reverse, vec_capacity, length}
use Rattle.fetch_store.proofs.Merging.{IsMerging}
use Rattle.fetch_store.proofs.entries.merge_by.Given as goal

abbrev pub invariant-loop-last : goal.invariant-loop-last
invariant-loop-last g l = record {
  merging : IsMerging l.entries.items (l.fresh.items ++ l.next ∷ []) (reverse l.moved.items) (l.fn.entries.items ++ l.fn.fresh.items);
  len : length l.entries.items + (length l.fresh.items + 1 + length l.moved.items) ≡ length l.fn.entries.items + length l.fn.fresh.items;
  capacity : vec_capacity l.entries ≡ vec_capacity l.fn.entries;
  moved_capacity : vec_capacity l.moved ≡ vec_capacity l.fn.moved;
}

abbrev pub decreases-loop-last : goal.decreases-loop-last
decreases-loop-last g l = length l.entries.items

abbrev pub invariant-loop-next : goal.invariant-loop-next
invariant-loop-next g l = record {
  merging : IsMerging l.entries.items l.fresh.items (reverse l.moved.items) (l.fn.entries.items ++ l.fn.fresh.items);
  len : length l.entries.items + (length l.fresh.items + length l.moved.items) ≡ length l.fn.entries.items + length l.fn.fresh.items;
  capacity : vec_capacity l.entries ≡ vec_capacity l.fn.entries;
  moved_capacity : vec_capacity l.moved ≡ vec_capacity l.fn.moved;
}

abbrev pub decreases-loop-next : goal.decreases-loop-next
decreases-loop-next g l = length l.fresh.items
