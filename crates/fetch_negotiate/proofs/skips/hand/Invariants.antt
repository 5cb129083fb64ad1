use Rattle.std.proofs.Common.{◌≡◌, ◌+◌, ◌≤◌, ◌++◌, map, take, length, vec_len, vec_capacity}
use Rattle.fetch_negotiate.proofs.skips.hand.Given as goal

abbrev pub invariant-loop-id : goal.invariant-loop-id
invariant-loop-id l =
    record {
      handed : l.skips.handed.items ≡ l.fn.skips.handed.items ++ map (λ id. (id, l.skip)) (take l.id-index l.ids);
      entered : l.skips.entered ≡ l.fn.skips.entered;
      pairs : l.skips.pairs ≡ l.fn.skips.pairs;
      len : vec_len l.skips.handed ≡ vec_len l.fn.skips.handed + l.id-index;
      room : vec_len l.fn.skips.handed + length l.ids ≤ vec_capacity l.skips.handed;
    }
