use Rattle.std.proofs.Common.{◌≡◌, ℕ, ◌<◌, ◌≤◌, true, [], not, filter, length, get_or, take}
use Rattle.std.specs.Ordering.{is_lt}
use Rattle.fetch_base.specs.declared.id.ObjectId.TheVariants.{Sha1}
use Rattle.fetch_base.specs.Id.{id_cmp}
use Rattle.fetch_reach.specs.Sets.{is_among}
use Rattle.fetch_reach.proofs.ids.difference.Given as goal

-- what stands before the place is below each id that is still to come
abbrev pub invariant-loop-id : goal.invariant-loop-id
invariant-loop-id l = record {
  left : l.left ≡ filter (λ q. not (is_among q l.without)) (take l.id-index l.ids);
  within : l.place ≤ length l.without;
  below : (k j : ℕ) → k < l.place → l.id-index ≤ j → j < length l.ids → is_lt (id_cmp (get_or l.without k (Sha1 [])) (get_or l.ids j (Sha1 []))) ≡ true;
}
