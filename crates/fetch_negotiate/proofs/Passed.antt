-- What is passed over, and what is handed on.
use Rattle.std.proofs.Common.{◌≡◌, ℕ, zero, suc, ◌+◌, ◌-◌, ◌*◌, ◌/◌, ◌<◌, ◌≤◌, ◌⊎◌, inl, inr, Bool, true, false, cond, List, [], ◌∷◌, ◌++◌, map, drop, length, Option, Some, None, true≢false, refl, sym, ap, subst, ◌∙◌, arith, append_assoc, append-nil}
use Rattle.std.specs.Prelude.{fold, min, ◌||◌, ◌==◌, nat_lt, not}
use Rattle.std.specs.FinSet as set
use Rattle.std.specs.List.{All, AllByRecursion}
use Rattle.std.specs.Ordering.{eq_by_cmp}
use Rattle.std.proofs.lemmas.Bool.Decides.{nat_tests}
use Rattle.std.proofs.lemmas.List.Elements.{All-from_recursion}
use Rattle.fetch_base.specs.declared.id.ObjectId.{ObjectId}
use Rattle.fetch_store.specs.Graph.{Graph}
use Rattle.fetch_base.specs.Id.{id_cmp}
use Rattle.fetch_negotiate.specs.declared.skip.Skip.{Skip}
use Rattle.fetch_negotiate.specs.Ancestors.{links_of}
use Rattle.fetch_negotiate.specs.Haves.{Negotiation, taking, next_taken}
use Rattle.fetch_negotiate.specs.Passing.{IsEnd, IsOffer}
use Rattle.fetch_negotiate.specs.Skips.{Offer, Pairs, no_skip, longer, has_parents, is_offered, handed, higher, pair_of, hands, handing, pairs_of, offers, next_offered}
use Rattle.fetch_negotiate.proofs.Counting.{ends_none, ends_some, next_fewer, none, passed_over, some, untaken}

-- ---- one offer
module _ (g : Graph) where
  at_once : (n : Negotiation) (o : Offer) → IsEnd g n o.have o.later → IsOffer g n o
  at_once n o end = record { passed = []; each = tt; end = subst (λ (l : List ObjectId). IsEnd g (record n { taken = l }) o.have o.later) (sym (append-nil n.taken)) end }

  one_more : (n : Negotiation) (id : ObjectId) (o : Offer) → next_taken g n ≡ Some id → offers g n id ≡ false → IsOffer g (taking n (Some id)) o → IsOffer g n o
  one_more n id o next over rest =
      record { passed = id ∷ rest.passed; each = (next, over, rest.each); end = subst (λ (l : List ObjectId). IsEnd g (record n { taken = l }) o.have o.later) (append_assoc n.taken (id ∷ []) rest.passed) rest.end }

  offer_within : (f : ℕ) (n : Negotiation) → untaken g n ≤ f → IsOffer g n (next_offered g n)
  offer_within zero n h = at (next_taken g n) refl
    where
      at : (o : Option ObjectId) → next_taken g n ≡ o → IsOffer g n (next_offered g n)
      at None e = subst (IsOffer g n) (sym (ends_none g n e)) (at_once n (none g n) (e, refl))
      at (Some id) e = let lt = next_fewer g n id e in absurd (omega arith)
  offer_within (suc f) n h = at (next_taken g n) refl (λ m less. offer_within f m less)
    where
      chosen : (id : ObjectId) → next_taken g n ≡ Some id → (b : Bool) → offers g n id ≡ b → IsOffer g (taking n (Some id)) (next_offered g (taking n (Some id))) → IsOffer g n (next_offered g n)
      chosen id e true is rest = subst (IsOffer g n) (sym (ends_some g n id e is)) (at_once n (some g n id) (e, is, refl))
      chosen id e false is rest = subst (IsOffer g n) (sym (passed_over g n id e is)) (one_more n id (next_offered g (taking n (Some id))) e is rest)

      at : (o : Option ObjectId) → next_taken g n ≡ o → ((m : Negotiation) → untaken g m ≤ f → IsOffer g m (next_offered g m)) → IsOffer g n (next_offered g n)
      at None e rest = subst (IsOffer g n) (sym (ends_none g n e)) (at_once n (none g n) (e, refl))
      at (Some id) e rest = let lt = next_fewer g n id e in chosen id e (offers g n id) refl (rest (taking n (Some id)) (omega arith))

  pub offer_is : (n : Negotiation) → IsOffer g n (next_offered g n)
  offer_is n = offer_within (untaken g n) n (omega arith)

-- ---- the pairs
-- a pair that counts from one, or none
abbrev IsCounted : Skip → Type 0
IsCounted s = (0 < s.first) ⊎ (s ≡ no_skip)

higher_counted : (own other : Skip) → IsCounted own → IsCounted other → IsCounted (higher own other)
higher_counted own other a b = at (nat_lt own.first other.first)
  where
    at : (t : Bool) → IsCounted (cond t other own)
    at true = b
    at false = a

abbrev step : ObjectId → Skip → ObjectId × Skip → Skip
step id own p = cond (eq_by_cmp id_cmp p.0 id) (higher own p.1) own

folded_counted : (id : ObjectId) (pairs : Pairs) (own : Skip) → IsCounted own → AllByRecursion (λ (p : ObjectId × Skip). IsCounted p.1) pairs → IsCounted (fold (step id) own pairs)
folded_counted id [] own a each = a
folded_counted id (p ∷ pairs) own a each = folded_counted id pairs (step id own p) (at (eq_by_cmp id_cmp p.0 id)) each.1
  where
    at : (t : Bool) → IsCounted (cond t (higher own p.1) own)
    at true = higher_counted own p.1 a each.0
    at false = a

pub pair_counted : (id : ObjectId) (pairs : Pairs) → AllByRecursion (λ (p : ObjectId × Skip). IsCounted p.1) pairs → IsCounted (pair_of pairs id)
pair_counted id pairs each = folded_counted id pairs no_skip (inr refl) each

longer_counts : (first : ℕ) → 0 < longer first
longer_counts first = omega arith

left_over : (s : Skip) (t : Bool) → (s.left == 0 || t) ≡ false → s ≡ no_skip → ⊥
left_over s t h is = true≢false (sym (ap (λ (x : Skip). x.left == 0 || t) is) ∙ h)

handed_counts : (s : Skip) (t : Bool) → IsCounted s → 0 < (handed (s.left == 0 || t) s).first
handed_counts s t a = at (s.left == 0 || t) refl a
  where
    at : (b : Bool) → (s.left == 0 || t) ≡ b → IsCounted s → 0 < (handed b s).first
    at true e a = longer_counts s.first
    at false e (inl h) = h
    at false e (inr h) = absurd (left_over s t e h)

abbrev Counts : ObjectId × Skip → Type 0
Counts p = 0 < p.1.first

all_hand : (s : Skip) → 0 < s.first → (ids : List ObjectId) → AllByRecursion Counts (map (λ (p : ObjectId). (p, s)) ids)
all_hand s h [] = tt
all_hand s h (id ∷ ids) = (h, all_hand s h ids)

all_then : (xs ys : Pairs) → AllByRecursion Counts xs → AllByRecursion Counts ys → AllByRecursion Counts (xs ++ ys)
all_then [] ys a b = b
all_then (x ∷ xs) ys a b = (a.0, all_then xs ys a.1 b)

abbrev firsts_of : List ObjectId → Pairs
firsts_of tips = map (λ tip. (tip, no_skip)) tips

all_counted : (tips : List ObjectId) (more : Pairs) → AllByRecursion Counts more → AllByRecursion (λ (p : ObjectId × Skip). IsCounted p.1) (firsts_of tips ++ more)
all_counted [] [] each = tt
all_counted [] (p ∷ more) each = (inl each.0, all_counted [] more each.1)
all_counted (tip ∷ tips) more each = (inr refl, all_counted tips more each)

module _ (g : Graph) (border : set.FinSet id_cmp) where
  hands_count : (tips : List ObjectId) (more : Pairs) (id : ObjectId) → AllByRecursion Counts more → AllByRecursion Counts (hands g border (firsts_of tips ++ more) id)
  hands_count tips more id each =
      let s : Skip = pair_of (firsts_of tips ++ more) id in
      let t : Bool = not (has_parents g border id) in
      all_hand (handed (s.left == 0 || t) s) (handed_counts s t (pair_counted id (firsts_of tips ++ more) (all_counted tips more each))) (links_of g border id)

  pub record AreBehind (tips : List ObjectId) (pairs : Pairs) : Type 0 where
    pub more : Pairs
    pub is : pairs ≡ firsts_of tips ++ more
    pub count : AllByRecursion Counts more

  handing_counts : (tips taken : List ObjectId) (more : Pairs) → AllByRecursion Counts more → AreBehind tips (handing g border (firsts_of tips ++ more) taken)
  handing_counts tips [] more each = record { more = more; is = refl; count = each }
  handing_counts tips (id ∷ taken) more each =
      let new : Pairs = hands g border (firsts_of tips ++ more) id in
      subst (λ (l : Pairs). AreBehind tips (handing g border l taken)) (sym (append_assoc (firsts_of tips) more new))
      (handing_counts tips taken (more ++ new) (all_then more new each (hands_count tips more id each)))

dropped : (tips : List ObjectId) (more : Pairs) → drop (length tips) (firsts_of tips ++ more) ≡ more
dropped [] more = refl
dropped (tip ∷ tips) more = dropped tips more

pub pairs_count : (g : Graph) (n : Negotiation) → All (λ (p : ObjectId × Skip). 0 < p.1.first) (drop (length n.tips) (pairs_of g n))
unfolding pairs_of
pairs_count g n =
    let b = handing_counts g n.border n.tips n.taken [] tt in
    let start : pairs_of g n ≡ firsts_of n.tips ++ b.more = ap (λ (l : Pairs). handing g n.border l n.taken) (sym (append-nil (firsts_of n.tips))) ∙ b.is in
    subst (λ (l : Pairs). All Counts l) (sym (ap (drop (length n.tips)) start ∙ dropped n.tips b.more)) (All-from_recursion Counts b.more b.count)
