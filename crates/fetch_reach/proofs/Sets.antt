-- Ids of two lists.
use Rattle.std.proofs.Common.{◌≡◌, ℕ, ◌+◌, ◌<◌, Bool, true, false, cond, not, ◌||◌, List, [], ◌∷◌, ◌++◌, length, take, get_or, filter, ⊎_elim, inl, inr, true≢false, refl, sym, ap, subst, ◌∙◌, arith, Contains}
use Rattle.std.specs.Prelude.{◌⊎◌, ◌↔◌}
use Rattle.std.specs.List.Sorted.{IsStrictlySortedBy}
use Rattle.std.specs.Ordering.{eq_by_cmp, is_lt}
use Rattle.std.specs.FinSet as set
use Rattle.std.specs.declared.cmp.Ordering.{Ordering}
use Rattle.std.specs.declared.cmp.Ordering.TheVariants.{Less, Equal, Greater}
use Rattle.std.specs.Cmp.{tied_itself}
use Rattle.std.proofs.lemmas.Bool.{cases_lt}
use Rattle.std.proofs.lemmas.List.{append-nil, get_or_default}
use Rattle.std.proofs.lemmas.List.Elements.{filter_more}
use Rattle.std.proofs.lemmas.List.Folds.{list_any-append}
use Rattle.std.proofs.lemmas.Map.Keys.{Less-from_sorted}
use Rattle.fetch_base.specs.declared.id.ObjectId.{ObjectId}
use Rattle.fetch_store.specs.Borders.{set_of}
use Rattle.fetch_base.specs.Id.{id_cmp}
use Rattle.fetch_store.proofs.Borders.{named-Contains, Contains-named}
use Rattle.fetch_base.proofs.Ids.{id_cmp_total}
use Rattle.fetch_store.proofs.Members.{kept_in, passed_in}
use Rattle.fetch_reach.specs.Sets.{is_among}

either_true : (a b : Bool) → (a || b) ≡ true → (a ≡ true) ⊎ (b ≡ true)
either_true true b e = inl refl
either_true false b e = inr e

left_true : (a b : Bool) → a ≡ true → (a || b) ≡ true
left_true true b e = refl
left_true false b e = absurd cc

right_true : (a b : Bool) → b ≡ true → (a || b) ≡ true
right_true true b e = refl
right_true false b e = e

-- two lists of one set have the same ids
among_set : (xs ys : List ObjectId) → set_of xs ≡ set_of ys → (id : ObjectId) → is_among id xs ≡ is_among id ys
among_set xs ys same id =
    sym (set.contains-from_list id_cmp_total xs id) ∙ ap (λ s. set.contains s id) same ∙ set.contains-from_list id_cmp_total ys id

pub of_both : (ids others all : List ObjectId) → set_of all ≡ set_of (ids ++ others) → (id : ObjectId) → Contains all id ↔ (Contains ids id ⊎ Contains others id)
of_both ids others all same id =
    let parts : is_among id all ≡ (is_among id ids || is_among id others) = among_set all (ids ++ others) same id ∙ list_any-append (eq_by_cmp id_cmp id) ids others in (
      λ here. ⊎_elim (λ t. inl (Contains-named id ids t)) (λ t. inr (Contains-named id others t)) (either_true _ _ (sym parts ∙ named-Contains id all here)),
      λ there. Contains-named id all (parts ∙ ⊎_elim (λ h. left_true _ _ (named-Contains id ids h)) (λ h. right_true _ _ (named-Contains id others h)) there),
    )

not_true : (b : Bool) → not b ≡ true → b ≡ true → ⊥
not_true true e f = true≢false (sym e)
not_true false e f = true≢false (sym f)

not_so : (b : Bool) → (b ≡ true → ⊥) → not b ≡ true
not_so true none = absurd (none refl)
not_so false none = refl

pub of_one : (ids without left : List ObjectId) → left ≡ filter (λ q. not (is_among q without)) ids → (id : ObjectId) → Contains left id ↔ (Contains ids id × ¬ Contains without id)
of_one ids without left is id =
    let t : ObjectId → Bool = λ q. not (is_among q without) in (
      λ here. let p = passed_in t ids id (subst (λ (xs : List ObjectId). Contains xs id) is here) in (p.0, λ there. not_true (is_among id without) p.1 (named-Contains id without there)),
      λ p. subst (λ (xs : List ObjectId). Contains xs id) (sym is) (kept_in t ids id (not_so (is_among id without) (λ e. p.1 (Contains-named id without e))) p.0),
    )

-- ---- places among ascending ids

not_less_itself : (id : ObjectId) → is_lt (id_cmp id id) ≡ true → ⊥
not_less_itself id e = true≢false (sym e ∙ ap is_lt (tied_itself id_cmp_total id))

-- An id of ascending ids stands at the first place that isn't below it.
pub at_place : (id d : ObjectId) (ids : List ObjectId) (place : ℕ) → IsStrictlySortedBy id_cmp ids
    → ((k : ℕ) → k < place → is_lt (id_cmp (get_or ids k d) id) ≡ true)
    → (place < length ids → is_lt (id_cmp (get_or ids place d) id) ≡ false)
    → is_among id ids ≡ true → (place < length ids) × (get_or ids place id ≡ id)
at_place id d ids place rise below at known =
    let h = Contains-named id ids known in
    let is : get_or ids h.0 d ≡ id = get_or_default ids h.0 d id h.1 ∙ h.2 in
    ⊎_elim (λ before. absurd (not_less_itself id (subst (λ x. is_lt (id_cmp x id) ≡ true) is (below h.0 before))))
    (λ from.
    ⊎_elim
    (λ behind.
    absurd (true≢false (ap is_lt (sym (subst (λ x. id_cmp (get_or ids place d) x ≡ Less) is (Less-from_sorted id_cmp ids place h.0 d rise behind h.1))) ∙ at (omega (arith, h.1)))))
    (λ here. let same : h.0 ≡ place = omega arith in (subst (λ k. k < length ids) same h.1, subst (λ k. get_or ids k id ≡ id) same h.2)) (cases_lt place h.0))
    (cases_lt h.0 place)

-- an id that stands at a place is one of the ids
pub place_among : (id : ObjectId) (ids : List ObjectId) (place : ℕ) → place < length ids → get_or ids place id ≡ id → is_among id ids ≡ true
place_among id ids place lt is = named-Contains id ids (place, lt, is)

-- ---- one id after the other

less_of : (o : Ordering) → is_lt o ≡ true → o ≡ Less
less_of Less e = refl
less_of Equal e = absurd cc
less_of Greater e = absurd cc

pub below_on : (a b c : ObjectId) → is_lt (id_cmp a b) ≡ true → id_cmp b c ≡ Less → is_lt (id_cmp a c) ≡ true
below_on a b c ab bc = ap is_lt (id_cmp_total.trans a b c (less_of (id_cmp a b) ab) bc)

abbrev lacks : List ObjectId → ObjectId → Bool
lacks without q = not (is_among q without)

-- with one id more, which is kept where the other list doesn't have it
pub one_more : (ids without : List ObjectId) (i : ℕ) (d : ObjectId) (left after : List ObjectId) (known : Bool) → i < length ids → known ≡ is_among (get_or ids i d) without
    → left ≡ filter (lacks without) (take i ids) → after ≡ cond known left (left ++ get_or ids i d ∷ []) → after ≡ filter (lacks without) (take (i + 1) ids)
one_more ids without i d left after known lt is before now =
    now ∙ ap (λ (xs : List ObjectId). cond known xs (xs ++ get_or ids i d ∷ [])) before ∙ chosen known (filter (lacks without) (take i ids)) (get_or ids i d)
    ∙ ap (λ b. filter (lacks without) (take i ids) ++ cond (not b) (get_or ids i d ∷ []) []) is ∙ sym (filter_more (lacks without) ids i d lt)
  where
    chosen : (b : Bool) (xs : List ObjectId) (x : ObjectId) → cond b xs (xs ++ x ∷ []) ≡ xs ++ cond (not b) (x ∷ []) []
    chosen true xs x = sym (append-nil xs)
    chosen false xs x = refl
