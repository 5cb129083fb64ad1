-- A walk, id by id, and what it costs.
use Rattle.std.proofs.Common.{◌≡◌, ℕ, ◌+◌, ◌<◌, ◌≤◌, Bool, true, false, cond, List, [], ◌∷◌, ◌++◌, length, take, drop, get_or, filter, sum_by, Contains, Option, Some, None, refl, sym, ap, ap₂, subst, ◌∙◌, inl, inr, arith, add_assoc}
use Rattle.std.specs.Prelude.{◌⊎◌, ◌↔◌, IsSome, is_some}
use Rattle.std.specs.FinMap.{get, keys, contains_key, contains_key-keys}
use Rattle.std.specs.List.{IsDistinct}
use Rattle.std.specs.List.Sorted.{IsStrictlySortedBy}
use Rattle.std.specs.Option.{option_map, option_map_or}
use Rattle.std.specs.Ordering.{eq_by_cmp}
use Rattle.std.proofs.lemmas.Bool.{cases_lt}
use Rattle.std.proofs.lemmas.List.{get_or_append_left, get_or_default, drop_more, take-append-drop, take-append-le}
use Rattle.std.proofs.lemmas.List.Elements.{All-contains, All-from_recursion, Contains-append_cases, Contains-append_left, Contains-append_right, filter_agree}
use Rattle.std.proofs.lemmas.List.Kept.{IsStrictlySortedBy-filter}
use Rattle.std.proofs.lemmas.List.Sums.{sum_by-append, sum_by-cons, sum_by-take-le, sum_by_more}
use Rattle.std.proofs.lemmas.Map.Keys.{IsDistinct-head, IsDistinct-tail}
use Rattle.fetch_base.specs.declared.id.ObjectId.{ObjectId}
use Rattle.fetch_store.specs.Closed.{Holding, Reached, links_at, links_within}
use Rattle.fetch_store.specs.Found.{there, with_each}
use Rattle.fetch_store.specs.Marks.{is_among}
use Rattle.fetch_objects.specs.Objects.{Stored}
use Rattle.fetch_store.specs.Spread.{IsNext, IsPath, IsWithin, Nexts, looked_at, next_to, nexts_in}
use Rattle.fetch_store.specs.Stores.{ObjectMap}
use Rattle.fetch_base.specs.Id.{id_cmp}
use Rattle.fetch_store.proofs.Borders.{Contains-named, named-Contains}
use Rattle.fetch_store.proofs.Finds.{is_some-mapped, ties}
use Rattle.fetch_store.proofs.Keys.{keys-rise}
use Rattle.fetch_store.proofs.Members.{cases_in, first_in, kept_in, later_in, none_in, passed_in}
use Rattle.fetch_store.proofs.Spreading.{Adds, IsThere, adds_there, reached_within, stays, step_on}

none_distinct : IsDistinct (eq_by_cmp id_cmp) []
unfolding IsDistinct
none_distinct = tt

-- ---- one id after the other
one_by : (found rest : List ObjectId) (id : ObjectId) (t : Bool) → with_each (with_each found (cond t (id ∷ []) [])) rest ≡ with_each found (cond t (id ∷ rest) rest)
one_by found rest id true = refl
one_by found rest id false = refl

-- something is next to what is stored, and to nothing else
there_is : (h : Holding) (id : ObjectId) → is_some (nexts_in h id) ≡ contains_key h.objects id
there_is h id = is_some-mapped (links_within h.border id) (get h.objects id)

pub there_stored : (h : Holding) (ids : List ObjectId) → there (nexts_in h) ids ≡ filter (contains_key h.objects) ids
there_stored h ids = filter_agree (λ id. is_some (nexts_in h id)) (contains_key h.objects) (λ id. there_is h id) ids

-- where an id that is looked up is added, it is the first of those that are stored
pub looked_up : (objects : ObjectMap) (found now rest : List ObjectId) (id : ObjectId) → now ≡ with_each found (cond (contains_key objects id) (id ∷ []) [])
    → with_each now (filter (contains_key objects) rest) ≡ with_each found (filter (contains_key objects) (id ∷ rest))
looked_up objects found now rest id is =
    ap (λ (xs : List ObjectId). with_each xs (filter (contains_key objects) rest)) is ∙ one_by found (filter (contains_key objects) rest) id (contains_key objects id)

-- ---- from what is next, and back
listed : (o : Option (List ObjectId)) (id : ObjectId) → Contains (option_map_or (λ (ids : List ObjectId). ids) o []) id → (ids : List ObjectId) × (o ≡ Some ids) × Contains ids id
listed None id h = absurd (none_in id h)
listed (Some ids) id h = (ids, refl, h)

module _ (nexts : Nexts) where
  is_next : (from to : ObjectId) → IsThere nexts (next_to nexts from) to → IsNext nexts from to
  is_next from to h = let at = listed (nexts from) to h.0 in (at.0, at.1, at.2, h.1)

  next_is : (from to : ObjectId) → IsNext nexts from to → IsThere nexts (next_to nexts from) to
  next_is from to h = (subst (λ (o : Option (List ObjectId)). Contains (option_map_or (λ (ids : List ObjectId). ids) o []) to) (sym h.1) h.2, h.3)

  there_at : (from : ObjectId) (rest : List ObjectId) (to : ObjectId) → IsPath nexts from rest to → IsSome (nexts from)
  there_at from [] to p = p.0
  there_at from (x ∷ rest) to p = ap is_some p.1

  there_end : (from : ObjectId) (rest : List ObjectId) (to : ObjectId) → IsPath nexts from rest to → IsSome (nexts to)
  there_end from [] to p = subst (λ (x : ObjectId). IsSome (nexts x)) p.1 p.0
  there_end from (x ∷ rest) to p = there_end x rest to p.3

  -- Of the ids that were found so many were left, and what is next to these is found.
  pub record IsWalking (starts found : List ObjectId) (done : ℕ) : Type 0 where
    pub sound : (id : ObjectId) → Contains found id → IsWithin nexts starts None id
    pub begun : (id : ObjectId) → Contains starts id → IsSome (nexts id) → Contains found id
    pub closed : (k : ℕ) (d : ObjectId) → k < done → (to : ObjectId) → IsNext nexts (get_or found k d) to → Contains found to
    pub distinct : IsDistinct (eq_by_cmp id_cmp) found

  -- the ids that are looked at from one that is left
  pub more : (starts found now : List ObjectId) (done : ℕ) (d : ObjectId) → done < length found → now ≡ with_each found (there nexts (next_to nexts (get_or found done d)))
      → looked_at nexts starts (take (done + 1) now) ≡ looked_at nexts starts (take done found) + length (next_to nexts (get_or found done d))
  more starts found now done d lt is =
      let s = adds_there nexts found (next_to nexts (get_or found done d)) in
      let same : take (done + 1) now ≡ take (done + 1) found = ap (take (done + 1)) (is ∙ s.is) ∙ take-append-le (done + 1) found s.more (omega (arith, lt)) in
      let one : sum_by (λ id. length (next_to nexts id)) (take (done + 1) found) ≡ sum_by (λ id. length (next_to nexts id)) (take done found) + length (next_to nexts (get_or found done d)) =
      sum_by_more (λ id. length (next_to nexts id)) found done d lt in
      ap (looked_at nexts starts) same ∙ ap (λ (n : ℕ). length starts + n) one
      ∙ sym (add_assoc (length starts) (sum_by (λ id. length (next_to nexts id)) (take done found)) (length (next_to nexts (get_or found done d))))

  module _ (starts : List ObjectId) where
    pub begins : (found : List ObjectId) → found ≡ with_each [] (there nexts starts) → IsWalking starts found 0
    begins found is = subst (λ (xs : List ObjectId). IsWalking starts xs 0) (sym is) begun
      where
        s : Adds (IsThere nexts starts) [] (with_each [] (there nexts starts))
        s = adds_there nexts [] starts

        started : (id : ObjectId) → Contains [] id ⊎ IsThere nexts starts id → IsWithin nexts starts None id
        started id (inl h) = absurd (none_in id h)
        started id (inr h) = record { start = id; among = h.0; rest = []; path = (h.1, refl); few = tt }

        begun : IsWalking starts (with_each [] (there nexts starts)) 0
        begun = record {
          sound = λ id h. started id (s.only id h);
          begun = λ id among here. s.all id (among, here);
          closed = λ k d lt to n. absurd (omega (arith, lt));
          distinct = s.distinct none_distinct;
        }

    module _ (found : List ObjectId) (done : ℕ) (w : IsWalking starts found done) where
      pub goes_on : (d : ObjectId) (now : List ObjectId) → done < length found → now ≡ with_each found (there nexts (next_to nexts (get_or found done d))) → IsWalking starts now (done + 1)
      goes_on d now lt is = subst (λ (xs : List ObjectId). IsWalking starts xs (done + 1)) (sym is) on
        where
          from : ObjectId
          from = get_or found done d

          after : List ObjectId
          after = with_each found (there nexts (next_to nexts from))

          s : Adds (IsThere nexts (next_to nexts from)) found after
          s = adds_there nexts found (next_to nexts from)

          kept : (id : ObjectId) → Contains found id → Contains after id
          kept = stays (IsThere nexts (next_to nexts from)) found after s

          here : Contains found from
          here = (done, lt, get_or_default found done from d lt)

          farther : (id : ObjectId) → Contains found id ⊎ IsThere nexts (next_to nexts from) id → IsWithin nexts starts None id
          farther id (inl h) = w.sound id h
          farther id (inr h) =
              let r = w.sound from here in
              record { start = r.start; among = r.among; rest = r.rest ++ id ∷ []; path = step_on nexts r.start r.rest from id r.path (is_next from id h); few = tt }

          same_at : (k : ℕ) (e : ObjectId) → k < length found → get_or after k e ≡ get_or found k e
          same_at k e under = ap (λ (xs : List ObjectId). get_or xs k e) s.is ∙ get_or_append_left found s.more e k under

          near : (k : ℕ) (e : ObjectId) → k < done + 1 → (to : ObjectId) → IsNext nexts (get_or after k e) to → Contains after to
          near k e under to n = at (cases_lt k done)
            where
              m : IsNext nexts (get_or found k e) to
              m = subst (λ (x : ObjectId). IsNext nexts x to) (same_at k e (omega (arith, under, lt))) n

              at : (k < done) ⊎ (done ≤ k) → Contains after to
              at (inl before) = kept to (w.closed k e before to m)
              at (inr behind) =
                  let one : k ≡ done = omega (arith, under, behind) in
                  s.all to (next_is from to (subst (λ (x : ObjectId). IsNext nexts x to) (ap (λ j. get_or found j e) one ∙ get_or_default found done e d lt) m))

          on : IsWalking starts after (done + 1)
          on = record { sound = λ id h. farther id (s.only id h); begun = λ id among there. kept id (w.begun id among there); closed = near; distinct = s.distinct w.distinct }

      along : length found ≤ done → (from : ObjectId) (rest : List ObjectId) (to : ObjectId) → Contains found from → IsPath nexts from rest to → Contains found to
      along all from [] to h p = subst (λ (x : ObjectId). Contains found x) p.1 h
      along all from (x ∷ rest) to h p =
          along all x rest to
          (w.closed h.0 from (omega (arith, h.1, all)) x (subst (λ (y : ObjectId). IsNext nexts y x) (sym h.2) (p.0, p.1, p.2, there_at x rest to p.3))) p.3

      pub walked : length found ≤ done → (id : ObjectId) → Contains found id ↔ IsWithin nexts starts None id
      walked all id = (w.sound id, λ r. along all r.start r.rest id (w.begun r.start r.among (there_at r.start r.rest id r.path)) r.path)

-- ---- sums over distinct ids
module _ (f : ObjectId → ℕ) where
  pub no_less : (found ids : List ObjectId) → IsDistinct (eq_by_cmp id_cmp) found → ((id : ObjectId) → Contains found id → Contains ids id) → sum_by f found ≤ sum_by f ids
  no_less [] ids apart all = let none : sum_by f [] ≡ 0 = refl in omega (arith, none)
  no_less (x ∷ rest) ids apart all =
      omega (arith, ap (sum_by f) (sym whole), sum_by-append f before (x ∷ after), sum_by-cons f x after, sum_by-append f before after, sum_by-cons f x rest, no_less rest (before ++ after) (IsDistinct-tail (eq_by_cmp id_cmp) x rest apart) others)
    where
      at : Contains ids x
      at = all x (first_in x rest)

      before : List ObjectId
      before = take at.0 ids

      after : List ObjectId
      after = drop (at.0 + 1) ids

      whole : before ++ x ∷ after ≡ ids
      whole = ap (λ (xs : List ObjectId). before ++ xs) (sym (drop_more ids at.0 x at.1 ∙ ap (λ (y : ObjectId). y ∷ after) at.2)) ∙ take-append-drop at.0 ids

      unlike : (id : ObjectId) → Contains rest id → x ≡ id → ⊥
      unlike id h same =
          let other : eq_by_cmp id_cmp x id ≡ false = All-contains (λ y. eq_by_cmp id_cmp x y ≡ false) rest id (All-from_recursion (λ y. eq_by_cmp id_cmp x y ≡ false) rest (IsDistinct-head (eq_by_cmp id_cmp) x rest apart)) h in
          cc (sym other ∙ ties x id same)

      beside : (id : ObjectId) → Contains rest id → Contains before id ⊎ Contains (x ∷ after) id → Contains (before ++ after) id
      beside id h (inl b) = Contains-append_left before after id b
      beside id h (inr c) = by_place (cases_in id x after c)
        where
          by_place : (x ≡ id) ⊎ Contains after id → Contains (before ++ after) id
          by_place (inl same) = absurd (unlike id h same)
          by_place (inr later) = Contains-append_right before after id later

      others : (id : ObjectId) → Contains rest id → Contains (before ++ after) id
      others id h = beside id h (Contains-append_cases before (x ∷ after) id (subst (λ (xs : List ObjectId). Contains xs id) (sym whole) (all id (later_in id x rest h))))

  pub same_sums : (g : ObjectId → ℕ) → ((id : ObjectId) → f id ≡ g id) → (ids : List ObjectId) → sum_by f ids ≡ sum_by g ids
  same_sums g is [] = refl
  same_sums g is (x ∷ ids) = sum_by-cons f x ids ∙ ap₂ (λ (a b : ℕ). a + b) (is x) (same_sums g is ids) ∙ sym (sum_by-cons g x ids)

links_of_next : (h : Holding) (id : ObjectId) → length (next_to (nexts_in h) id) ≡ length (links_at h id)
links_of_next h id = by_value (get h.objects id)
  where
    by_value : (o : Option Stored) → length (option_map_or (λ (ids : List ObjectId). ids) (option_map (links_within h.border id) o) []) ≡ length (option_map_or (links_within h.border id) o [])
    by_value None = refl
    by_value (Some o) = refl

-- ---- the end of a walk over what is stored
module _ (h : Holding) (starts found ids : List ObjectId) (done : ℕ) (w : IsWalking (nexts_in h) starts found done) (over : length found ≤ done)
    (is : ids ≡ filter (λ id. is_among id found) (keys h.objects)) where
  stored : (id : ObjectId) → IsWithin (nexts_in h) starts None id → Contains (keys h.objects) id
  stored id r =
      Contains-named id (keys h.objects) (sym (contains_key-keys h.objects id) ∙ sym (there_is h id) ∙ there_end (nexts_in h) r.start r.rest id r.path)

  all_kept : (id : ObjectId) → IsWithin (nexts_in h) starts None id → Contains ids id
  all_kept id r =
      subst (λ (xs : List ObjectId). Contains xs id) (sym is)
      (kept_in (λ x. is_among x found) (keys h.objects) id (named-Contains id found ((walked (nexts_in h) starts found done w over id).1 r)) (stored id r))

  pub all_reached : (id : ObjectId) → Contains ids id ↔ Reached h starts id
  all_reached id =
      let two = reached_within h starts id in (
        λ c.
            let passed = passed_in (λ x. is_among x found) (keys h.objects) id (subst (λ (xs : List ObjectId). Contains xs id) is c) in
            two.0 ((walked (nexts_in h) starts found done w over id).0 (Contains-named id found passed.1)),
        λ r. all_kept id (two.1 r),
      )

  pub ascends : IsStrictlySortedBy id_cmp ids
  ascends = subst (IsStrictlySortedBy id_cmp) (sym is) (IsStrictlySortedBy-filter id_cmp (λ x. is_among x found) (keys h.objects) (keys-rise h.objects))

  pub looked : looked_at (nexts_in h) starts (take done found) ≤ length starts + sum_by (λ id. length (links_at h id)) ids
  looked =
      let less = sum_by-take-le (λ id. length (next_to (nexts_in h) id)) found done in
      let few = no_less (λ id. length (next_to (nexts_in h) id)) found ids w.distinct (λ id c. all_kept id (w.sound id c)) in
      let same = same_sums (λ id. length (next_to (nexts_in h) id)) (λ id. length (links_at h id)) (links_of_next h) ids in
      omega (arith, less, few, same)
