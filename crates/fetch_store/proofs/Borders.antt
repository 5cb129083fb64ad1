-- Ids in ascending order, and the sets of lists of ids.
use Rattle.std.proofs.Common.{◌≡◌, ℕ, ◌+◌, Bool, true, false, cond, not, ◌&&◌, ◌||◌, T, List, [], ◌∷◌, ◌++◌, map, filter, length, get_or, Option, Some, None, All, Result, Ok, Err, ⊎_elim, true≢false, refl, sym, ap, ap₂, subst, ◌∙◌, arith}
use Rattle.std.specs.Prelude.{is_some, is_ok}
use Rattle.std.specs.List.{AllByRecursion, list_any, Contains}
use Rattle.std.specs.List.Sorted.{IsStrictlySortedBy, IsSortedBy, IsSearchInRange, IsBinarySearchResult}
use Rattle.std.specs.Ordering.{eq_by_cmp, is_eq, is_lt, ordering_reverse}
use Rattle.std.specs.Cmp.{Equal-is}
use Rattle.std.specs.FinMap as finmap
use Rattle.std.specs.FinMap.Entries.{below_all}
use Rattle.std.specs.FinSet as set
use Rattle.std.specs.declared.cmp.Ordering.{Ordering}
use Rattle.std.specs.declared.cmp.Ordering.TheVariants.{Less, Greater}
use Rattle.std.proofs.lemmas.Map.Keys.{sorted_head, sorted_tail, any_passes_from_place, Less-from_sorted}
use Rattle.std.proofs.lemmas.Bool.{cases_lt}
use Rattle.std.proofs.lemmas.Option.{slice_get-get_or}
use Rattle.std.proofs.lemmas.List.Elements.{All-head, All-tail, All-contains_itself}
use Rattle.std.proofs.lemmas.List.Folds.{list_any-append}
use Rattle.std.proofs.lemmas.List.Sorted.{searchable_from_sorted}
use Rattle.fetch_base.specs.declared.id.ObjectId.{ObjectId}
use Rattle.fetch_base.specs.Id.{id_cmp}
use Rattle.fetch_store.specs.Borders.{IdSet, set_of, ids_of, merged}
use Rattle.fetch_base.proofs.Ids.{id_cmp_total, id_cmp_exact}
use Rattle.fetch_store.proofs.Finds.{ties}

abbrev pub named : ObjectId → List ObjectId → Bool
named q ids = list_any (eq_by_cmp id_cmp q) ids

abbrev marks : List ObjectId → List (ObjectId × Unit {0})
marks ids = map (λ id. (id, tt)) ids

both : (a b : Bool) → T a → T b → T (a && b)
both true b p q = q
both false b p q = absurd p

below : (k : ObjectId) (ids : List ObjectId) → AllByRecursion (λ y. id_cmp k y ≡ Less) ids → T (below_all id_cmp k (marks ids))
below k [] h = tt
below k (x ∷ ids) h = both (is_lt (id_cmp k x)) (below_all id_cmp k (marks ids)) (subst (λ (o : Ordering). T (is_lt o)) (sym h.0) tt) (below k ids h.1)

rises : (ids : List ObjectId) → IsStrictlySortedBy id_cmp ids → T (finmap.is_sorted id_cmp (marks ids))
rises [] h = tt
rises (x ∷ ids) h = both (below_all id_cmp x (marks ids)) (finmap.is_sorted id_cmp (marks ids)) (below x ids (sorted_head id_cmp x ids h)) (rises ids (sorted_tail id_cmp x ids h))

abbrev marked : Bool → Option (Unit {0})
marked true = Some tt
marked false = None

found : (q : ObjectId) (ids : List ObjectId) → finmap.find id_cmp q (marks ids) ≡ marked (named q ids)
found q [] = refl
found q (x ∷ ids) = ap (cond (eq_by_cmp id_cmp q x) (Some tt)) (found q ids) ∙ choice (eq_by_cmp id_cmp q x) (named q ids)
  where
    choice : (a b : Bool) → cond a (Some tt) (marked b) ≡ marked (a || b)
    choice true b = refl
    choice false b = refl

unmarked : (ids : List ObjectId) → map (λ (e : ObjectId × Unit {0}). e.0) (marks ids) ≡ ids
unmarked [] = refl
unmarked (x ∷ ids) = ap (λ (l : List ObjectId). x ∷ l) (unmarked ids)

pub named-items : (ids : List ObjectId) (q : ObjectId) → named q (set.items (set_of ids)) ≡ named q ids
named-items ids q = sym (set.contains-items (set_of ids) q) ∙ set.contains-from_list id_cmp_total ids q

-- an ascending list is that of its set
pub ids_of-set : (ids : List ObjectId) → IsStrictlySortedBy id_cmp ids → ids_of (set_of ids) ≡ ids
unfolding ids_of
ids_of-set ids rise =
    let all = marks (set.items (set_of ids)) in
    let same : finmap.from_entries {R = id_cmp} all ≡ finmap.from_sorted (marks ids) =
    finmap.same_map id_cmp_total id_cmp_exact (finmap.from_entries {R = id_cmp} all) (finmap.from_sorted (marks ids)) (λ q.
    finmap.get-from_entries id_cmp_total all q ∙ found q (set.items (set_of ids)) ∙ ap marked (named-items ids q) ∙ sym (found q ids) ∙ sym (finmap.get-from_sorted id_cmp (marks ids) q (rises ids rise))) in
    ap finmap.keys same ∙ ap (map (λ (e : ObjectId × Unit {0}). e.0)) (finmap.entries-from_sorted id_cmp (marks ids) (rises ids rise)) ∙ unmarked ids

-- the set of an ascending list
pub named-Contains : (q : ObjectId) (ids : List ObjectId) → Contains ids q → named q ids ≡ true
named-Contains q ids h =
    any_passes_from_place (eq_by_cmp id_cmp q) ids h.0 (get_or ids h.0 q) (slice_get-get_or ids h.0 q h.1) (ties q (get_or ids h.0 q) (sym h.2))

module _ (P : ObjectId → Type 0) where
  any_of : (q x : ObjectId) (b more : Bool) → eq_by_cmp id_cmp q x ≡ b → P x → (more ≡ true → P q) → (b || more) ≡ true → P q
  any_of q x true more e here there h = subst P (sym (id_cmp_exact q x ((Equal-is (id_cmp q x)).0 e))) here
  any_of q x false more e here there h = there h

  -- what holds of each id of a list holds of an id that it names
  pub All-any : (q : ObjectId) (xs : List ObjectId) → All P xs → named q xs ≡ true → P q
  All-any q [] all is = absurd cc
  All-any q (x ∷ xs) all is =
      any_of q x (eq_by_cmp id_cmp q x) (named q xs) refl (All-head P x xs all) (λ h. All-any q xs (All-tail P x xs all) h) is

pub Contains-named : (q : ObjectId) (ids : List ObjectId) → named q ids ≡ true → Contains ids q
Contains-named q ids h = All-any (Contains ids) q ids (All-contains_itself ids) h

pub alike : (a b : Bool) → (a ≡ true → b ≡ true) → (b ≡ true → a ≡ true) → a ≡ b
alike true true f g = refl
alike true false f g = sym (f refl)
alike false true f g = g refl
alike false false f g = refl

-- two lists that name the same ids have one set
pub same_sets : (xs ys : List ObjectId) → ((q : ObjectId) → Contains xs q → Contains ys q) → ((q : ObjectId) → Contains ys q → Contains xs q) → set_of xs ≡ set_of ys
same_sets xs ys f g =
    set.same_set id_cmp_total id_cmp_exact (set_of xs) (set_of ys) (λ q.
    set.contains-from_list id_cmp_total xs q
    ∙ alike (named q xs) (named q ys) (λ h. named-Contains q ys (f q (Contains-named q xs h))) (λ h. named-Contains q xs (g q (Contains-named q ys h)))
    ∙ sym (set.contains-from_list id_cmp_total ys q))

none_named : (q : ObjectId) (ids : List ObjectId) → All (λ y. eq_by_cmp id_cmp q y ≡ false) ids → named q ids ≡ false
none_named q [] all = refl
none_named q (x ∷ ids) all =
    ap (λ b. b || named q ids) (All-head (λ y. eq_by_cmp id_cmp q y ≡ false) x ids all) ∙ none_named q ids (All-tail (λ y. eq_by_cmp id_cmp q y ≡ false) x ids all)

pub reversed : (a b : ObjectId) (o : Ordering) → id_cmp a b ≡ o → id_cmp b a ≡ ordering_reverse o
reversed a b o is = id_cmp_total.antisymm b a ∙ ap ordering_reverse is

sorted_of : (ids : List ObjectId) → IsStrictlySortedBy id_cmp ids → IsSortedBy (λ a b. is_lt (id_cmp a b)) ids
sorted_of ids rise = λ k d low high.
    ap is_lt (reversed (get_or ids k d) (get_or ids (k + 1) d) Less (Less-from_sorted id_cmp ids k (k + 1) d rise (omega arith) high))

-- what a binary search for an id tells
pub searched_for : (ids : List ObjectId) (q : ObjectId) (r : Result ℕ ℕ) → IsStrictlySortedBy id_cmp ids → IsSearchInRange r (length ids)
    → IsBinarySearchResult (λ y. id_cmp y q) ids r → is_ok r ≡ named q ids
searched_for ids q (Ok i) rise inside at =
    sym (named-Contains q ids (i, inside, id_cmp_exact (get_or ids i q) q (at q)))
searched_for ids q (Err i) rise inside at =
    let parts = at (searchable_from_sorted id_cmp_total (λ x. x) ids q (sorted_of ids rise)) in
    sym (none_named q ids (λ k d lt. ⊎_elim
    (λ under. ap is_eq (reversed (get_or ids k d) q Less (parts.0 k d (omega arith) under)))
    (λ over. ap is_eq (reversed (get_or ids k d) q Greater (parts.1 k d over lt)))
    (cases_lt k i)))

pub no_ids : (ids : List ObjectId) → set_of ids ≡ set.empty → length ids ≡ 0
no_ids [] is = refl
no_ids (x ∷ ids) is =
    absurd (true≢false (ap (λ b. b || named x ids) (sym (ties x x refl)) ∙ sym (set.contains-from_list id_cmp_total (x ∷ ids) x) ∙ ap (λ s. set.contains s x) is ∙ set.contains-empty id_cmp x))

pub any-filter : (q : ObjectId) (t : ObjectId → Bool) (xs : List ObjectId) → named q (filter t xs) ≡ (named q xs && t q)
any-filter q t [] = refl
any-filter q t (x ∷ xs) =
    kept (t x) (eq_by_cmp id_cmp q x) refl refl ∙ ap (λ b. (eq_by_cmp id_cmp q x && t x) || b) (any-filter q t xs) ∙ gather (eq_by_cmp id_cmp q x) refl (named q xs)
  where
    kept : (other same : Bool) → t x ≡ other → eq_by_cmp id_cmp q x ≡ same → named q (cond other (x ∷ filter t xs) (filter t xs)) ≡ ((eq_by_cmp id_cmp q x && other) || named q (filter t xs))
    kept true same o s = ap (λ b. b || named q (filter t xs)) (one (eq_by_cmp id_cmp q x))
      where
        one : (a : Bool) → a ≡ (a && true)
        one true = refl
        one false = refl
    kept false same o s = ap (λ b. b || named q (filter t xs)) (none (eq_by_cmp id_cmp q x))
      where
        none : (a : Bool) → false ≡ (a && false)
        none true = refl
        none false = refl

    gather : (a : Bool) → eq_by_cmp id_cmp q x ≡ a → (b : Bool) → ((a && t x) || (b && t q)) ≡ ((a || b) && t q)
    gather false e b = refl
    gather true e b = joined (t q) (t x) b (ap t (id_cmp_exact q x ((Equal-is (id_cmp q x)).0 e)))
      where
        joined : (c d b : Bool) → c ≡ d → (d || (b && c)) ≡ c
        joined true true b h = refl
        joined false false true h = refl
        joined false false false h = refl
        joined true false b h = absurd cc
        joined false true b h = absurd cc

-- what is kept of two lists is the merged border
pub kept_merged : (border : IdSet) (ids shallow unshallow : List ObjectId) → set_of ids ≡ border
    → set_of (filter (λ q. not (set.contains (set_of unshallow) q)) ids ++ filter (λ q. not (set.contains (set_of unshallow) q)) shallow) ≡ merged border shallow unshallow
kept_merged border ids shallow unshallow is =
    let t : ObjectId → Bool = λ q. not (set.contains (set_of unshallow) q) in
    set.same_set id_cmp_total id_cmp_exact (set_of (filter t ids ++ filter t shallow)) (merged border shallow unshallow) (λ q.
    set.contains-from_list id_cmp_total (filter t ids ++ filter t shallow) q
    ∙ list_any-append (eq_by_cmp id_cmp q) (filter t ids) (filter t shallow)
    ∙ ap₂ (λ x y. x || y) (any-filter q t ids) (any-filter q t shallow)
    ∙ common (named q ids) (named q shallow) (t q)
    ∙ sym (set.contains-difference id_cmp_total (set.union border (set_of shallow)) (set_of unshallow) q
    ∙ ap (λ x. x && t q)
    (set.contains-union id_cmp_total border (set_of shallow) q
    ∙ ap₂ (λ x y. x || y) (ap (λ s. set.contains s q) (sym is) ∙ set.contains-from_list id_cmp_total ids q) (set.contains-from_list id_cmp_total shallow q))))
  where
    common : (a b c : Bool) → ((a && c) || (b && c)) ≡ ((a || b) && c)
    common true true true = refl
    common true true false = refl
    common true false true = refl
    common true false false = refl
    common false b c = refl

pub none_left : (ids : List ObjectId) → length ids ≡ 0 → ids ≡ []
none_left [] is = refl
none_left (x ∷ ids) is = absurd (omega arith)

-- a set's ascending list names its members
pub named-ids_of : (s : IdSet) (q : ObjectId) → named q (ids_of s) ≡ set.contains s q
unfolding ids_of
named-ids_of s q =
    sym (finmap.contains_key-keys (finmap.from_entries {R = id_cmp} (marks (set.items s))) q)
    ∙ ap is_some (finmap.get-from_entries id_cmp_total (marks (set.items s)) q ∙ found q (set.items s))
    ∙ is_marked (named q (set.items s)) ∙ sym (set.contains-items s q)
  where
    is_marked : (b : Bool) → is_some (marked b) ≡ b
    is_marked true = refl
    is_marked false = refl
