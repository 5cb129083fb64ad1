-- All stored objects are reached where as many are reached as are stored.
use Rattle.std.proofs.Common.{◌≡◌, ℕ, ◌≤◌, Bool, true, false, List, [], ◌∷◌, length, get_or, Option, Some, None, Contains, not, eq-eqb, true≢false, refl, sym, ap, subst, ◌∙◌, arith}
use Rattle.std.specs.Prelude.{◌↔◌, IsTrue, is_some, nat_eq, slice_get}
use Rattle.std.specs.List.{AllByRecursion}
use Rattle.std.specs.List.Sorted.{IsStrictlySortedBy}
use Rattle.std.specs.Ordering.{eq_by_cmp}
use Rattle.std.specs.FinMap as finmap
use Rattle.std.proofs.lemmas.Bool.{eqb-true}
use Rattle.std.proofs.lemmas.List.{length-map}
use Rattle.std.proofs.lemmas.List.Elements.{Contains-get_or, recursion_from_All}
use Rattle.std.proofs.lemmas.Map.Keys.{IsDistinct-from_sorted}
use Rattle.fetch_base.specs.declared.id.ObjectId.{ObjectId}
use Rattle.fetch_store.specs.Borders.{ids_of}
use Rattle.fetch_store.specs.Closed.{Holding, IsStored, Reached}
use Rattle.fetch_base.specs.Id.{id_cmp}
use Rattle.fetch_store.proofs.Borders.{Contains-named, ids_of-set, named-Contains, same_sets}
use Rattle.fetch_store.proofs.Finds.{not_tied}
use Rattle.fetch_store.proofs.Honesty.{reached_stored}
use Rattle.fetch_store.proofs.Keys.{keys-rise}
use Rattle.fetch_store.proofs.Pigeons.{no_more, are_distinct}
use Rattle.fetch_refs.specs.Names.{Names}
use Rattle.fetch_reach.specs.Sets.{is_among}
use Rattle.fetch_check.specs.Finding.{AreAllReached, direct_ids}
use Rattle.fetch_check.proofs.Unreached.{key_stored, stored_key}

-- ascending lists of the same ids are one
pub ascending_alike : (xs ys : List ObjectId) → IsStrictlySortedBy id_cmp xs → IsStrictlySortedBy id_cmp ys → ((id : ObjectId) → Contains xs id → Contains ys id) → ((id : ObjectId) → Contains ys id → Contains xs id) → xs ≡ ys
ascending_alike xs ys sx sy to from =
    sym (ids_of-set xs sx) ∙ ap ids_of (same_sets xs ys to from) ∙ ids_of-set ys sy

module _ (names : Names) (h : Holding) (ids : List ObjectId) (each : (id : ObjectId) → Contains ids id ↔ Reached h (direct_ids names) id) (rise : IsStrictlySortedBy id_cmp ids) where
  stored : AllByRecursion (λ id. finmap.contains_key h.objects id ≡ true) ids
  stored = recursion_from_All (λ id. finmap.contains_key h.objects id ≡ true) ids (λ k d lt. reached_stored h (direct_ids names) (get_or ids k d) ((each (get_or ids k d)).0 (Contains-get_or ids k d lt)))

  unlike : (id : ObjectId) → is_among id ids ≡ false → AllByRecursion (λ q. eq_by_cmp id_cmp q id ≡ false) ids
  unlike id none =
      recursion_from_All (λ q. eq_by_cmp id_cmp q id ≡ false) ids (λ k d lt.
      not_tied (get_or ids k d) id (λ same. true≢false (sym (named-Contains id ids (subst (Contains ids) same (Contains-get_or ids k d lt))) ∙ none)))

  too_many : (id : ObjectId) → IsStored h.objects id → is_among id ids ≡ false → length ids ≡ finmap.len h.objects → ⊥
  too_many id is none same =
      let more : length (id ∷ ids) ≤ finmap.len h.objects = no_more (id ∷ ids) h.objects (unlike id none, are_distinct ids (IsDistinct-from_sorted id_cmp ids rise)) (is, stored) in absurd (omega arith)

  pub all_reached : length ids ≡ finmap.len h.objects → AreAllReached names h
  all_reached same id is = by_test (is_among id ids) refl
    where
      by_test : (b : Bool) → is_among id ids ≡ b → Reached h (direct_ids names) id
      by_test true among = (each id).0 (Contains-named id ids among)
      by_test false none = absurd (too_many id is none same)

  pub as_many : AreAllReached names h → length ids ≡ finmap.len h.objects
  as_many all =
      let same : ids ≡ finmap.keys h.objects =
      ascending_alike ids (finmap.keys h.objects) rise (keys-rise h.objects) (λ id here. stored_key h.objects id (reached_stored h (direct_ids names) id ((each id).0 here))) (λ id here. (each id).1 (all id (key_stored h.objects id here))) in
      ap length same ∙ length-map (finmap.entries h.objects) (λ e. e.0) ∙ sym (finmap.len-entries h.objects)

-- the first of none
pub none_broken : {X : Type 0} (xs : List X) (first : Option X) → first ≡ slice_get xs 0 → (first ≡ None) ↔ (xs ≡ [])
none_broken [] first is = (λ _. refl, λ _. is)
none_broken {X = X} (x ∷ xs) first is = (λ none. let both : ◌≡◌ {A = Option X} None (Some x) = sym none ∙ is in absurd cc, λ none. absurd cc)

not_none : {X : Type 0} (first : Option X) (b : Bool) → first ≡ None → is_some first ≡ not b → b ≡ true
not_none first true none is = refl
not_none first false none is = let both : false ≡ true = ap is_some (sym none) ∙ is in absurd cc

some_not : {X : Type 0} (first : Option X) (x : X) (b : Bool) → first ≡ Some x → is_some first ≡ not b → b ≡ true → ⊥
some_not first x true found is here = let both : true ≡ false = ap is_some (sym found) ∙ is in absurd cc
some_not first x false found is here = cc

pub told_unbroken : {X : Type 0} (xs : List X) (first : Option X) (b : Bool) → first ≡ slice_get xs 0 → is_some first ≡ not b → IsTrue b ↔ (xs ≡ [])
told_unbroken [] first b is test = (λ _. refl, λ _. not_none first b is test)
told_unbroken (x ∷ xs) first b is test = (λ here. absurd (some_not first x b is test here), λ none. absurd cc)

pub told_reached : (names : Names) (h : Holding) (ids : List ObjectId) → ((id : ObjectId) → Contains ids id ↔ Reached h (direct_ids names) id) → IsStrictlySortedBy id_cmp ids → (m n : ℕ) → m ≡ length ids → n ≡ finmap.len h.objects
    → IsTrue (nat_eq m n) ↔ AreAllReached names h
told_reached names h ids each rise m n is_m is_n = (
  λ yes. all_reached names h ids each rise (sym is_m ∙ eqb-true m n yes ∙ is_n),
  λ all. eq-eqb m n (is_m ∙ as_many names h ids each rise all ∙ sym is_n),
)
