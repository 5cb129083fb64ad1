-- Marks for the ids that were found.
use Rattle.std.proofs.Common.{◌≡◌, ℕ, ◌+◌, ◌<◌, ◌≤◌, Bool, true, false, cond, not, ◌||◌, List, [], ◌∷◌, ◌++◌, map, filter, length, take, get_or, set, replicate, All, Option, Some, None, refl, sym, ap, ap₂, subst, ◌∙◌, inl, inr, arith, length-set}
use Rattle.std.specs.Prelude.{◌≢◌, ◌⊎◌, is_some, IfSome, MatchOption, OnOk, Result, Ok, Err}
use Rattle.std.specs.FinMap as finmap
use Rattle.std.specs.FinSet as finset
use Rattle.std.specs.List.Sorted.{IsStrictlySortedBy}
use Rattle.std.specs.Option.{option_map, option_map_or}
use Rattle.std.specs.Ordering.{eq_by_cmp, is_eq}
use Rattle.std.specs.declared.cmp.Ordering.TheVariants.{Less}
use Rattle.std.proofs.lemmas.Bool.{cases_lt}
use Rattle.std.proofs.lemmas.List.{append-nil, get_or_default, get_or-map, get_or-set_same, get_or-set_other, get_or-replicate, length-map, length-replicate, map_push}
use Rattle.std.proofs.lemmas.List.Elements.{All-nil, All-push, Contains-push, filter_more}
use Rattle.std.proofs.lemmas.List.Folds.{list_any-append}
use Rattle.std.proofs.lemmas.Map.Keys.{Less-from_sorted}
use Rattle.fetch_base.specs.declared.id.ObjectId.{ObjectId}
use Rattle.fetch_base.specs.declared.id.ObjectId.TheVariants.{Sha1}
use Rattle.fetch_base.specs.declared.object_kind.ObjectKind.TheVariants.{Commit}
use Rattle.fetch_store.specs.declared.span.Span.{Span}
use Rattle.fetch_store.specs.Borders.{IdSet}
use Rattle.fetch_store.specs.Buffers.{Index}
use Rattle.fetch_store.specs.Closed.{holding, links, links_within, others}
use Rattle.fetch_store.specs.Found.{with_each}
use Rattle.fetch_store.specs.Marks.{AreMarked, ids_at, is_among}
use Rattle.fetch_objects.specs.Objects.{Stored}
use Rattle.fetch_store.specs.Spread.{next_to, nexts_in}
use Rattle.fetch_store.specs.Stores.{ObjectMap}
use Rattle.fetch_base.specs.Id.{id_cmp}
use Rattle.fetch_store.proofs.Borders.{named, named-Contains, reversed}

-- ---- places of ids that are stored
pub keys-len : (objects : ObjectMap) → length (finmap.keys objects) ≡ finmap.len objects
keys-len objects = length-map (finmap.entries objects) (λ (e : ObjectId × Stored). e.0) ∙ sym (finmap.len-entries objects)

-- a place in an index is one among its ids
pub placed : (index : Index) (stored : List ObjectId) (id : ObjectId) (known : Bool) (r : Option ℕ) → map (λ (e : ObjectId × Span). e.0) index ≡ stored → known ≡ is_some (finmap.find id_cmp id index)
    → IfSome r (λ place. place < length index) → MatchOption r (finmap.find id_cmp id index ≡ None) (λ place. (d : ObjectId × Span) → (get_or index place d).0 ≡ id)
    → MatchOption r (known ≡ false) (λ place. (d : ObjectId) → get_or stored place d ≡ id)
placed index stored id known None is has within none = has ∙ ap is_some none
placed index stored id known (Some place) is has within at = λ d.
    let e : ObjectId × Span = (d, record { kind = Commit; start = 0; length = 0 }) in
    ap (λ (xs : List ObjectId). get_or xs place d) (sym is) ∙ get_or-map (λ (x : ObjectId × Span). x.0) index place e d within ∙ at e

-- what is next to a stored id
pub listed_next : (objects : ObjectMap) (border : IdSet) (id : ObjectId) (o : Stored) (b : Bool) (ids : List ObjectId) → finmap.get objects id ≡ Some o → b ≡ finset.contains border id → ids ≡ cond b (others o) (links o)
    → ids ≡ next_to (nexts_in (holding objects border)) id
listed_next objects border id o b ids at in_border is =
    is ∙ ap (λ (t : Bool). cond t (others o) (links o)) in_border ∙ sym (ap (λ (x : Option Stored). option_map_or (λ (xs : List ObjectId). xs) (option_map (links_within border id) x) []) at)

-- ---- none is found
pub unmarked : (stored : List ObjectId) (marks : List Bool) (places : List ℕ) (n : ℕ) → n ≡ length stored → marks ≡ replicate n false → places ≡ [] → AreMarked stored marks places
unmarked stored marks places n count is none = subst (AreMarked stored marks) (sym none) (record {
  len = ap length is ∙ length-replicate n false ∙ count;
  each = λ k d inside. ap (λ (ms : List Bool). get_or ms k false) is ∙ get_or-replicate n k false false (omega (arith, inside, count));
  within = All-nil (λ (place : ℕ). place < length stored);
})

-- ---- an id that is stored, and one that isn't
pub added : (objects : ObjectMap) (found now : List ObjectId) (place : ℕ) (id : ObjectId) → place < finmap.len objects → ((d : ObjectId) → get_or (finmap.keys objects) place d ≡ id) → now ≡ with_each found (id ∷ [])
    → now ≡ with_each found (cond (finmap.contains_key objects id) (id ∷ []) [])
added objects found now place id inside at is =
    let has : finmap.contains_key objects id ≡ true = finmap.contains_key-keys objects id ∙ named-Contains id (finmap.keys objects) (place, omega (arith, inside, keys-len objects), at id) in
    is ∙ sym (ap (λ (t : Bool). with_each found (cond t (id ∷ []) [])) has)

pub passed : (objects : ObjectMap) (found : List ObjectId) (id : ObjectId) → finmap.contains_key objects id ≡ false → found ≡ with_each found (cond (finmap.contains_key objects id) (id ∷ []) [])
passed objects found id none = sym (ap (λ (t : Bool). with_each found (cond t (id ∷ []) [])) none)

or_none : (t : Bool) → (t || false) ≡ t
or_none true = refl
or_none false = refl

-- a result of two facts
pub by_both : {X E : Type 0} {P Q R : Type 0} (r : Result X E) → (P → Q → R) → OnOk r P → OnOk r Q → OnOk r R
by_both (Ok x) f p q = f p q
by_both (Err e) f p q = tt

module _ (stored : List ObjectId) (marks : List Bool) (places : List ℕ) (m : AreMarked stored marks places) (place : ℕ) (id : ObjectId) (lt : place < length stored) (at : (d : ObjectId) → get_or stored place d ≡ id) where
  abbrev found : List ObjectId
  found = ids_at stored places

  mark_is : get_or marks place false ≡ named id found
  mark_is = m.each place id lt ∙ ap (λ (x : ObjectId). named x found) (at id)

  pushed : ids_at stored (places ++ place ∷ []) ≡ found ++ id ∷ []
  pushed = map_push (λ (p : ℕ). get_or stored p (Sha1 [])) places place ∙ ap (λ (x : ObjectId). found ++ x ∷ []) (at (Sha1 []))

  flip : (t : Bool) → ids_at stored (cond (not t) (places ++ place ∷ []) places) ≡ cond t found (found ++ id ∷ [])
  flip true = refl
  flip false = pushed

  within_on : (t : Bool) → All (λ p. p < length stored) (cond (not t) (places ++ place ∷ []) places)
  within_on true = m.within
  within_on false = All-push (λ p. p < length stored) places place m.within lt

  module _ (places_now : List ℕ) (grown : places_now ≡ cond (not (get_or marks place false)) (places ++ place ∷ []) places) where
    abbrev now : List ObjectId
    now = ids_at stored places_now

    is : now ≡ cond (get_or marks place false) found (found ++ id ∷ [])
    is = ap (ids_at stored) grown ∙ flip (get_or marks place false)

    pub found_on : now ≡ with_each found (id ∷ [])
    found_on = is ∙ ap (λ (t : Bool). cond t found (found ++ id ∷ [])) mark_is

    -- the id is among those that are found now
    here_now : named id now ≡ true
    here_now = by_test (get_or marks place false) refl
      where
        by_test : (t : Bool) → get_or marks place false ≡ t → named id now ≡ true
        by_test true t = ap (named id) (is ∙ ap (λ (b : Bool). cond b found (found ++ id ∷ [])) t) ∙ sym mark_is ∙ t
        by_test false t = ap (named id) (is ∙ ap (λ (b : Bool). cond b found (found ++ id ∷ [])) t) ∙ named-Contains id (found ++ id ∷ []) (Contains-push found id)

    -- and nothing else is new
    same_for : (q : ObjectId) → eq_by_cmp id_cmp q id ≡ false → named q now ≡ named q found
    same_for q other = by_test (get_or marks place false) refl
      where
        by_test : (t : Bool) → get_or marks place false ≡ t → named q now ≡ named q found
        by_test true t = ap (named q) (is ∙ ap (λ (b : Bool). cond b found (found ++ id ∷ [])) t)
        by_test false t =
            ap (named q) (is ∙ ap (λ (b : Bool). cond b found (found ++ id ∷ [])) t) ∙ list_any-append (eq_by_cmp id_cmp q) found (id ∷ [])
            ∙ ap (λ (b : Bool). named q found || (b || false)) other ∙ or_none (named q found)

    -- another place has another id
    apart : IsStrictlySortedBy id_cmp stored → (k : ℕ) (d : ObjectId) → k < length stored → k ≢ place → eq_by_cmp id_cmp (get_or stored k d) id ≡ false
    apart rise k d inside other = ap (eq_by_cmp id_cmp (get_or stored k d)) (sym (at d)) ∙ by_order (cases_lt k place)
      where
        by_order : (k < place) ⊎ (place ≤ k) → eq_by_cmp id_cmp (get_or stored k d) (get_or stored place d) ≡ false
        by_order (inl less) = ap is_eq (Less-from_sorted id_cmp stored k place d rise less lt)
        by_order (inr most) = by_case (cases_lt place k)
          where
            by_case : (place < k) ⊎ (k ≤ place) → eq_by_cmp id_cmp (get_or stored k d) (get_or stored place d) ≡ false
            by_case (inl above) = ap is_eq (reversed (get_or stored place d) (get_or stored k d) Less (Less-from_sorted id_cmp stored place k d rise above inside))
            by_case (inr under) = absurd (other (omega (arith, most, under)))

    pub marks_on : (marks_now : List Bool) → IsStrictlySortedBy id_cmp stored → marks_now ≡ set marks place true → AreMarked stored marks_now places_now
    marks_on marks_now rise set_is = subst (λ (ms : List Bool). AreMarked stored ms places_now) (sym set_is) (record {
      len = length-set marks place true ∙ m.len;
      each = λ k d inside. at_place k d inside (cases_lt k place) (cases_lt place k);
      within = subst (All (λ p. p < length stored)) (sym grown) (within_on (get_or marks place false));
    })
      where
        off : (k : ℕ) (d : ObjectId) → k < length stored → k ≢ place → get_or (set marks place true) k false ≡ named (get_or stored k d) now
        off k d inside other = get_or-set_other marks place k true false other ∙ m.each k d inside ∙ sym (same_for (get_or stored k d) (apart rise k d inside other))

        on : (k : ℕ) (d : ObjectId) → k ≡ place → get_or (set marks place true) k false ≡ named (get_or stored k d) now
        on k d same =
            ap (λ (j : ℕ). get_or (set marks place true) j false) same ∙ get_or-set_same marks place true false (let n = m.len in omega (arith, n, lt))
            ∙ sym (ap (λ (j : ℕ). named (get_or stored j d) now) same ∙ ap (λ (x : ObjectId). named x now) (at d) ∙ here_now)

        at_place : (k : ℕ) (d : ObjectId) → k < length stored → (k < place) ⊎ (place ≤ k) → (place < k) ⊎ (k ≤ place) → get_or (set marks place true) k false ≡ named (get_or stored k d) now
        at_place k d inside (inl less) other = off k d inside (λ same. omega (arith, less, same))
        at_place k d inside (inr most) (inl above) = off k d inside (λ same. omega (arith, above, same))
        at_place k d inside (inr most) (inr under) = on k d (omega (arith, most, under))

-- ---- what the marks tell
pub read_as : (marks : List Bool) (i : ℕ) (t e : Bool) → i < length marks → t ≡ get_or marks i e → t ≡ get_or marks i false
read_as marks i t e lt is = is ∙ get_or_default marks i e false lt

chosen : (t : Bool) (xs : List ObjectId) (id : ObjectId) → cond t (xs ++ id ∷ []) xs ≡ xs ++ cond t (id ∷ []) []
chosen true xs id = refl
chosen false xs id = sym (append-nil xs)

pub one_kept : (stored : List ObjectId) (marks : List Bool) (places : List ℕ) (i : ℕ) (id : ObjectId) (t e : Bool) (items now : List ObjectId) → AreMarked stored marks places → i < length stored → ((d : ObjectId) → get_or stored i d ≡ id)
    → t ≡ get_or marks i e → items ≡ filter (λ x. is_among x (ids_at stored places)) (take i stored) → now ≡ cond t (items ++ id ∷ []) items
    → now ≡ filter (λ x. is_among x (ids_at stored places)) (take (i + 1) stored)
one_kept stored marks places i id t e items now m lt at mark before is =
    is ∙ chosen t items id ∙ ap₂ (λ (xs : List ObjectId) (b : Bool). xs ++ cond b (id ∷ []) []) before (read_as marks i t e (omega (arith, lt, m.len)) mark ∙ m.each i (Sha1 []) lt)
    ∙ ap (λ (x : ObjectId). filter (λ y. is_among y (ids_at stored places)) (take i stored) ++ cond (is_among (get_or stored i (Sha1 [])) (ids_at stored places)) (x ∷ []) []) (sym (at (Sha1 [])))
    ∙ sym (filter_more (λ x. is_among x (ids_at stored places)) stored i (Sha1 []) lt)
