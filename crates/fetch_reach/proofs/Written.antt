-- Objects at ids, one after the other.
use Rattle.std.proofs.Common.{◌≡◌, ◌≢◌, ℕ, suc, ◌+◌, ◌^◌, ◌<◌, false, cond, ◌||◌, List, [], ◌∷◌, ◌++◌, length, take, drop, get_or, append_assoc, Option, Some, None, All, Contains, Ok, ⊎_elim, refl, sym, ap, subst, ◌∙◌, arith}
use Rattle.std.specs.Prelude.{option_map}
use Rattle.std.specs.List.{filter_map, flat_map, cons_option, list_any, AllByRecursion}
use Rattle.std.specs.List.Sorted.{IsStrictlySortedBy}
use Rattle.std.specs.FinMap as finmap
use Rattle.std.specs.declared.cmp.Ordering.TheVariants.{Less, Equal}
use Rattle.std.specs.Cmp.{tied_itself}
use Rattle.std.proofs.Math.Seq.{get_or-append_seam}
use Rattle.std.proofs.lemmas.List.{append-nil, length-append, length-map, map-append, take_more, take-append-drop, get_or_append_left}
use Rattle.std.proofs.lemmas.List.Elements.{All-head, All-tail, All-contains, All-from_recursion, recursion_from_All, filter_map-append, Contains-append_left, Contains-append_right}
use Rattle.std.proofs.lemmas.Grind.{flat_map-append}
use Rattle.std.proofs.lemmas.List.Kept.{AllPairs-cons}
use Rattle.std.proofs.lemmas.Map.Keys.{sorted_head, sorted_tail}
use Rattle.fetch_base.specs.declared.id.Kind.{Kind}
use Rattle.fetch_base.specs.declared.id.ObjectId.{ObjectId}
use Rattle.fetch_base.specs.Hashing.{digest, id_of}
use Rattle.fetch_objects.specs.Objects.{Stored, IsObject}
use Rattle.fetch_store.specs.Closed.{AreAllOf}
use Rattle.fetch_store.specs.Collisions.{HasDistinctIds, AreAtOne}
use Rattle.fetch_store.specs.Stores.{Entries, ObjectMap, collision}
use Rattle.fetch_base.specs.Id.{id_cmp}
use Rattle.fetch_store.proofs.Collided.{none_differs}
use Rattle.fetch_store.proofs.Finds.{not_tied}
use Rattle.fetch_base.proofs.Ids.{id_cmp_total}
use Rattle.fetch_store.proofs.Members.{first_in}
use Rattle.fetch_pack.specs.declared.version.PackVersion.{PackVersion}
use Rattle.fetch_pack.specs.Records.{Fits, limit_of, record_text, id_text, under_its_id, under_their_ids, body, pack_text, payload_of, payloads_of}
use Rattle.fetch_pack.specs.Reading.{is_id, once_from, read}
use Rattle.fetch_pack.specs.Packs.{entry, entries, IsPack}
use Rattle.fetch_pack.proofs.Laws.{read_again}
use Rattle.fetch_reach.specs.Named.{own_id, IsOwnId, AreObjects}
use Rattle.fetch_reach.specs.Stored.{objects_at, entries_at}

abbrev Entry : Type 0
Entry = ObjectId × Stored

-- ---- entries with distinct ids are kept

absent : (id : ObjectId) (kept : Entries) → AllByRecursion (λ x. x.0 ≢ id) kept → list_any (λ x. is_id id x.0) kept ≡ false
absent id [] all = refl
absent id (x ∷ kept) all = ap (λ b. b || list_any (λ y. is_id id y.0) kept) (not_tied id x.0 (λ same. all.0 (sym same))) ∙ absent id kept all.1

apart_from : (kept : Entries) (o : Entry) (os : Entries) → HasDistinctIds (kept ++ o ∷ os) → AllByRecursion (λ x. x.0 ≢ o.0) kept
apart_from kept o os d =
    recursion_from_All (λ x. x.0 ≢ o.0) kept (λ k e lt same.
    d k (length kept) e lt (omega (arith, length-append kept (o ∷ os)))
    (ap (λ (x : Entry). x.0) (get_or_append_left kept (o ∷ os) e k lt) ∙ same ∙ sym (ap (λ (x : Entry). x.0) (get_or-append_seam kept o os e))))

pub all_kept : (kept os : Entries) → HasDistinctIds (kept ++ os) → once_from kept os ≡ kept ++ os
all_kept kept [] d = sym (append-nil kept)
all_kept kept (o ∷ os) d =
    ap (λ b. once_from (cond b kept (kept ++ o ∷ [])) os) (absent o.0 kept (apart_from kept o os d))
    ∙ all_kept (kept ++ o ∷ []) os (subst HasDistinctIds (sym (append_assoc kept (o ∷ []) os)) d) ∙ append_assoc kept (o ∷ []) os

-- ---- the objects at ids

module _ (objects : ObjectMap) where
  -- what holds of each object that is stored at an id, and of what stands at it
  pub at_each : (P : Stored → Type 0) (ids : List ObjectId) → ((id : ObjectId) (o : Stored) → finmap.get objects id ≡ Some o → P o) → AllByRecursion P (objects_at objects ids)
  at_each P [] each = tt
  at_each P (id ∷ ids) each = by_value (at_each P ids each) (finmap.get objects id) refl
    where
      by_value : AllByRecursion P (objects_at objects ids) → (x : Option Stored) → finmap.get objects id ≡ x → AllByRecursion P (cons_option x (objects_at objects ids))
      by_value rest None is = rest
      by_value rest (Some o) is = (each id o is, rest)

  entry_each : (P : Entry → Type 0) (ids : List ObjectId) → AllByRecursion (λ id. (o : Stored) → finmap.get objects id ≡ Some o → P (id, o)) ids → AllByRecursion P (entries_at objects ids)
  entry_each P [] each = tt
  entry_each P (id ∷ ids) each = by_value (entry_each P ids each.1) (finmap.get objects id) refl
    where
      by_value : AllByRecursion P (entries_at objects ids) → (x : Option Stored) → finmap.get objects id ≡ x → AllByRecursion P (cons_option (option_map (λ o. (id, o)) x) (entries_at objects ids))
      by_value rest None is = rest
      by_value rest (Some o) is = (each.0 o is, rest)

  -- each of own ids has an object
  pub as_many : (ids : List ObjectId) → All (IsOwnId objects) ids → length (objects_at objects ids) ≡ length ids
  as_many [] all = refl
  as_many (id ∷ ids) all =
      ap (λ x. length (cons_option x (objects_at objects ids))) (All-head (IsOwnId objects) id ids all).stored ∙ ap (λ n. suc n) (as_many ids (All-tail (IsOwnId objects) id ids all))

  -- with one id more
  pub next_object : (ids : List ObjectId) (i : ℕ) (d : ObjectId) (o : Stored) → i < length ids → finmap.get objects (get_or ids i d) ≡ Some o
      → objects_at objects (take (i + 1) ids) ≡ objects_at objects (take i ids) ++ o ∷ []
  next_object ids i d o lt is =
      ap (filter_map (finmap.get objects)) (take_more ids i d lt) ∙ filter_map-append (finmap.get objects) (take i ids) (get_or ids i d ∷ [])
      ∙ ap (λ x. objects_at objects (take i ids) ++ cons_option x []) is

  -- an object at an id is one of them
  pub object_among : (ids : List ObjectId) (i : ℕ) (d : ObjectId) (o : Stored) → i < length ids → finmap.get objects (get_or ids i d) ≡ Some o → Contains (objects_at objects ids) o
  object_among ids i d o lt is =
      let whole : objects_at objects ids ≡ objects_at objects (take (i + 1) ids) ++ objects_at objects (drop (i + 1) ids) =
      ap (objects_at objects) (sym (take-append-drop (i + 1) ids)) ∙ filter_map-append (finmap.get objects) (take (i + 1) ids) (drop (i + 1) ids) in
      let here : Contains (objects_at objects (take (i + 1) ids)) o =
      subst (λ (os : List Stored). Contains os o) (sym (next_object ids i d o lt is)) (Contains-append_right (objects_at objects (take i ids)) (o ∷ []) o (first_in o [])) in
      subst (λ (os : List Stored). Contains os o) (sym whole) (Contains-append_left (objects_at objects (take (i + 1) ids)) (objects_at objects (drop (i + 1) ids)) o here)

  -- ---- the pack of them
  module _ (hash : Kind) (of_hash : AreAllOf hash objects) where
    same_entry : (id : ObjectId) (own : IsOwnId objects id) → entry hash (payload_of own.object) ≡ (id, own.object)
    same_entry id own =
        let o = own.object in
        ap (λ (k : Kind). (id_of k o.kind o.bytes, record { hash = k; kind = o.kind; bytes = o.bytes })) (sym (of_hash.each id o own.stored)) ∙ ap (λ (i : ObjectId). (i, o)) (sym own.own)

    pub same_entries : (ids : List ObjectId) → All (IsOwnId objects) ids → entries hash (payloads_of (objects_at objects ids)) ≡ entries_at objects ids
    same_entries [] all = refl
    same_entries (id ∷ ids) all =
        let own = All-head (IsOwnId objects) id ids all in
        ap (λ x. entries hash (payloads_of (cons_option x (objects_at objects ids)))) own.stored ∙ ap (λ (e : Entry). e ∷ entries hash (payloads_of (objects_at objects ids))) (same_entry id own)
        ∙ ap (λ (es : Entries). (id, own.object) ∷ es) (same_entries ids (All-tail (IsOwnId objects) id ids all))
        ∙ sym (ap (λ x. cons_option (option_map (λ o. (id, o)) x) (entries_at objects ids)) own.stored)

    -- what stands under an id in the list is stored there
    stand : (ids : List ObjectId) (x : Entry) → Contains (entries_at objects ids) x → finmap.get objects x.0 ≡ Some x.1
    stand ids x here =
        All-contains (λ (y : Entry). finmap.get objects y.0 ≡ Some y.1) (entries_at objects ids) x
        (All-from_recursion (λ (y : Entry). finmap.get objects y.0 ≡ Some y.1) (entries_at objects ids) (entry_each (λ y. finmap.get objects y.0 ≡ Some y.1) ids (stored_each ids))) here
      where
        stored_each : (ids : List ObjectId) → AllByRecursion (λ id. (o : Stored) → finmap.get objects id ≡ Some o → finmap.get objects id ≡ Some o) ids
        stored_each [] = tt
        stored_each (id ∷ ids) = (λ o is. is, stored_each ids)

    none_differ : (ids : List ObjectId) → AreAtOne finmap.empty (entries_at objects ids)
    none_differ ids = record {
      each = λ front e rest is other.
          ⊎_elim (λ nothing. let none : ◌≡◌ {A = Option Stored} None (Some other.other) = sym (finmap.get-empty id_cmp e.0) ∙ nothing in absurd cc)
          (λ before.
          let here : finmap.get objects e.0 ≡ Some e.1 = stand ids e (subst (λ es. Contains es e) (sym is) (Contains-append_right front (e ∷ rest) e (first_in e rest))) in
          let there : finmap.get objects e.0 ≡ Some other.other = stand ids (e.0, other.other) (subst (λ es. Contains es (e.0, other.other)) (sym is) (Contains-append_left front (e ∷ rest) (e.0, other.other) before)) in
          let same : other.other ≡ e.1 = cc in other.differs (ap (λ (o : Stored). o.kind) same, ap (λ (o : Stored). o.bytes) same))
          other.at;
    }

    pub is_pack : (v : PackVersion) (ids : List ObjectId) → AreObjects objects → All (IsOwnId objects) ids → Fits v (payloads_of (objects_at objects ids))
        → IsPack v hash (pack_text v hash (payloads_of (objects_at objects ids))) (payloads_of (objects_at objects ids))
    is_pack v ids valid all fits = record {
      text = refl;
      fits = fits;
      objects = payloads_each (objects_at objects ids) (at_each (λ o. IsObject hash o.kind o.bytes) ids (λ id o is. subst (λ k. IsObject k o.kind o.bytes) (of_hash.each id o is) (valid.each id o is)));
      distinct = ap (collision finmap.empty) (same_entries ids all) ∙ none_differs finmap.empty (entries_at objects ids) (none_differ ids);
    }
      where
        payloads_each : (os : List Stored) → AllByRecursion (λ o. IsObject hash o.kind o.bytes) os → AllByRecursion (λ p. IsObject hash p.kind p.bytes) (payloads_of os)
        payloads_each [] h = tt
        payloads_each (o ∷ os) h = (h.0, payloads_each os h.1)

    -- ascending ids are distinct
    pub distinct_entries : (ids : List ObjectId) → IsStrictlySortedBy id_cmp ids → HasDistinctIds (entries_at objects ids)
    distinct_entries [] rise = λ i j d lt below. absurd (omega arith)
    distinct_entries (id ∷ ids) rise = by_value (distinct_entries ids (sorted_tail id_cmp id ids rise)) (finmap.get objects id)
      where
        apart : (ids : List ObjectId) → AllByRecursion (λ y. id_cmp id y ≡ Less) ids → AllByRecursion (λ y. (o : Stored) → finmap.get objects y ≡ Some o → id ≢ y) ids
        apart [] h = tt
        apart (y ∷ ids) h = (λ o is same. not_less y (subst (λ z. id_cmp z y ≡ Less) same h.0), apart ids h.1)
          where
            not_less : (y : ObjectId) → id_cmp y y ≡ Less → ⊥
            not_less y less = let tied : id_cmp y y ≡ Equal = tied_itself id_cmp_total y in absurd cc

        by_value : HasDistinctIds (entries_at objects ids) → (x : Option Stored) → HasDistinctIds (cons_option (option_map (λ o. (id, o)) x) (entries_at objects ids))
        by_value rest None = rest
        by_value rest (Some o) =
            AllPairs-cons (λ a b. a.0 ≢ b.0) (id, o) (entries_at objects ids)
            (All-from_recursion (λ (e : Entry). id ≢ e.0) (entries_at objects ids) (entry_each (λ e. id ≢ e.0) ids (apart ids (sorted_head id_cmp id ids rise)))) rest

    pub is_read : (v : PackVersion) (ids : List ObjectId) → AreObjects objects → IsStrictlySortedBy id_cmp ids → All (IsOwnId objects) ids → Fits v (payloads_of (objects_at objects ids))
        → read hash (pack_text v hash (payloads_of (objects_at objects ids)))
        ≡ Ok (record { objects = entries_at objects ids; count = length ids; digest = digest hash (body v hash (payloads_of (objects_at objects ids))) })
    is_read v ids valid rise all fits =
        let ps = payloads_of (objects_at objects ids) in
        let d = digest hash (body v hash ps) in
        let kept : once_from [] (entries hash ps) ≡ entries_at objects ids = ap (once_from []) (same_entries ids all) ∙ all_kept [] (entries_at objects ids) (distinct_entries ids rise) in
        let count : length ps ≡ length ids = length-map (objects_at objects ids) payload_of ∙ as_many ids all in
        read_again v hash (pack_text v hash ps) ps (is_pack v ids valid all fits) ∙ ap (λ (es : Entries). Ok (record { objects = es; count = length ps; digest = d })) kept
        ∙ ap (λ (n : ℕ). Ok (record { objects = entries_at objects ids; count = n; digest = d })) count

-- ---- the text of a pack, record by record

-- with one object more, under its own id
pub next_record : (v : PackVersion) (hash : Kind) (before more : List ℕ) (os : List Stored) (o : Stored) (id : ObjectId) → o.hash ≡ hash → id ≡ own_id o
    → before ≡ more ++ flat_map (record_text v) (under_their_ids v hash (payloads_of os))
    → before ++ record_text v (record { id = id_text v id; payload = payload_of o }) ≡ more ++ flat_map (record_text v) (under_their_ids v hash (payloads_of (os ++ o ∷ [])))
next_record v hash before more os o id of_hash own is =
    let records : List Stored → List ℕ = λ xs. flat_map (record_text v) (under_their_ids v hash (payloads_of xs)) in
    let one : record_text v (record { id = id_text v id; payload = payload_of o }) ≡ records (o ∷ []) =
    ap (λ i. record_text v (record { id = id_text v i; payload = payload_of o })) (own ∙ ap (λ k. id_of k o.kind o.bytes) of_hash)
    ∙ sym (append-nil (record_text v (under_its_id v hash (payload_of o)))) in
    let joined : records os ++ records (o ∷ []) ≡ records (os ++ o ∷ []) =
    sym (ap (λ xs. flat_map (record_text v) (under_their_ids v hash xs)) (map-append payload_of os (o ∷ []))
    ∙ ap (flat_map (record_text v)) (map-append (under_its_id v hash) (payloads_of os) (payloads_of (o ∷ [])))
    ∙ flat_map-append (record_text v) (under_their_ids v hash (payloads_of os)) (under_their_ids v hash (payloads_of (o ∷ [])))) in
    ap (λ t. before ++ t) one ∙ ap (λ t. t ++ records (o ∷ [])) is ∙ append_assoc more (records os) (records (o ∷ [])) ∙ ap (λ t. more ++ t) joined

-- objects below the limit fit, where they are few enough
pub they_fit : (v : PackVersion) (os : List Stored) → length os < 2 ^ 32 → AllByRecursion (λ o. length o.bytes < limit_of v) os → Fits v (payloads_of os)
they_fit v os few all = record { count = subst (λ n. n < 2 ^ 32) (sym (length-map os payload_of)) few; each = each os all }
  where
    each : (os : List Stored) → AllByRecursion (λ o. length o.bytes < limit_of v) os → AllByRecursion (λ p. length p.bytes < limit_of v) (payloads_of os)
    each [] h = tt
    each (o ∷ os) h = (h.0, each os h.1)

pub one_more_fits : (v : PackVersion) (os : List Stored) (o : Stored) → AllByRecursion (λ x. length x.bytes < limit_of v) os → length o.bytes < limit_of v → AllByRecursion (λ x. length x.bytes < limit_of v) (os ++ o ∷ [])
one_more_fits v [] o all one = (one, tt)
one_more_fits v (x ∷ os) o all one = (all.0, one_more_fits v os o all.1 one)
