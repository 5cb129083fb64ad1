-- Steps of loops over ids, and what they collect.
use Rattle.std.proofs.Common.{◌≡◌, ℕ, zero, suc, ◌+◌, ◌-◌, ◌<◌, Bool, true, false, cond, not, ◌||◌, ◌&&◌, List, [], ◌∷◌, ◌++◌, length, drop, get_or, filter, Option, Some, None, Result, Ok, Err, refl, sym, ap, ◌∙◌, subst, arith, append_assoc, inl, inr, Contains}
use Rattle.std.specs.Prelude.{◌⊎◌, ◌↔◌, IfOk, nat_eq, slice_get}
use Rattle.std.specs.FinSet as set
use Rattle.std.specs.FinMap as finmap
use Rattle.std.specs.List.{cons_option, flat_map, list_any, starts_with}
use Rattle.std.specs.List.Sorted.{IsStrictlySortedBy}
use Rattle.std.specs.Option.{option_map_or}
use Rattle.std.proofs.Math.Seq.{drop-cons}
use Rattle.std.proofs.lemmas.List.Elements.{filter_agree}
use Rattle.fetch_store.specs.Borders.{IdSet, merged, set_of}
use Rattle.fetch_store.specs.Closed.{Reached}
use Rattle.fetch_store.specs.Graph.{Graph}
use Rattle.fetch_store.specs.Missing.{parents_at}
use Rattle.fetch_objects.specs.Objects.{Stored}
use Rattle.fetch_store.specs.Stores.{ObjectMap}
use Rattle.fetch_base.specs.Id.{id_cmp}
use Rattle.fetch_base.specs.declared.id.ObjectId.{ObjectId}
use Rattle.fetch_store.proofs.Borders.{alike, named-Contains, Contains-named}
use Rattle.fetch_base.proofs.Ids.{id_cmp_total}
use Rattle.fetch_reach.specs.Stored.{objects_at}
use Rattle.fetch_refs.specs.Leading.{next_tag}
use Rattle.fetch_lines.specs.References.{id_in, name_in, peeled_in}
use Rattle.fetch_lines.specs.declared.listings.reference.Ref.{Ref}
use Rattle.fetch_asked.specs.declared.asked.FetchAsked.{FetchAsked}
use Rattle.fetch_serve.specs.Offered.{offered_of}
use Rattle.fetch_serve.specs.declared.depth.Depth.{Depth}
use Rattle.fetch_serve.specs.Depths.{border_of, parents_in}
use Rattle.fetch_serve.specs.Packs.{IsNeeded, is_needed, is_some_of, known_haves, seen_by, served_at, starts_of, tags_along, tags_at, tags_from, tags_of, tags_prefix}
use Rattle.fetch_asked.specs.Requests.{has_id}
use Rattle.fetch_serve.specs.Servable.{IsServable}
use Rattle.fetch_serve.specs.Served.{Data, history_of}
use Rattle.fetch_serve.proofs.Lists.{each_same}
use Rattle.fetch_serve.proofs.Kept.{parents_are}
use Rattle.fetch_serve.proofs.Needed.{needed_by, served_list}
use Rattle.fetch_serve.proofs.Reached.{needed_test}

-- ---- one more of a list

pub drop_one : {X : Type 0} (xs : List X) (i : ℕ) (d : X) → i < length xs → drop i xs ≡ get_or xs i d ∷ drop (i + 1) xs
drop_one xs i d lt = let n : suc i ≡ i + 1 = omega arith in drop-cons xs i d lt ∙ ap (λ (k : ℕ). get_or xs i d ∷ drop k xs) n

-- what is kept, with one more
kept_by : {X : Type 0} (x : X) (kept rest now all : List X) (b : Bool) → kept ++ cond b (x ∷ rest) rest ≡ all → now ≡ cond b (kept ++ x ∷ []) kept → now ++ rest ≡ all
kept_by x kept rest now all true is later = ap (λ l. l ++ rest) later ∙ append_assoc kept (x ∷ []) rest ∙ is
kept_by x kept rest now all false is later = ap (λ l. l ++ rest) later ∙ is

pub kept_more : {X : Type 0} (p : X → Bool) (xs : List X) (i : ℕ) (d : X) (kept now all : List X) → i < length xs → kept ++ filter p (drop i xs) ≡ all → now ≡ cond (p (get_or xs i d)) (kept ++ get_or xs i d ∷ []) kept
    → now ++ filter p (drop (i + 1) xs) ≡ all
kept_more p xs i d kept now all lt is later =
    kept_by (get_or xs i d) kept (filter p (drop (i + 1) xs)) now all (p (get_or xs i d)) (ap (λ l. kept ++ filter p l) (sym (drop_one xs i d lt)) ∙ is) later

-- the first that passes
pub first_here : {X : Type 0} (p : X → Bool) (xs : List X) (i : ℕ) (d : X) → i < length xs → p (get_or xs i d) ≡ true → slice_get (filter p (drop i xs)) 0 ≡ Some (get_or xs i d)
first_here p xs i d lt passes =
    ap (λ l. slice_get (filter p l) 0) (drop_one xs i d lt) ∙ ap (λ b. slice_get (cond b (get_or xs i d ∷ filter p (drop (i + 1) xs)) (filter p (drop (i + 1) xs))) 0) passes

pub first_later : {X : Type 0} (p : X → Bool) (xs : List X) (i : ℕ) (d : X) → i < length xs → p (get_or xs i d) ≡ false → slice_get (filter p (drop i xs)) 0 ≡ slice_get (filter p (drop (i + 1) xs)) 0
first_later p xs i d lt fails =
    ap (λ l. slice_get (filter p l) 0) (drop_one xs i d lt) ∙ ap (λ b. slice_get (cond b (get_or xs i d ∷ filter p (drop (i + 1) xs)) (filter p (drop (i + 1) xs))) 0) fails

-- whether one of the objects at ids passes
any_by : (p : Stored → Bool) (os : List Stored) (o : Option Stored) → list_any p (cons_option o os) ≡ (option_map_or p o false || list_any p os)
any_by p os None = refl
any_by p os (Some o) = refl

pub any_at : (objects : ObjectMap) (p : Stored → Bool) (ids : List ObjectId) (i : ℕ) (d : ObjectId) → i < length ids
    → list_any p (objects_at objects (drop i ids)) ≡ (option_map_or p (finmap.get objects (get_or ids i d)) false || list_any p (objects_at objects (drop (i + 1) ids)))
any_at objects p ids i d lt = ap (λ l. list_any p (objects_at objects l)) (drop_one ids i d lt) ∙ any_by p (objects_at objects (drop (i + 1) ids)) (finmap.get objects (get_or ids i d))

-- ---- tags

pub tags_go : (history : Graph) (n : ℕ) (id next : ObjectId) → 0 < n → next_tag history id ≡ Some next → tags_from history n id ≡ id ∷ tags_from history (n - 1) next
tags_go history zero id next some is = absurd (omega arith)
tags_go history (suc n) id next some is =
    let m : n ≡ suc n - 1 = omega arith in
    ap (λ o. option_map_or (λ y. id ∷ tags_from history n y) o []) is ∙ ap (λ (k : ℕ). id ∷ tags_from history k next) m

pub tags_stop : (history : Graph) (n : ℕ) (id : ObjectId) → next_tag history id ≡ None → tags_from history n id ≡ []
tags_stop history zero id is = refl
tags_stop history (suc n) id is = ap (λ o. option_map_or (λ y. id ∷ tags_from history n y) o []) is

-- ---- what is served

some_same : (p q : ObjectId → Bool) (o : Option ObjectId) → ((id : ObjectId) → p id ≡ q id) → is_some_of p o ≡ is_some_of q o
some_same p q None same = refl
some_same p q (Some id) same = same id

tags_same : (history : Graph) (p q : ObjectId → Bool) (r : Ref) → ((id : ObjectId) → p id ≡ q id) → tags_of history p r ≡ tags_of history q r
tags_same history p q r same = ap (λ b. cond (starts_with nat_eq (name_in r) tags_prefix && b) (tags_at history (id_in r)) []) (some_same p q (peeled_in r) same)

module _ (d : Data) (r : FetchAsked) (x : Depth) (needed : List ObjectId) (each : (id : ObjectId) → Contains needed id ↔ IsNeeded d r x id) where
  -- a list of what is needed tests as the definition does
  listed_test : (id : ObjectId) → has_id id needed ≡ is_needed d r x id
  listed_test id =
      alike (has_id id needed) (is_needed d r x id) (λ e. (needed_test d r x id).1 ((each id).0 (Contains-named id needed e))) (λ e. named-Contains id needed ((each id).1 ((needed_test d r x id).0 e)))

  along_by : (b : Bool) → r.include_tag ≡ b → (tags : List ObjectId) → tags ≡ cond b (flat_map (tags_of (history_of d) (λ id. has_id id needed)) (offered_of d false [])) [] → tags ≡ tags_along d r x
  along_by b is tags tags_are =
      tags_are ∙ ap (λ l. cond b l []) (each_same (tags_of (history_of d) (λ id. has_id id needed)) (tags_of (history_of d) (is_needed d r x)) (offered_of d false []) (λ ref. tags_same (history_of d) (λ id. has_id id needed) (is_needed d r x) ref listed_test))
      ∙ ap (λ c. cond c (flat_map (tags_of (history_of d) (is_needed d r x)) (offered_of d false [])) []) (sym is)

  list_by : (tags ids : List ObjectId) → IsServable d → tags ≡ tags_along d r x → IsStrictlySortedBy id_cmp ids → ((id : ObjectId) → Contains ids id ↔ (Contains needed id ⊎ Contains tags id)) → ids ≡ served_at d r x
  list_by tags ids s tags_are rise both =
      served_list d r x ids s rise (λ id. (
        λ here. elim ((both id).0 here) [ inl n ↦ inl ((each id).0 n) | inr t ↦ inr (subst (λ (l : List ObjectId). Contains l id) tags_are t) ],
        λ there. (both id).1 (elim there [ inl n ↦ inl ((each id).1 n) | inr t ↦ inr (subst (λ (l : List ObjectId). Contains l id) (sym tags_are) t) ]),
      ))

none_in : {X : Type 0} (x : X) → Contains [] x → ⊥
none_in x h = absurd (omega (arith, h.1))

-- without tags what is needed is served
pub served_plain : (d : Data) (r : FetchAsked) (x : Depth) (needed : List ObjectId) → IsServable d → ((id : ObjectId) → Contains needed id ↔ IsNeeded d r x id) → IsStrictlySortedBy id_cmp needed → r.include_tag ≡ false → needed ≡ served_at d r x
served_plain d r x needed s each rise plain =
    list_by d r x needed each [] needed s (along_by d r x needed each false plain [] refl) rise (λ id. (λ here. inl here, λ there. elim there [ inl n ↦ n | inr t ↦ absurd (none_in id t) ]))

-- and else the tags come along
pub served_with : (d : Data) (r : FetchAsked) (x : Depth) (needed tags ids : List ObjectId) → IsServable d → ((id : ObjectId) → Contains needed id ↔ IsNeeded d r x id) → r.include_tag ≡ true
    → tags ≡ flat_map (tags_of (history_of d) (λ id. has_id id needed)) (offered_of d false []) → IsStrictlySortedBy id_cmp ids → ((id : ObjectId) → Contains ids id ↔ (Contains needed id ⊎ Contains tags id)) → ids ≡ served_at d r x
served_with d r x needed tags ids s each asked tags_are rise both =
    list_by d r x needed each tags ids s (along_by d r x needed each true asked tags tags_are) rise both

pub served_ok : {E : Type 0} (d : Data) (r : FetchAsked) (x : Depth) (needed tags : List ObjectId) (result : Result (List ObjectId) E) → IsServable d → ((id : ObjectId) → Contains needed id ↔ IsNeeded d r x id) → r.include_tag ≡ true
    → tags ≡ flat_map (tags_of (history_of d) (λ id. has_id id needed)) (offered_of d false []) → IfOk result (λ ids. IsStrictlySortedBy id_cmp ids) → IfOk result (λ ids. (id : ObjectId) → Contains ids id ↔ (Contains needed id ⊎ Contains tags id))
    → IfOk result (λ ids. ids ≡ served_at d r x)
served_ok d r x needed tags (Ok ids) s each asked tags_are rise both = served_with d r x needed tags ids s each asked tags_are rise both
served_ok d r x needed tags (Err e) s each asked tags_are rise both = tt

-- ---- what is needed

needed_from : (d : Data) (r : FetchAsked) (x : Depth) (after border : IdSet) (starts all held haves left : List ObjectId) → after ≡ merged (border_of r) x.shallow x.unshallow → border ≡ border_of r → starts ≡ starts_of d r x → haves ≡ known_haves d r
    → ((id : ObjectId) → Contains all id ↔ Reached (seen_by d after) starts id) → ((id : ObjectId) → Contains held id ↔ Reached (seen_by d border) haves id)
    → ((id : ObjectId) → Contains left id ↔ (Contains all id × (Contains held id → ⊥))) → (id : ObjectId) → Contains left id ↔ IsNeeded d r x id
needed_from d r x after border starts all held haves left a b s h reached had each id =
    let n = needed_by d r x after border starts haves a b s h id in (
      λ here. (let p = (each id).0 here in n.0 ((reached id).0 p.0, λ y. p.1 ((had id).1 y))),
      λ is. (let p = n.1 is in (each id).1 ((reached id).1 p.0, λ y. p.1 ((had id).0 y))),
    )

pub needed_ok : {E : Type 0} (d : Data) (r : FetchAsked) (x : Depth) (after border : IdSet) (starts all held haves : List ObjectId) (result : Result (List ObjectId) E) → after ≡ merged (border_of r) x.shallow x.unshallow → border ≡ border_of r → starts ≡ starts_of d r x
    → haves ≡ known_haves d r → ((id : ObjectId) → Contains all id ↔ Reached (seen_by d after) starts id) → ((id : ObjectId) → Contains held id ↔ Reached (seen_by d border) haves id)
    → IfOk result (λ left. (id : ObjectId) → Contains left id ↔ (Contains all id × (Contains held id → ⊥))) → IfOk result (λ ids. (id : ObjectId) → Contains ids id ↔ IsNeeded d r x id)
needed_ok d r x after border starts all held haves (Ok left) a b s h reached had each = needed_from d r x after border starts all held haves left a b s h reached had each
needed_ok d r x after border starts all held haves (Err e) a b s h reached had each = tt

-- where the pack begins
pub starts_are : (d : Data) (r : FetchAsked) (x : Depth) (wants kept unshallow first second third : List ObjectId) → wants ≡ r.wants → kept ≡ x.kept → unshallow ≡ x.unshallow → first ≡ wants → second ≡ first ++ kept
    → third ≡ second ++ flat_map (parents_in (history_of d)) unshallow → third ≡ starts_of d r x
starts_are d r x wants kept unshallow first second third w k u a b c =
    let behind = flat_map (parents_in (history_of d)) in
    c ∙ ap (λ l. l ++ behind unshallow) (b ∙ ap (λ l. l ++ kept) (a ∙ w)) ∙ append_assoc r.wants kept (behind unshallow)
    ∙ ap (λ l. r.wants ++ (l ++ behind unshallow)) k ∙ ap (λ l. r.wants ++ (x.kept ++ behind l)) u
    ∙ ap (λ l. r.wants ++ (x.kept ++ l)) (each_same (parents_in (history_of d)) (parents_at d.objects) x.unshallow (parents_are d.objects))

-- ---- ids that are offered

pub same_test : (xs ys : List ObjectId) → set_of xs ≡ set_of ys → (id : ObjectId) → has_id id xs ≡ has_id id ys
same_test xs ys same id = sym (set.contains-from_list id_cmp_total xs id) ∙ ap (λ s. set.contains s id) same ∙ set.contains-from_list id_cmp_total ys id

-- the first that isn't one of some ids, by another list of them
pub first_same : (xs ys wants : List ObjectId) (found : Option ObjectId) → set_of xs ≡ set_of ys → found ≡ slice_get (filter (λ id. not (has_id id xs)) wants) 0 → found ≡ slice_get (filter (λ id. not (has_id id ys)) wants) 0
first_same xs ys wants found same is =
    is ∙ ap (λ l. slice_get l 0) (filter_agree (λ id. not (has_id id xs)) (λ id. not (has_id id ys)) (λ id. ap not (same_test xs ys same id)) wants)
