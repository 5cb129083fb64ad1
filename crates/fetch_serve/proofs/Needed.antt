-- What is served, as a list.
use Rattle.std.proofs.Common.{◌≡◌, Bool, true, false, ◌||◌, ◌&&◌, List, [], get_or, Option, Some, None, refl, sym, ap, ◌∙◌, subst, inl, inr, All, Contains}
use Rattle.std.specs.Prelude.{◌⊎◌, ◌↔◌, IsTrue, is_some}
use Rattle.std.specs.FinMap as finmap
use Rattle.std.specs.FinSet as set
use Rattle.std.specs.List.Sorted.{IsStrictlySortedBy}
use Rattle.std.proofs.lemmas.List.{append-nil}
use Rattle.std.proofs.lemmas.List.Elements.{Contains-get_or}
use Rattle.std.proofs.lemmas.List.Kept.{IsStrictlySortedBy-filter}
use Rattle.fetch_store.specs.Borders.{IdSet, merged}
use Rattle.fetch_store.specs.Closed.{IsStored, Reached}
use Rattle.fetch_objects.specs.Objects.{Stored}
use Rattle.fetch_store.specs.Stores.{ObjectMap}
use Rattle.fetch_base.specs.Id.{id_cmp}
use Rattle.fetch_base.specs.declared.id.ObjectId.{ObjectId}
use Rattle.fetch_store.proofs.Borders.{named-Contains, Contains-named}
use Rattle.fetch_store.proofs.Honesty.{reached_stored}
use Rattle.fetch_base.proofs.Ids.{id_cmp_exact, id_cmp_total}
use Rattle.fetch_store.proofs.Keys.{keys-rise}
use Rattle.fetch_store.proofs.Merges.{contains-merged}
use Rattle.fetch_reach.specs.Named.{AreOwnIds, IsOwnId}
use Rattle.fetch_asked.specs.declared.asked.FetchAsked.{FetchAsked}
use Rattle.fetch_serve.specs.declared.depth.Depth.{Depth}
use Rattle.fetch_serve.specs.Depths.{border_of}
use Rattle.fetch_serve.specs.Packs.{IsNeeded, IsServedAt, IsTagOnTheWay, is_needed, known_haves, seen_after, seen_by, served_at, starts_of, tags_along}
use Rattle.fetch_asked.specs.Requests.{has_id}
use Rattle.fetch_serve.specs.Servable.{IsServable}
use Rattle.fetch_serve.specs.Served.{Data, history_of}
use Rattle.fetch_serve.proofs.Lists.{same_ids}
use Rattle.fetch_serve.proofs.Reached.{filtered, keeps, needed_test}
use Rattle.fetch_serve.proofs.Tags.{along_way, on_way, tag_leads, way_along}

-- ---- stored ids

pub key_stored : (objects : ObjectMap) (id : ObjectId) → Contains (finmap.keys objects) id → IsStored objects id
key_stored objects id here = finmap.contains_key-keys objects id ∙ named-Contains id (finmap.keys objects) here

pub stored_key : (objects : ObjectMap) (id : ObjectId) → IsStored objects id → Contains (finmap.keys objects) id
stored_key objects id is = Contains-named id (finmap.keys objects) (sym (finmap.contains_key-keys objects id) ∙ is)

own_by : (objects : ObjectMap) (id : ObjectId) (found : Option Stored) → finmap.get objects id ≡ found → AreOwnIds objects → is_some found ≡ true → IsOwnId objects id
own_by objects id None e own is = absurd (cc)
own_by objects id (Some o) e own is = record { object = o; stored = e; own = own.each id o e }

-- a stored id is its object's hash
pub stored_own : (objects : ObjectMap) (id : ObjectId) → AreOwnIds objects → IsStored objects id → IsOwnId objects id
stored_own objects id own is = own_by objects id (finmap.get objects id) refl own is

-- ---- what is served

either : (a b : Bool) → (a || b) ≡ true → (a ≡ true) ⊎ (b ≡ true)
either true b e = inl refl
either false b e = inr e

first_true : (a b : Bool) → a ≡ true → (a || b) ≡ true
first_true true b e = refl
first_true false b e = absurd (cc)

second_true : (a b : Bool) → b ≡ true → (a || b) ≡ true
second_true true b e = refl
second_true false b e = e

module _ (d : Data) (r : FetchAsked) (x : Depth) where
  pub needed_stored : (id : ObjectId) → IsNeeded d r x id → IsStored d.objects id
  needed_stored id n = reached_stored (seen_after d r x) (starts_of d r x) id n.reached

  -- a tag on a way is stored
  pub tag_stored : (id : ObjectId) → IsServable d → IsTagOnTheWay d r x id → IsStored d.objects id
  tag_stored id s t =
      let next = on_way (history_of d) t.first t.way t.last id t.leads.leads t.among in
      let o = tag_leads d id next.0 s.objects next.1 in
      ap is_some o.1

  -- what is served is needed, or a tag on the way to it
  pub served_is : (id : ObjectId) → Contains (served_at d r x) id → IsServedAt d r x id
  served_is id h =
      let f = filtered (λ id. is_needed d r x id || has_id id (tags_along d r x)) id (finmap.keys d.objects) h in
      elim (either (is_needed d r x id) (has_id id (tags_along d r x)) f.1) [
        | inl passed ↦ inl ((needed_test d r x id).0 passed)
        | inr tag ↦ inr (along_way d r x id (Contains-named id (tags_along d r x) tag))
      ]

  pub needed_served : (id : ObjectId) → IsNeeded d r x id → Contains (served_at d r x) id
  needed_served id n =
      keeps (λ id. is_needed d r x id || has_id id (tags_along d r x)) id (finmap.keys d.objects) (stored_key d.objects id (needed_stored id n))
      (first_true (is_needed d r x id) (has_id id (tags_along d r x)) ((needed_test d r x id).1 n))

  pub tag_served : (id : ObjectId) → IsServable d → IsTrue r.include_tag → IsTagOnTheWay d r x id → Contains (served_at d r x) id
  tag_served id s asked t =
      keeps (λ id. is_needed d r x id || has_id id (tags_along d r x)) id (finmap.keys d.objects) (stored_key d.objects id (tag_stored id s t))
      (second_true (is_needed d r x id) (has_id id (tags_along d r x)) (named-Contains id (tags_along d r x) (way_along d r x id asked t)))

  pub is_served : (id : ObjectId) → IsServable d → IsServedAt d r x id → Contains (served_at d r x) id
  is_served id s (inl n) = needed_served id n
  is_served id s (inr (asked, t)) = tag_served id s asked t

  -- what is served is stored
  pub served_stored : (id : ObjectId) → Contains (served_at d r x) id → IsStored d.objects id
  served_stored id h = key_stored d.objects id (filtered (λ id. is_needed d r x id || has_id id (tags_along d r x)) id (finmap.keys d.objects) h).0

  pub served_rise : IsStrictlySortedBy id_cmp (served_at d r x)
  served_rise = IsStrictlySortedBy-filter id_cmp (λ id. is_needed d r x id || has_id id (tags_along d r x)) (finmap.keys d.objects) (keys-rise d.objects)

  pub served_own : AreOwnIds d.objects → All (IsOwnId d.objects) (served_at d r x)
  served_own own = λ k e lt. stored_own d.objects (get_or (served_at d r x) k e) own (served_stored (get_or (served_at d r x) k e) (Contains-get_or (served_at d r x) k e lt))

  -- an ascending list of what is needed and of the tags is what is served
  pub served_list : (ids : List ObjectId) → IsServable d → IsStrictlySortedBy id_cmp ids → ((id : ObjectId) → Contains ids id ↔ (IsNeeded d r x id ⊎ Contains (tags_along d r x) id)) → ids ≡ served_at d r x
  served_list ids s rise each =
      same_ids ids (served_at d r x) rise served_rise
      (λ id here. elim ((each id).0 here) [ inl n ↦ needed_served id n | inr tag ↦ (let a = along_way d r x id tag in tag_served id s a.0 a.1) ])
      (λ id here. (each id).1 (elim (served_is id here) [ inl n ↦ inl n | inr t ↦ inr (way_along d r x id t.0 t.1) ]))

-- ---- what is needed

-- what is reached from where the pack begins, and not from the haves, is needed
pub needed_by : (d : Data) (r : FetchAsked) (x : Depth) (after border : IdSet) (starts haves : List ObjectId) → after ≡ merged (border_of r) x.shallow x.unshallow → border ≡ border_of r → starts ≡ starts_of d r x → haves ≡ known_haves d r
    → (id : ObjectId) → (Reached (seen_by d after) starts id × (Reached (seen_by d border) haves id → ⊥)) ↔ IsNeeded d r x id
needed_by d r x after border starts haves a b s h id = (
  λ p. record {
    reached = subst (λ st. Reached (seen_after d r x) st id) s (subst (λ bb. Reached (seen_by d bb) starts id) a p.0);
    lacking = λ held. p.1 (subst (λ st. Reached (seen_by d border) st id) (sym h) (subst (λ bb. Reached (seen_by d bb) (known_haves d r) id) (sym b) held));
  },
  λ n. (
    subst (λ st. Reached (seen_by d after) st id) (sym s) (subst (λ bb. Reached (seen_by d bb) (starts_of d r x) id) (sym a) n.reached),
    λ held. n.lacking (subst (λ st. Reached (seen_by d (border_of r)) st id) h (subst (λ bb. Reached (seen_by d bb) haves id) b held)),
  ),
)

-- ---- without depth

unmoved : (b : IdSet) (id : ObjectId) → set.contains (merged b [] []) id ≡ set.contains b id
unmoved b id = contains-merged b (record { objects = []; shallow = []; unshallow = [] }) id ∙ still (set.contains b id)
  where
    still : (t : Bool) → ((t || false) && true) ≡ t
    still true = refl
    still false = refl

-- no line moves no border
pub merged_none : (b : IdSet) → merged b [] [] ≡ b
merged_none b = set.same_set id_cmp_total id_cmp_exact (merged b [] []) b (unmoved b)

-- where nothing is decided, what is reached from the wants, and not from the haves, is needed
pub needed_none : (d : Data) (r : FetchAsked) (border : IdSet) (starts haves : List ObjectId) → border ≡ border_of r → starts ≡ r.wants → haves ≡ known_haves d r → (id : ObjectId)
    → (Reached (seen_by d border) starts id × (Reached (seen_by d border) haves id → ⊥)) ↔ IsNeeded d r (record { kept = []; shallow = []; unshallow = [] }) id
needed_none d r border starts haves b s h id =
    needed_by d r (record { kept = []; shallow = []; unshallow = [] }) border border starts haves (b ∙ sym (merged_none (border_of r))) b (s ∙ sym (append-nil r.wants)) h id
