-- The commits that depth lines keep.
use Rattle.std.proofs.Common.{◌≡◌, ℕ, ◌-◌, Bool, true, false, ◌||◌, cond, List, [], filter, get_or, Option, Some, None, Result, Ok, Err, refl, sym, ap, ◌∙◌, subst, inl, inr, Contains}
use Rattle.std.specs.Prelude.{◌⊎◌, ◌↔◌, IfOk, IsSome, option_map}
use Rattle.std.specs.FinMap as finmap
use Rattle.std.specs.FinSet as set
use Rattle.std.specs.List.Sorted.{IsStrictlySortedBy}
use Rattle.std.specs.Option.{option_map_or}
use Rattle.std.proofs.lemmas.List.Elements.{Contains-get_or}
use Rattle.std.proofs.lemmas.List.Kept.{IsStrictlySortedBy-filter}
use Rattle.fetch_store.specs.Borders.{IdSet}
use Rattle.fetch_store.specs.Closed.{IsCommit, is_commit, parents}
use Rattle.fetch_store.specs.Graph.{Graph, Node, graph_of, is_commit_at, node_of}
use Rattle.fetch_store.specs.Missing.{parents_at}
use Rattle.fetch_objects.specs.Objects.{Stored}
use Rattle.fetch_base.specs.Kinds.{is_kind}
use Rattle.fetch_store.specs.Spread.{IsWithin}
use Rattle.fetch_store.specs.Stores.{ObjectMap}
use Rattle.fetch_base.specs.Id.{id_cmp}
use Rattle.fetch_base.specs.declared.id.ObjectId.{ObjectId}
use Rattle.fetch_base.specs.declared.object_kind.ObjectKind.TheVariants.{Commit}
use Rattle.fetch_store.proofs.Borders.{named-Contains, Contains-named}
use Rattle.fetch_store.proofs.Graphs.{get-graph_of}
use Rattle.fetch_base.proofs.Ids.{id_cmp_total}
use Rattle.fetch_store.proofs.Keys.{keys-rise}
use Rattle.fetch_store.proofs.Members.{none_in}
use Rattle.fetch_asked.specs.declared.asked.DepthAsked.{DepthAsked}
use Rattle.fetch_asked.specs.declared.asked.DepthAsked.TheVariants.{Deepen, Limits}
use Rattle.fetch_asked.specs.declared.asked.FetchAsked.{FetchAsked}
use Rattle.fetch_serve.specs.declared.depth.Move.{Move}
use Rattle.fetch_serve.specs.declared.depth.Move.TheVariants.{Comes, Leaves}
use Rattle.fetch_serve.specs.declared.depth.Way.{Way}
use Rattle.fetch_serve.specs.declared.depth.Way.TheVariants as ways
use Rattle.fetch_serve.specs.Depths.{IsDepth, IsKeptBy, are_parents_among, border_of, depth_of, either_of, excluded_by, is_moved, kept_by, kept_of, led_to, limited_steps, may_be_kept, met_of, moved_of, near_of, parent_steps, parents_in, roots_of, shallow_of, steps_to, steps_within, unshallow_of}
use Rattle.fetch_asked.specs.Requests.{has_id}
use Rattle.fetch_serve.specs.Served.{Data, history_of}
use Rattle.fetch_serve.specs.Ways.{steps_by}
use Rattle.fetch_serve.proofs.Lists.{same_ids}
use Rattle.fetch_serve.proofs.Reached.{both, filtered, keeps}
use Rattle.fetch_serve.proofs.Within.{led_list, led_to_is, led_to_known, led_to_rises, within_there}

-- ---- steps lead to commits

if_commit : (b : Bool) (ids : List ObjectId) → IsSome (cond b (Some ids) None) → b ≡ true
if_commit true ids h = refl
if_commit false ids h = absurd (cc)

known_by : (o : Option Node) → option_map_or (λ n. is_kind n.kind Commit) o false ≡ true → IsSome o
known_by None e = absurd (cc)
known_by (Some n) e = refl

pub commit_known : (history : Graph) (id : ObjectId) → is_commit_at history id ≡ true → IsSome (finmap.get history id)
commit_known history id e = known_by (finmap.get history id) e

module _ (history : Graph) where
  pub parents_known : (id : ObjectId) → IsSome (parent_steps history id) → IsSome (finmap.get history id)
  parents_known id h = commit_known history id (if_commit (is_commit_at history id) (parents_in history id) h)

  pub within_known : (border : IdSet) (id : ObjectId) → IsSome (steps_within history border id) → IsSome (finmap.get history id)
  within_known border id h = commit_known history id (if_commit (is_commit_at history id) (cond (set.contains border id) [] (parents_in history id)) h)

  pub to_known : (passes : ObjectId → Bool) (id : ObjectId) → IsSome (steps_to history passes id) → IsSome (finmap.get history id)
  to_known passes id h = commit_known history id (if_commit (is_commit_at history id) (filter passes (parents_in history id)) h)

  pub way_known : (way : Way) (id : ObjectId) → IsSome (steps_by history way id) → IsSome (finmap.get history id)
  way_known ways.All id h = parents_known id h
  way_known (ways.Within border) id h = within_known border.now id h
  way_known (ways.Limited cutoff excluded) id h = to_known (may_be_kept history cutoff excluded.now) id h

  -- ---- a walk of the code

  walk_list : {E : Type 0} (way : Way) (starts : List ObjectId) (limit : Option ℕ) (result : Result (List ObjectId) E) → IfOk result (λ ids. (id : ObjectId) → Contains ids id ↔ IsWithin (steps_by history way) starts limit id)
      → IfOk result (λ ids. IsStrictlySortedBy id_cmp ids) → IfOk result (λ ids. ids ≡ led_to history (steps_by history way) starts limit)
  walk_list way starts limit (Ok ids) each rise = led_list (steps_by history way) history (way_known way) starts limit ids rise each (led_to_rises history (steps_by history way) starts limit)
  walk_list way starts limit (Err e) each rise = tt

  pub walk_is : {E : Type 0} (way : Way) (starts : List ObjectId) (limit : Option ℕ) (result : Result (List ObjectId) E) → IfOk result (λ ids. (id : ObjectId) → Contains ids id ↔ IsWithin (steps_by history way) starts limit id)
      → IfOk result (λ ids. IsStrictlySortedBy id_cmp ids) → IfOk result (λ ids. ids ≡ led_to history (steps_by history way) starts limit)
  walk_is way starts limit result each rise = walk_list way starts limit result each rise

  -- ---- either of two lists

  first_true : (a b : Bool) → a ≡ true → (a || b) ≡ true
  first_true true b e = refl
  first_true false b e = absurd (cc)

  second_true : (a b : Bool) → b ≡ true → (a || b) ≡ true
  second_true true b e = refl
  second_true false b e = e

  which : (a b : Bool) → (a || b) ≡ true → (a ≡ true) ⊎ (b ≡ true)
  which true b e = inl refl
  which false b e = inr e

  module _ (xs ys : List ObjectId) where
    pub in_which : (id : ObjectId) → Contains (either_of history xs ys) id → Contains xs id ⊎ Contains ys id
    in_which id h =
        elim (which (has_id id xs) (has_id id ys) (filtered (λ id. has_id id xs || has_id id ys) id (finmap.keys history) h).1) [
          | inl one ↦ inl (Contains-named id xs one)
          | inr other ↦ inr (Contains-named id ys other)
        ]

    pub which_in : (id : ObjectId) → Contains (finmap.keys history) id → Contains xs id ⊎ Contains ys id → Contains (either_of history xs ys) id
    which_in id key (inl h) = keeps (λ id. has_id id xs || has_id id ys) id (finmap.keys history) key (first_true (has_id id xs) (has_id id ys) (named-Contains id xs h))
    which_in id key (inr h) = keeps (λ id. has_id id xs || has_id id ys) id (finmap.keys history) key (second_true (has_id id xs) (has_id id ys) (named-Contains id ys h))

    pub either_rises : IsStrictlySortedBy id_cmp (either_of history xs ys)
    either_rises = IsStrictlySortedBy-filter id_cmp (λ id. has_id id xs || has_id id ys) (finmap.keys history) (keys-rise history)

    pub either_list : {E : Type 0} (result : Result (List ObjectId) E) → ((id : ObjectId) → Contains xs id → Contains (finmap.keys history) id) → ((id : ObjectId) → Contains ys id → Contains (finmap.keys history) id)
        → IfOk result (λ ids. (id : ObjectId) → Contains ids id ↔ (Contains xs id ⊎ Contains ys id)) → IfOk result (λ ids. IsStrictlySortedBy id_cmp ids) → IfOk result (λ ids. ids ≡ either_of history xs ys)
    either_list (Ok ids) first second each rise =
        same_ids ids (either_of history xs ys) rise either_rises
        (λ id h. (let w = (each id).0 h in which_in id (elim w [ inl x ↦ first id x | inr y ↦ second id y ]) w)) (λ id h. (each id).1 (in_which id h))
    either_list (Err e) first second each rise = tt

-- those near the border, and those behind it
pub further_is : {E : Type 0} (history : Graph) (border : IdSet) (roots : List ObjectId) (depth : ℕ) (near met beyond xs ys : List ObjectId) (result : Result (List ObjectId) E) → near ≡ led_to history (steps_within history border) roots None
    → met ≡ filter (set.contains border) near → beyond ≡ led_to history (parent_steps history) met (Some depth) → xs ≡ near → ys ≡ beyond
    → IfOk result (λ ids. (id : ObjectId) → Contains ids id ↔ (Contains xs id ⊎ Contains ys id)) → IfOk result (λ ids. IsStrictlySortedBy id_cmp ids)
    → IfOk result (λ ids. ids ≡ either_of history (led_to history (steps_within history border) roots None)
    (led_to history (parent_steps history) (filter (set.contains border) (led_to history (steps_within history border) roots None)) (Some depth)))
further_is history border roots depth near met beyond xs ys result n m b x y each rise =
    let close = led_to history (steps_within history border) roots None in
    let far = led_to history (parent_steps history) (filter (set.contains border) close) (Some depth) in
    let first : xs ≡ close = x ∙ n in
    let second : ys ≡ far = y ∙ b ∙ ap (λ ids. led_to history (parent_steps history) ids (Some depth)) (m ∙ ap (filter (set.contains border)) n) in
    either_list history close far result (led_to_known history (steps_within history border) roots None) (led_to_known history (parent_steps history) (filter (set.contains border) close) (Some depth))
    (subst (λ l. IfOk result (λ ids. (id : ObjectId) → Contains ids id ↔ (Contains close id ⊎ Contains l id))) second
    (subst (λ l. IfOk result (λ ids. (id : ObjectId) → Contains ids id ↔ (Contains l id ⊎ Contains ys id))) first each)) rise

-- ---- the kept commits

module _ (d : Data) (r : FetchAsked) where
  abbrev history : Graph
  history = history_of d

  near_is : (id : ObjectId) → Contains (near_of d r) id ↔ IsWithin (steps_within history (border_of r)) (roots_of d r) None id
  near_is id = led_to_is (steps_within history (border_of r)) history (within_known history (border_of r)) (roots_of d r) None id

  beyond_is : (n : ℕ) (id : ObjectId) → Contains (led_to history (parent_steps history) (met_of d r) (Some n)) id ↔ IsWithin (parent_steps history) (met_of d r) (Some n) id
  beyond_is n id = led_to_is (parent_steps history) history (parents_known history) (met_of d r) (Some n) id

  pub kept_is : (depth : Option DepthAsked) (id : ObjectId) → Contains (kept_by d r depth) id → IsKeptBy d r depth id
  kept_is None id h = absurd (none_in id h)
  kept_is (Some (Deepen n false)) id h = (led_to_is (parent_steps history) history (parents_known history) (roots_of d r) (Some (n - 1)) id).0 h
  kept_is (Some (Deepen n true)) id h =
      elim (in_which history (near_of d r) (led_to history (parent_steps history) (met_of d r) (Some n)) id h) [ inl near ↦ inl ((near_is id).0 near) | inr beyond ↦ inr ((beyond_is n id).0 beyond) ]
  kept_is (Some (Limits cutoff names)) id h = (led_to_is (limited_steps d cutoff names) history (to_known history (may_be_kept history cutoff (excluded_by d names))) (roots_of d r) None id).0 h

  pub is_kept : (depth : Option DepthAsked) (id : ObjectId) → IsKeptBy d r depth id → Contains (kept_by d r depth) id
  is_kept None id h = absurd h
  is_kept (Some (Deepen n false)) id h = (led_to_is (parent_steps history) history (parents_known history) (roots_of d r) (Some (n - 1)) id).1 h
  is_kept (Some (Deepen n true)) id (inl near) =
      let h = (near_is id).1 near in
      which_in history (near_of d r) (led_to history (parent_steps history) (met_of d r) (Some n)) id (led_to_known history (steps_within history (border_of r)) (roots_of d r) None id h) (inl h)
  is_kept (Some (Deepen n true)) id (inr beyond) =
      let h = (beyond_is n id).1 beyond in
      which_in history (near_of d r) (led_to history (parent_steps history) (met_of d r) (Some n)) id (led_to_known history (parent_steps history) (met_of d r) (Some n) id h) (inr h)
  is_kept (Some (Limits cutoff names)) id h = (led_to_is (limited_steps d cutoff names) history (to_known history (may_be_kept history cutoff (excluded_by d names))) (roots_of d r) None id).1 h

  pub kept_rises : (depth : Option DepthAsked) → IsStrictlySortedBy id_cmp (kept_by d r depth)
  unfolding IsStrictlySortedBy
  kept_rises None = tt
  kept_rises (Some (Deepen n false)) = led_to_rises history (parent_steps history) (roots_of d r) (Some (n - 1))
  kept_rises (Some (Deepen n true)) = either_rises history (near_of d r) (led_to history (parent_steps history) (met_of d r) (Some n))
  kept_rises (Some (Limits cutoff names)) = led_to_rises history (limited_steps d cutoff names) (roots_of d r) None

  -- ---- they are commits

  commit_kept : (depth : Option DepthAsked) (id : ObjectId) → IsKeptBy d r depth id → is_commit_at history id ≡ true
  commit_kept None id h = absurd h
  commit_kept (Some (Deepen n false)) id w = if_commit (is_commit_at history id) (parents_in history id) (within_there (parent_steps history) (roots_of d r) (Some (n - 1)) id w)
  commit_kept (Some (Deepen n true)) id (inl w) =
      if_commit (is_commit_at history id) (cond (set.contains (border_of r) id) [] (parents_in history id)) (within_there (steps_within history (border_of r)) (roots_of d r) None id w)
  commit_kept (Some (Deepen n true)) id (inr w) = if_commit (is_commit_at history id) (parents_in history id) (within_there (parent_steps history) (met_of d r) (Some n) id w)
  commit_kept (Some (Limits cutoff names)) id w = if_commit (is_commit_at history id) (filter (may_be_kept history cutoff (excluded_by d names)) (parents_in history id)) (within_there (limited_steps d cutoff names) (roots_of d r) None id w)

-- ---- a commit of the history is one of the store

commit_by : (o : Option Stored) → option_map_or (λ (n : Node). is_kind n.kind Commit) (option_map node_of o) false ≡ true → is_commit o ≡ true
commit_by None e = absurd (cc)
commit_by (Some o) e = e

pub commit_stored : (objects : ObjectMap) (id : ObjectId) → is_commit_at (graph_of objects) id ≡ true → IsCommit objects id
commit_stored objects id e = commit_by (finmap.get objects id) (ap (λ (o : Option Node). option_map_or (λ (n : Node). is_kind n.kind Commit) o false) (sym (get-graph_of objects id)) ∙ e)

parents_by : (o : Option Stored) → option_map_or (λ (n : Node). n.parents) (option_map node_of o) [] ≡ option_map_or parents o []
parents_by None = refl
parents_by (Some o) = refl

-- the parents that a history tells are those of the store
pub parents_are : (objects : ObjectMap) (id : ObjectId) → parents_in (graph_of objects) id ≡ parents_at objects id
parents_are objects id = ap (λ (o : Option Node). option_map_or (λ (n : Node). n.parents) o []) (get-graph_of objects id) ∙ parents_by (finmap.get objects id)

-- ---- what depth lines decide

module _ (d : Data) (r : FetchAsked) where
  pub kept_commit : (id : ObjectId) → Contains (kept_of d r) id → IsCommit d.objects id
  kept_commit id h = commit_stored d.objects id (commit_kept d r r.depth id (kept_is d r r.depth id h))

  pub moved_kept : (way : Move) (id : ObjectId) → Contains (moved_of (history_of d) (border_of r) (kept_of d r) way) id → Contains (kept_of d r) id
  moved_kept way id h = (filtered (is_moved (history_of d) (border_of r) (kept_of d r) way) id (kept_of d r) h).0

  left_border : (id : ObjectId) → Contains (unshallow_of d r) id → Contains r.border id
  left_border id h =
      let f = filtered (is_moved (history_of d) (border_of r) (kept_of d r) Leaves) id (kept_of d r) h in
      let b = both (set.contains (border_of r) id) (are_parents_among (history_of d) (kept_of d r) id) f.1 in
      Contains-named id r.border (sym (set.contains-from_list id_cmp_total r.border id) ∙ b.0)

  -- what the depth lines of a request decide is so
  pub depth_is : IsDepth d r (depth_of d r)
  depth_is = record {
    kept = λ j f lt. kept_commit (get_or (kept_of d r) j f) (Contains-get_or (kept_of d r) j f lt);
    comes = λ j f lt. moved_kept Comes (get_or (shallow_of d r) j f) (Contains-get_or (shallow_of d r) j f lt);
    leaves = λ j f lt. left_border (get_or (unshallow_of d r) j f) (Contains-get_or (unshallow_of d r) j f lt);
    stored = λ j f lt. kept_commit (get_or (unshallow_of d r) j f) (moved_kept Leaves (get_or (unshallow_of d r) j f) (Contains-get_or (unshallow_of d r) j f lt));
  }
