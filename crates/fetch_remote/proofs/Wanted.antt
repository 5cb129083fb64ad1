-- What is mapped is wanted or stored.
use Rattle.std.proofs.Common.{◌≡◌, ℕ, zero, suc, ◌<◌, Bool, true, false, cond, not, List, [], ◌∷◌, length, filter, Option, Some, None, refl, sym, ap, subst, ◌∙◌, inl, inr, arith, get_or, Contains}
use Rattle.std.specs.Prelude.{◌⊎◌, ◌&&◌, IsSome, is_some, option_map}
use Rattle.std.specs.List.{filter_map}
use Rattle.std.specs.FinMap as map
use Rattle.std.specs.Ordering.{eq_by_cmp}
use Rattle.std.specs.Cmp.{Equal-is}
use Rattle.fetch_base.specs.declared.id.ObjectId.{ObjectId}
use Rattle.fetch_store.specs.Closed.{IsStored}
use Rattle.fetch_store.specs.Graph.{Graph, Node, node_of, graph_of}
use Rattle.fetch_objects.specs.Objects.{Stored}
use Rattle.fetch_store.specs.Stores.{ObjectMap}
use Rattle.fetch_base.specs.Id.{id_cmp}
use Rattle.fetch_store.proofs.Graphs.{get-graph_of}
use Rattle.fetch_base.proofs.Ids.{id_cmp_exact}
use Rattle.fetch_negotiate.specs.Lists.{firsts}
use Rattle.fetch_negotiate.specs.Requests.{is_included}
use Rattle.fetch_negotiate.specs.Wants.{is_wanted, want_in, is_tag_index, wants_of}
use Rattle.fetch_negotiate.specs.declared.algorithm.Shallow.{Shallow}
use Rattle.fetch_negotiate.specs.declared.algorithm.Shallow.TheVariants as shallow
use Rattle.fetch_specs.specs.Specs.{Spec}
use Rattle.fetch_specs.specs.declared.tags.Tags.{Tags}
use Rattle.fetch_lines.specs.References.{source_id}
use Rattle.fetch_map.specs.declared.mapping.Mapping.{Mapping}
use Rattle.fetch_map.specs.declared.mapping.RefMap.{RefMap}

pub first_in : {X : Type 0} (x : X) (xs : List X) → Contains (x ∷ xs) x
first_in x xs = (zero, omega arith, refl)

pub later_in : {X : Type 0} (x y : X) (xs : List X) → Contains xs x → Contains (y ∷ xs) x
later_in x y xs h = (suc h.0, omega (arith, h.1), h.2)

pub cases_in : {X : Type 0} (x y : X) (xs : List X) → Contains (y ∷ xs) x → (y ≡ x) ⊎ Contains xs x
cases_in {X} x y xs h = by_index h.0 h.1 h.2
  where
    by_index : (k : ℕ) → k < suc (length xs) → get_or (y ∷ xs) k x ≡ x → (y ≡ x) ⊎ Contains xs x
    by_index zero within found = inl found
    by_index (suc k) within found = inr (k, omega arith, found)

kept_by : {X : Type 0} (p : X → Bool) (x y : X) (rest : List X) → p x ≡ true → (y ≡ x) ⊎ Contains rest x → (b : Bool) → p y ≡ b → Contains (cond b (y ∷ rest) rest) x
kept_by {X} p x y rest is (inl same) true test = subst (λ (z : X). Contains (z ∷ rest) x) (sym same) (first_in x rest)
kept_by p x y rest is (inl same) false test = let none : false ≡ true = sym test ∙ ap p same ∙ is in absurd (cc)
kept_by p x y rest is (inr later) true test = later_in x y rest later
kept_by p x y rest is (inr later) false test = later

pub either : {A B C : Type 0} → (B → C) → A ⊎ B → A ⊎ C
either f (inl a) = inl a
either f (inr b) = inr (f b)

kept_in : {X : Type 0} (p : X → Bool) (xs : List X) (x : X) → p x ≡ true → Contains xs x → Contains (filter p xs) x
kept_in p [] x is h = absurd (omega (arith, h.1))
kept_in p (y ∷ xs) x is h = kept_by p x y (filter p xs) is (either (kept_in p xs x is) (cases_in x y xs h)) (p y) refl

once_behind : (a id : ObjectId) (rest : List ObjectId) → (b : Bool) → eq_by_cmp id_cmp id a ≡ b → Contains rest id → Contains (a ∷ filter (λ x. not (eq_by_cmp id_cmp x a)) rest) id
once_behind a id rest true same found = let is : id ≡ a = id_cmp_exact id a ((Equal-is (id_cmp id a)).0 same) in subst (λ (z : ObjectId). Contains (a ∷ filter (λ x. not (eq_by_cmp id_cmp x a)) rest) z) (sym is) (first_in a _)
once_behind a id rest false other found = later_in id a _ (kept_in (λ x. not (eq_by_cmp id_cmp x a)) rest id (ap not other) found)

once_by : (a id : ObjectId) (rest : List ObjectId) → (a ≡ id) ⊎ Contains rest id → Contains (a ∷ filter (λ x. not (eq_by_cmp id_cmp x a)) rest) id
once_by a id rest (inl same) = subst (λ (z : ObjectId). Contains (z ∷ filter (λ x. not (eq_by_cmp id_cmp x z)) rest) id) (sym same) (first_in id _)
once_by a id rest (inr later) = once_behind a id rest (eq_by_cmp id_cmp id a) refl later

once_in : (ids : List ObjectId) (id : ObjectId) → Contains ids id → Contains (firsts ids) id
once_in [] id h = absurd (omega (arith, h.1))
once_in (a ∷ ids) id h = once_by a id (firsts ids) (either (once_in ids id) (cases_in id a ids h))

mapped_by : {X Y : Type 0} (f : X → Option Y) (xs : List X) (x a : X) (y : Y) → f x ≡ Some y → (a ≡ x) ⊎ Contains (filter_map f xs) y → (o : Option Y) → f a ≡ o → Contains (filter_map f (a ∷ xs)) y
mapped_by f xs x a y is (inl same) o found = let e : f a ≡ Some y = ap f same ∙ is in rw e (first_in y (filter_map f xs))
mapped_by f xs x a y is (inr later) (Some b) found = rw found (later_in y b (filter_map f xs) later)
mapped_by f xs x a y is (inr later) None found = rw found later

mapped_in : {X Y : Type 0} (f : X → Option Y) (xs : List X) (x : X) (y : Y) → f x ≡ Some y → Contains xs x → Contains (filter_map f xs) y
mapped_in f [] x y is h = absurd (omega (arith, h.1))
mapped_in f (a ∷ xs) x y is h = mapped_by f xs x a y is (either (mapped_in f xs x y is) (cases_in x a xs h)) (f a) refl

-- a stored id has a node
node_by : (o : Option Stored) (n : Option Node) → n ≡ option_map node_of o → is_some n ≡ true → IsSome o
node_by (Some o) n e h = refl
node_by None n e h = sym (ap is_some e) ∙ h

pub stored_node : (m : ObjectMap) (id : ObjectId) → map.contains_key (graph_of m) id ≡ true → IsStored m id
stored_node m id is = node_by (map.get m id) (map.get (graph_of m) id) (get-graph_of m id) is

yes_by : (b : Bool) → not b ≡ false → b ≡ true
yes_by true h = refl
yes_by false h = sym h

-- where an id isn't wanted, it is stored
unwanted : (change : Shallow) (m : ObjectMap) (id : ObjectId) → is_wanted change (graph_of m) id ≡ false → IsStored m id
unwanted shallow.NoChange m id is = stored_node m id (yes_by (map.contains_key (graph_of m) id) is)
unwanted (shallow.DepthAtRemote depth) m id is = absurd (cc)
unwanted (shallow.Deepen depth) m id is = absurd (cc)
unwanted (shallow.Since cutoff) m id is = absurd (cc)
unwanted (shallow.Exclude names cutoff) m id is = absurd (cc)

want_is : (tags : Tags) (change : Shallow) (g : Graph) (extra : List Spec) (m : Mapping) (id : ObjectId) → (is_included tags && is_tag_index m.spec_index extra) ≡ false → source_id m.remote ≡ Some id
    → is_wanted change g id ≡ true → want_in tags change g extra m ≡ Some id
want_is tags change g extra m id aside has wanted = rw (aside, has, wanted) refl

wanted_by : (specs : List Spec) (mappings : List Mapping) (tags : Tags) (change : Shallow) (m : ObjectMap) (mapping : Mapping) (id : ObjectId) → Contains mappings mapping
    → (is_included tags && is_tag_index mapping.spec_index specs) ≡ false → source_id mapping.remote ≡ Some id → (b : Bool) → is_wanted change (graph_of m) id ≡ b
    → IsStored m id ⊎ Contains (firsts (filter_map (want_in tags change (graph_of m) specs) mappings)) id
wanted_by specs mappings tags change m mapping id among aside has true wanted =
    inr (once_in _ id (mapped_in (want_in tags change (graph_of m) specs) mappings mapping id (want_is tags change (graph_of m) specs mapping id aside has wanted) among))
wanted_by specs mappings tags change m mapping id among aside has false none = inl (unwanted change m id none)

-- the id of a mapping is stored or wanted, implicit tags aside
pub stored_or_wanted : (refs : RefMap) (tags : Tags) (change : Shallow) (m : ObjectMap) (mapping : Mapping) (id : ObjectId) → Contains refs.mappings mapping
    → (is_included tags && is_tag_index mapping.spec_index refs.extra_refspecs) ≡ false → source_id mapping.remote ≡ Some id → IsStored m id ⊎ Contains (wants_of refs tags change (graph_of m)) id
unfolding wants_of
stored_or_wanted refs tags change m mapping id among aside has = wanted_by refs.extra_refspecs refs.mappings tags change m mapping id among aside has (is_wanted change (graph_of m) id) refl
