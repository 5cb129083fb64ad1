-- What a worker wants of its share: the ids of its names that aren't stored, each once.
use Rattle.std.proofs.Common.{◌≡◌, Ordering, Less, Equal, Greater, Bool, true, false, not, ◌||◌, cond, List, [], ◌∷◌, ◌++◌, filter, Option, Some, None, refl, sym, ap, ◌∙◌, subst, inl, inr, ⊎_elim, Contains}
use Rattle.std.specs.Prelude.{◌⊎◌, if◌then◌else◌}
use Rattle.std.specs.FinMap as finmap
use Rattle.std.specs.List.{AllByRecursion, filter_map}
use Rattle.std.specs.Option.{option_and_then}
use Rattle.std.specs.Ordering.{eq_by_cmp, is_eq}
use Rattle.fetch_store.specs.Graph.{Graph}
use Rattle.fetch_base.specs.Id.{id_cmp}
use Rattle.fetch_base.specs.declared.id.Kind.{Kind}
use Rattle.fetch_base.specs.declared.id.ObjectId.{ObjectId}
use Rattle.fetch_base.proofs.Ids.{id_cmp_exact}
use Rattle.fetch_store.proofs.Members.{cases_in, first_in, later_in, none_in}
use Rattle.fetch_store.proofs.Pigeons.{AreDistinct}
use Rattle.fetch_specs.specs.Specs.{Spec}
use Rattle.fetch_specs.specs.declared.tags.Tags.TheVariants as tags
use Rattle.fetch_lines.specs.References.{source_id}
use Rattle.fetch_lines.specs.ServerLines.{IsIdOf}
use Rattle.fetch_map.specs.declared.mapping.Mapping.{Mapping}
use Rattle.fetch_map.specs.declared.mapping.RefMap.{RefMap}
use Rattle.fetch_negotiate.specs.Lists.{firsts}
use Rattle.fetch_negotiate.specs.Wants.{want_in, wants_of}
use Rattle.fetch_negotiate.specs.declared.algorithm.Shallow.TheVariants.{NoChange}
use Rattle.fetch_asked.specs.Requests.{has_id}
use Rattle.fetch_serve.proofs.Lists.{from_one}
use Rattle.fetch_serve.proofs.Reached.{filtered, keeps}
use Rattle.fetch_mirror.specs.Fetches.{AreNew}
use Rattle.fetch_mirror.proofs.MappedOwn.{kept_in}

-- ---- each id once

same : (a b : ObjectId) → eq_by_cmp id_cmp a b ≡ true → a ≡ b
same a b is = id_cmp_exact a b (equal (id_cmp a b) is)
  where
    equal : (o : Ordering) → is_eq o ≡ true → o ≡ Equal
    equal Less is = absurd cc
    equal Equal is = refl
    equal Greater is = absurd cc

-- what holds of each holds of one of them
among : (P : ObjectId → Type 0) (ids : List ObjectId) (id : ObjectId) → AllByRecursion P ids → Contains ids id → P id
among P [] id all h = absurd (none_in id h)
among P (x ∷ ids) id all h =
    ⊎_elim (λ (here : x ≡ id). subst P here all.0) (λ (later : Contains ids id). among P ids id all.1 later) (cases_in id x ids h)

abbrev other_than : ObjectId → ObjectId → Bool
other_than id other = not (eq_by_cmp id_cmp other id)

pub among_firsts : (ids : List ObjectId) (id : ObjectId) → Contains (firsts ids) id → Contains ids id
among_firsts [] id h = h
among_firsts (x ∷ ids) id h =
    ⊎_elim
    (λ (here : x ≡ id). subst (λ (y : ObjectId). Contains (y ∷ ids) id) (sym here) (first_in id ids))
    (λ (later : Contains (filter (other_than x) (firsts ids)) id). later_in id x ids (among_firsts ids id (filtered (other_than x) id (firsts ids) later).0))
    (cases_in id x (filter (other_than x) (firsts ids)) h)

pub firsts_have : (ids : List ObjectId) (id : ObjectId) → Contains ids id → Contains (firsts ids) id
firsts_have [] id h = h
firsts_have (x ∷ ids) id h =
    ⊎_elim
    (λ (here : x ≡ id). subst (λ (y : ObjectId). Contains (y ∷ filter (other_than y) (firsts ids)) id) (sym here) (first_in id (filter (other_than id) (firsts ids))))
    (λ (later : Contains ids id). by (eq_by_cmp id_cmp id x) refl (firsts_have ids id later))
    (cases_in id x ids h)
  where
    by : (b : Bool) → eq_by_cmp id_cmp id x ≡ b → Contains (firsts ids) id → Contains (x ∷ filter (other_than x) (firsts ids)) id
    by true is c = subst (λ (y : ObjectId). Contains (y ∷ filter (other_than x) (firsts ids)) id) (same id x is) (first_in id (filter (other_than x) (firsts ids)))
    by false is c = later_in id x (filter (other_than x) (firsts ids)) (keeps (other_than x) id (firsts ids) c (ap not is))

passing : (x : ObjectId) (ys : List ObjectId) → AllByRecursion (λ q. eq_by_cmp id_cmp q x ≡ false) (filter (other_than x) ys)
passing x [] = tt
passing x (y ∷ ys) = by (eq_by_cmp id_cmp y x) refl (passing x ys)
  where
    by : (b : Bool) → eq_by_cmp id_cmp y x ≡ b → AllByRecursion (λ q. eq_by_cmp id_cmp q x ≡ false) (filter (other_than x) ys) → AllByRecursion (λ q. eq_by_cmp id_cmp q x ≡ false) (cond (not b) (y ∷ filter (other_than x) ys) (filter (other_than x) ys))
    by true is rest = rest
    by false is rest = (is, rest)

all_kept : (P : ObjectId → Type 0) (p : ObjectId → Bool) (ys : List ObjectId) → AllByRecursion P ys → AllByRecursion P (filter p ys)
all_kept P p [] all = tt
all_kept P p (y ∷ ys) all = by (p y) (all_kept P p ys all.1)
  where
    by : (b : Bool) → AllByRecursion P (filter p ys) → AllByRecursion P (cond b (y ∷ filter p ys) (filter p ys))
    by true rest = (all.0, rest)
    by false rest = rest

still_distinct : (p : ObjectId → Bool) (ys : List ObjectId) → AreDistinct ys → AreDistinct (filter p ys)
still_distinct p [] d = tt
still_distinct p (y ∷ ys) d = by (p y) (still_distinct p ys d.1)
  where
    by : (b : Bool) → AreDistinct (filter p ys) → AreDistinct (cond b (y ∷ filter p ys) (filter p ys))
    by true rest = (all_kept (λ q. eq_by_cmp id_cmp q y ≡ false) p ys d.0, rest)
    by false rest = rest

distinct : (ids : List ObjectId) → AreDistinct (firsts ids)
distinct [] = tt
distinct (x ∷ ids) = (passing x (firsts ids), still_distinct (other_than x) (firsts ids) (distinct ids))

-- ---- each is new

has_neither : (before : List ObjectId) (x id : ObjectId) → has_id id before ≡ false → eq_by_cmp id_cmp id x ≡ false → has_id id (before ++ x ∷ []) ≡ false
has_neither [] x id none apart = ap (λ (b : Bool). b || false) apart
has_neither (y ∷ before) x id none apart = by (eq_by_cmp id_cmp id y) (λ rest. has_neither before x id rest apart) none
  where
    by : (b : Bool) → (has_id id before ≡ false → has_id id (before ++ x ∷ []) ≡ false) → (b || has_id id before) ≡ false → (b || has_id id (before ++ x ∷ [])) ≡ false
    by true more is = absurd cc
    by false more is = more is

new_on : (hash : Kind) (before ids : List ObjectId) → ((id : ObjectId) → Contains ids id → IsIdOf hash id) → ((id : ObjectId) → Contains ids id → has_id id before ≡ false) → AreDistinct ids → AreNew hash before ids
new_on hash before [] own apart d = tt
new_on hash before (x ∷ ids) own apart d = (
  own x (first_in x ids),
  apart x (first_in x ids),
  new_on hash (before ++ x ∷ []) ids (λ id c. own id (later_in id x ids c))
      (λ id c. has_neither before x id (apart id (later_in id x ids c)) (among (λ q. eq_by_cmp id_cmp q x ≡ false) ids id d.0 c)) d.1,
)

pub firsts_new : (hash : Kind) (ids : List ObjectId) → ((id : ObjectId) → Contains ids id → IsIdOf hash id) → AreNew hash [] (firsts ids)
firsts_new hash ids own = new_on hash [] (firsts ids) (λ id c. own id (among_firsts ids id c)) (λ id c. refl) (distinct ids)

-- ---- what is wanted

-- of a mapping, without tags and a change of the depth
abbrev wanted_of : Graph → List Spec → Mapping → Option ObjectId
wanted_of g extra m = want_in tags.None NoChange g extra m

-- what is wanted is the id of a mapping
pub record IsWanted (g : Graph) (mappings : List Mapping) (id : ObjectId) : Type 0 where
  pub mapping : Mapping
  pub among : Contains mappings mapping
  pub source : source_id mapping.remote ≡ Some id
  pub lacking : finmap.contains_key g id ≡ false

wanted_by : (g : Graph) (o : Option ObjectId) (id : ObjectId) → option_and_then (λ i. if not (finmap.contains_key g i) then Some i else None) o ≡ Some id → (o ≡ Some id) × (finmap.contains_key g id ≡ false)
wanted_by g None id is = absurd cc
wanted_by g (Some i) id is = by (finmap.contains_key g i) refl is
  where
    by : (b : Bool) → finmap.contains_key g i ≡ b → (if not b then Some i else None) ≡ Some id → (Some i ≡ Some id) × (finmap.contains_key g id ≡ false)
    by true at is = absurd cc
    by false at is = let here : i ≡ id = cc in (is, ap (finmap.contains_key g) (sym here) ∙ at)

pub is_wanted : (m : RefMap) (g : Graph) (id : ObjectId) → Contains (wants_of m tags.None NoChange g) id → IsWanted g m.mappings id
unfolding wants_of
is_wanted m g id h =
    let f = from_one (wanted_of g m.extra_refspecs) id m.mappings (among_firsts (filter_map (wanted_of g m.extra_refspecs) m.mappings) id h) in
    let w = wanted_by g (source_id f.0.remote) id f.2 in
    record { mapping = f.0; among = f.1; source = w.0; lacking = w.1 }

-- the id of a mapping is stored, or wanted
pub stored_or_wanted : (m : RefMap) (g : Graph) (mapping : Mapping) (id : ObjectId) → Contains m.mappings mapping → source_id mapping.remote ≡ Some id → (finmap.contains_key g id ≡ true) ⊎ Contains (wants_of m tags.None NoChange g) id
unfolding wants_of
stored_or_wanted m g mapping id among source = by (finmap.contains_key g id) refl
  where
    by : (b : Bool) → finmap.contains_key g id ≡ b → (finmap.contains_key g id ≡ true) ⊎ Contains (firsts (filter_map (wanted_of g m.extra_refspecs) m.mappings)) id
    by true is = inl is
    by false is =
        let it : wanted_of g m.extra_refspecs mapping ≡ Some id =
        ap (λ (o : Option ObjectId). option_and_then (λ i. if not (finmap.contains_key g i) then Some i else None) o) source
        ∙ ap (λ (b : Bool). if not b then Some id else None) is in
        inr (firsts_have (filter_map (wanted_of g m.extra_refspecs) m.mappings) id (kept_in (wanted_of g m.extra_refspecs) m.mappings mapping id among it))

pub wants_new : (hash : Kind) (m : RefMap) (g : Graph) → ((mapping : Mapping) (id : ObjectId) → Contains m.mappings mapping → source_id mapping.remote ≡ Some id → IsIdOf hash id) → AreNew hash [] (wants_of m tags.None NoChange g)
unfolding wants_of
wants_new hash m g own =
    firsts_new hash (filter_map (wanted_of g m.extra_refspecs) m.mappings) (λ id c.
    let f = from_one (wanted_of g m.extra_refspecs) id m.mappings c in own f.0 id f.1 (wanted_by g (source_id f.0.remote) id f.2).0)
