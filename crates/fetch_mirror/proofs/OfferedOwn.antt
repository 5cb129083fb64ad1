-- What a server offers of a share: each name of it that is born there, by its id.
use Rattle.std.proofs.Common.{◌≡◌, ℕ, Bool, true, false, not, ◌&&◌, ◌||◌, List, [], length, map, nat_eq, Option, Some, None, refl, ap, ◌∙◌, ⊎_elim, Contains}
use Rattle.std.specs.Prelude.{IsTrue, is_some, slice_get, if◌then◌else◌}
use Rattle.std.specs.List.{list_any, starts_with}
use Rattle.std.specs.Option.{option_and_then, option_map}
use Rattle.std.specs.Str.{bytes_eq}
use Rattle.std.proofs.lemmas.Slice.Eq.{bytes_eq-Decides}
use Rattle.fetch_base.specs.declared.id.ObjectId.{ObjectId}
use Rattle.fetch_specs.specs.Categories.{refs}
use Rattle.fetch_specs.specs.Matches.{takes, taken, where_true}
use Rattle.fetch_specs.specs.Prefixes.{IsAskedFor, prefixes_of}
use Rattle.fetch_specs.proofs.Covering.{each_asked_for}
use Rattle.fetch_refs.specs.declared.target.Target.{Target}
use Rattle.fetch_refs.specs.declared.target.Target.TheVariants.{Object}
use Rattle.fetch_update.specs.Policy.{value_in, value_of}
use Rattle.fetch_replies.specs.Listings.{ref_with}
use Rattle.fetch_lines.specs.References.{id_in, name_in}
use Rattle.fetch_lines.specs.declared.listings.reference.Ref.{Ref}
use Rattle.fetch_lines.specs.declared.listings.reference.Ref.TheVariants.{Direct, Symbolic, Peeled, Unborn}
use Rattle.fetch_lines.specs.declared.listings.reference.Source.TheVariants as sources
use Rattle.fetch_serve.specs.Offered.{head_name, if_told, is_public, is_under, listed, offer, offered_of, peeled_behind, target_of}
use Rattle.fetch_serve.specs.Served.{Data, history_of, references_of}
use Rattle.fetch_serve.proofs.Lists.{from_one}
use Rattle.fetch_serve.proofs.References.{Tells, id_of, offered_made}
use Rattle.fetch_mirror.specs.Born.{born, born_of}
use Rattle.fetch_mirror.specs.Shares.{IsUnderRefs, as_itself}
use Rattle.fetch_mirror.proofs.MappedOwn.{kept_in}
use Rattle.fetch_mirror.proofs.OwnMatches.{no_id, takes_itself}
use Rattle.fetch_mirror.proofs.Places.{contains_at, mapped_at}

-- ---- a name of the share is asked for

takes_own : (name : List ℕ) → IsUnderRefs name → takes (as_itself name) name ≡ true
takes_own name u =
    ap (λ (o : Option ObjectId). not (is_some o) && is_some (taken name name)) (no_id name u)
    ∙ ap (λ (o : Option (List ℕ)). is_some o) (takes_itself name name u)
    ∙ ap (λ (b : Bool). is_some (where_true b)) ((bytes_eq-Decides name name).1 refl)

under_by : (prefixes : List (List ℕ)) (name : List ℕ) → IsAskedFor prefixes name → is_under prefixes name ≡ true
under_by prefixes name asked =
    ⊎_elim
    (λ (none : prefixes ≡ []). ap (λ (l : List (List ℕ)). is_under l name) none)
    (λ (some : IsTrue (list_any (starts_with nat_eq name) prefixes)). or_right (nat_eq (length prefixes) 0) (list_any (starts_with nat_eq name) prefixes) some)
    asked
  where
    or_right : (a b : Bool) → b ≡ true → (a || b) ≡ true
    or_right true b is = refl
    or_right false b is = is

pub asked_for : (names : List (List ℕ)) (i : ℕ) (name : List ℕ) → slice_get names i ≡ Some name → IsUnderRefs name → is_under (prefixes_of (map as_itself names)) name ≡ true
asked_for names i name at u =
    under_by (prefixes_of (map as_itself names)) name
    (each_asked_for (map as_itself names) (as_itself name) name (contains_at (map as_itself names) i (as_itself name) (mapped_at as_itself names i name at)) (takes_own name u))

-- ---- a reference that is born

-- It is of this name, and leads to this id.
pub record IsBornAt (d : Data) (name : List ℕ) (id : ObjectId) : Type 0 where
  pub entry : List ℕ × Target
  pub among : Contains (references_of d) entry
  pub name_is : entry.0 ≡ name
  pub id_is : id_of d entry ≡ Some id
  pub under : starts_with nat_eq entry.0 refs ≡ true

-- a name beside an id
abbrev pub pair : List ℕ → ObjectId → List ℕ × ObjectId
pair name id = (name, id)

born_by : (under : Bool) (o : Option ObjectId) (key name : List ℕ) (id : ObjectId) → (if under then option_map (pair key) o else None) ≡ Some (pair name id) → (under ≡ true) × (key ≡ name) × (o ≡ Some id)
born_by true (Some i) key name id is = let same : pair key i ≡ pair name id = cc in (refl, ap (λ (x : List ℕ × ObjectId). x.0) same, ap (λ (x : List ℕ × ObjectId). Some x.1) same)
born_by true None key name id is = absurd cc
born_by false o key name id is = absurd cc

pub born_at : (d : Data) (name : List ℕ) (id : ObjectId) → Contains (born_of d) (name, id) → IsBornAt d name id
born_at d name id among =
    let f = from_one (born d) (name, id) (references_of d) among in
    let parts = born_by (starts_with nat_eq f.0.0 refs) (id_of d f.0) f.0.0 name id f.2 in
    record { entry = f.0; among = f.1; name_is = parts.1; id_is = parts.2; under = parts.0 }

-- a reference with an id is told, whatever else is
told_with : (unborn : Bool) (name : List ℕ) (id : ObjectId) (target : Option (List ℕ)) (peeled : Option ObjectId) → (r : Ref) × (option_and_then (if_told unborn) (ref_with name (Some id) (target, peeled)) ≡ Some r)
told_with unborn name id None None = (Direct name id, refl)
told_with unborn name id None (Some last) = (Peeled name id last, refl)
told_with unborn name id (Some target) None = (Symbolic name target None id, refl)
told_with unborn name id (Some target) (Some last) = (Symbolic name target (Some id) last, refl)

-- what has an id has it as its value
value_by : (r : Ref) (id : ObjectId) → id_in r ≡ Some id → value_in r ≡ Object id
value_by (Direct name object) id is = let same : object ≡ id = cc in ap (λ (i : ObjectId). Object i) same
value_by (Symbolic name target (Some tag) object) id is = let same : tag ≡ id = cc in ap (λ (i : ObjectId). Object i) same
value_by (Symbolic name target None object) id is = let same : object ≡ id = cc in ap (λ (i : ObjectId). Object i) same
value_by (Peeled name tag object) id is = let same : tag ≡ id = cc in ap (λ (i : ObjectId). Object i) same
value_by (Unborn name target) id is = absurd cc

pub value_is : (r : Ref) (id : ObjectId) → id_in r ≡ Some id → value_of (sources.Ref r) ≡ Object id
value_is r id is = value_by r id is

-- a reference that is offered, of this name and id
pub record IsOffered (d : Data) (unborn : Bool) (prefixes : List (List ℕ)) (name : List ℕ) (id : ObjectId) : Type 0 where
  pub reference : Ref
  pub among : Contains (offered_of d unborn prefixes) reference
  pub name_is : name_in reference ≡ name
  pub id_is : id_in reference ≡ Some id

public_by : (name : List ℕ) → starts_with nat_eq name refs ≡ true → is_public name ≡ true
public_by name under = by (bytes_eq name head_name)
  where
    by : (b : Bool) → (b || starts_with nat_eq name refs) ≡ true
    by true = refl
    by false = under

pub offers : (d : Data) (unborn : Bool) (prefixes : List (List ℕ)) (name : List ℕ) (id : ObjectId) → IsBornAt d name id → is_under prefixes name ≡ true → IsOffered d unborn prefixes name id
offers d unborn prefixes name id b under =
    let e = b.entry in
    let t = told_with unborn e.0 id (target_of e.1) (peeled_behind (history_of d) (Some id)) in
    let is : offer d unborn prefixes e ≡ Some t.0 =
    ap (λ (p : Bool). if p && is_under prefixes e.0 then option_and_then (if_told unborn) (listed d e) else None) (public_by e.0 b.under)
    ∙ ap (λ (p : Bool). if p then option_and_then (if_told unborn) (listed d e) else None) (ap (is_under prefixes) b.name_is ∙ under)
    ∙ ap (λ (o : Option ObjectId). option_and_then (if_told unborn) (ref_with e.0 o (target_of e.1, peeled_behind (history_of d) o))) b.id_is ∙ t.1 in
    let made : Tells t.0 e.0 (id_of d e) (target_of e.1) (peeled_behind (history_of d) (id_of d e)) = offered_made d unborn prefixes e t.0 is in
    record {
      reference = t.0;
      among = kept_in (offer d unborn prefixes) (references_of d) e t.0 b.among is;
      name_is = made.name_is ∙ b.name_is;
      id_is = made.id_is ∙ b.id_is;
    }
