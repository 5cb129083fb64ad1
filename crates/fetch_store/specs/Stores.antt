-- A store: a finite map of ids to objects of one hash.
use Rattle.std.specs.Prelude.{◌≡◌, ℕ, Bool, false, not, List, [], ◌∷◌, length, Option, Some, None, if◌then◌else◌, refl}
use Rattle.std.specs.Coded.{Coded, code_by, coded_ℕ, coded×}
use Rattle.std.specs.List.{AllByRecursion, sum_by}
use Rattle.std.specs.FinMap as map
use Rattle.fetch_base.specs.declared.id.Kind.{Kind}
use Rattle.fetch_base.specs.declared.id.ObjectId.{ObjectId}
use Rattle.fetch_base.specs.Id.{kind_of, id_cmp}
use Rattle.fetch_objects.specs.Objects.{Stored, has_same_text}
use Rattle.fetch_objects.specs.Codes.{coded_kind, coded_id, coded_stored}

-- stored objects by id
abbrev pub ObjectMap : Type 0
ObjectMap = map.FinMap id_cmp Stored

-- its objects, and for how many more objects and bytes there is room
pub record StoreValue : Type 0 where
  pub hash : Kind
  pub objects : ObjectMap
  pub spare : ℕ
  pub spare_bytes : ℕ

-- a store, coded
abbrev pub coded_store : Coded StoreValue
coded_store =
    code_by (Kind × (ObjectMap × (ℕ × ℕ))) (coded× coded_kind
    (coded× (map.code {R = id_cmp} coded_id coded_stored) (coded× coded_ℕ coded_ℕ)))
    (λ s. (s.hash, (s.objects, (s.spare, s.spare_bytes))))
    (λ p. record { hash = p.0; objects = p.1.0; spare = p.1.1.0; spare_bytes = p.1.1.1 }) (λ _. refl)

-- objects with their ids, in order
abbrev pub Entries : Type 0
Entries = List (ObjectId × Stored)

-- the map of a list; the first entry of an id stands
abbrev pub map_of : Entries → ObjectMap
map_of os = map.from_entries os

-- the ids and the objects are of this hash
abbrev pub AreOf : Kind → Entries → Type 0
AreOf hash os = AllByRecursion (λ o. (kind_of o.0 ≡ hash) × (o.1.hash ≡ hash)) os

-- how many bytes the objects of a list have
abbrev pub payload_len : Entries → ℕ
payload_len os = sum_by (λ o. length o.1.bytes) os

-- An id keeps the object that it has.
abbrev pub add : ObjectMap → ObjectId × Stored → ObjectMap
add m o = if map.contains_key m o.0 then m else map.insert m o.0 o.1

-- with all of these objects, one after the other
abbrev pub add_all : ObjectMap → Entries → ObjectMap
add_all m [] = m
add_all m (o ∷ os) = add_all (add m o) os

-- what one list has, or else the other
abbrev pub first_some : Option Stored → Option Stored → Option Stored
first_some None other = other
first_some (Some found) other = Some found

-- whether an id has another kind or other bytes already
abbrev pub clashes : Option Stored → Stored → Bool
clashes None o = false
clashes (Some found) o = not (has_same_text found o)

-- the first id that has another object in the map or earlier in the list
abbrev pub collision : ObjectMap → Entries → Option ObjectId
collision m [] = None
collision m (o ∷ os) = if clashes (map.get m o.0) o.1 then Some o.0 else collision (add m o) os
