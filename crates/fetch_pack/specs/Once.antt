-- What it says that each id of a list stands once, where it first comes.
use Rattle.std.specs.Prelude.{◌≡◌, map, List, ◌++◌, Contains}
use Rattle.fetch_base.specs.declared.id.ObjectId.{ObjectId}
use Rattle.fetch_base.specs.Hashing.{id_of}
use Rattle.fetch_objects.specs.Objects.{Stored}
use Rattle.fetch_store.specs.Collisions.{HasDistinctIds}
use Rattle.fetch_store.specs.Stores.{Entries}
use Rattle.std.specs.List.{AllByRecursion}
use Rattle.fetch_pack.specs.Reading.{once_from}
use Rattle.std.specs.Prelude.{[]}

-- The ids are the hashes of their objects.
abbrev pub AreNamed : Entries → Type 0
AreNamed os = AllByRecursion (λ o. o.0 ≡ id_of o.1.hash o.1.kind o.1.bytes) os

-- the ids of entries
abbrev pub ids_of : Entries → List ObjectId
ids_of os = map (λ o. o.0) os

-- The entries kept are some of the list, they have each of its ids once, and what comes first in the list stays in front.
pub record KeepsEachOnce (os kept : Entries) : Type 0 where
  pub distinct : HasDistinctIds kept
  pub entries : (o : ObjectId × Stored) → Contains kept o → Contains os o
  pub ids : (id : ObjectId) → Contains (ids_of os) id → Contains (ids_of kept) id
  pub order : (before behind : Entries) → os ≡ before ++ behind → (more : Entries) × (kept ≡ once_from [] before ++ more)
