-- When an object differs from another one of its id, and which one is the first that does.
use Rattle.std.specs.Prelude.{◌≡◌, ◌≢◌, ◌⊎◌, ◌∷◌, ◌++◌, Some, Contains}
use Rattle.std.specs.List.{AllPairs}
use Rattle.std.specs.FinMap as map
use Rattle.fetch_base.specs.declared.id.ObjectId.{ObjectId}
use Rattle.fetch_objects.specs.Objects.{Stored}
use Rattle.fetch_store.specs.Stores.{ObjectMap, Entries}

-- No id stands twice in the list.
abbrev pub HasDistinctIds : Entries → Type 0
HasDistinctIds es = AllPairs (λ a b. a.0 ≢ b.0) es

-- The object stands at the id in the map or in the list.
abbrev pub IsAt : ObjectMap → Entries → ObjectId → Stored → Type 0
IsAt m es id o = (map.get m id ≡ Some o) ⊎ Contains es (id, o)

-- Some object at the entry's id, in the map or in the list, has another kind or other bytes.
pub record Differs (m : ObjectMap) (es : Entries) (e : ObjectId × Stored) : Type 0 where
  pub other : Stored
  pub at : IsAt m es e.0 other
  pub differs : (other.kind ≡ e.1.kind) × (other.bytes ≡ e.1.bytes) → ⊥

-- No entry of the list differs from what stands at its id in the map or earlier in the list.
pub record AreAtOne (m : ObjectMap) (es : Entries) : Type 0 where
  pub each : (front : Entries) (e : ObjectId × Stored) (rest : Entries) → es ≡ front ++ (e ∷ rest) → Differs m front e → ⊥

-- The first entry of the list that differs from what stands at its id in the map or earlier in the list has this id.
pub record IsFirstToDiffer (m : ObjectMap) (es : Entries) (id : ObjectId) : Type 0 where
  pub front : Entries
  pub object : Stored
  pub rest : Entries
  pub whole : es ≡ front ++ ((id, object) ∷ rest)
  pub before : AreAtOne m front
  pub differs : Differs m front (id, object)
