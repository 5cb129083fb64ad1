-- What a repository holds, when it is closed, and what can be reached in it.
use Rattle.std.specs.Prelude.{◌≡◌, Bool, false, List, [], ◌∷◌, Option, None, Some, IsTrue, IsSome, All, Contains, if◌then◌else◌}
use Rattle.std.specs.Option.{option_map_or}
use Rattle.std.specs.FinMap as map
use Rattle.std.specs.FinSet as set
use Rattle.fetch_base.specs.declared.id.Kind.{Kind}
use Rattle.fetch_base.specs.declared.id.ObjectId.{ObjectId}
use Rattle.fetch_base.specs.declared.object_kind.ObjectKind.TheVariants.{Commit}
use Rattle.fetch_objects.specs.Objects.{Stored, links_of, parents_of, others_of}
use Rattle.fetch_base.specs.Kinds.{is_kind}
use Rattle.fetch_store.specs.Stores.{ObjectMap}
use Rattle.fetch_store.specs.Borders.{IdSet}

-- the objects, and the commits whose parents are left out
pub record Holding : Type 0 where
  pub objects : ObjectMap
  pub border : IdSet

-- these objects and this border
abbrev pub holding : ObjectMap → IdSet → Holding
holding objects border = record { objects = objects; border = border }

-- the ids that an object links to
abbrev pub links : Stored → List ObjectId
links o = links_of o.hash o.kind o.bytes

-- the parents of a commit, and of nothing else
abbrev pub parents : Stored → List ObjectId
parents o = parents_of o.hash o.kind o.bytes

-- the links that are no parents
abbrev pub others : Stored → List ObjectId
others o = others_of o.hash o.kind o.bytes

-- the links of an object, parents of border commits aside
abbrev pub links_within : IdSet → ObjectId → Stored → List ObjectId
links_within border id o = if set.contains border id then others o else links o

-- the links of what stands at an id, parents of border commits aside
abbrev pub links_at : Holding → ObjectId → List ObjectId
links_at h id = option_map_or (links_within h.border id) (map.get h.objects id) []

-- something is stored at the id
abbrev pub IsStored : ObjectMap → ObjectId → Type 0
IsStored objects id = IsSome (map.get objects id)

-- whether what stands at an id is a commit
abbrev pub is_commit : Option Stored → Bool
is_commit None = false
is_commit (Some o) = is_kind o.kind Commit

-- a commit is stored at the id
abbrev pub IsCommit : ObjectMap → ObjectId → Type 0
IsCommit objects id = IsTrue (is_commit (map.get objects id))

-- each object is of this hash
pub record AreAllOf (hash : Kind) (objects : ObjectMap) : Type 0 where
  pub each : (id : ObjectId) (o : Stored) → map.get objects id ≡ Some o → o.hash ≡ hash

-- No link leads to what isn't stored.
pub record IsClosed (h : Holding) : Type 0 where
  -- each link of each stored object is stored, parents of border commits aside
  pub linked : (id : ObjectId) (o : Stored) → map.get h.objects id ≡ Some o → All (IsStored h.objects) (links_within h.border id o)
  -- each border id is a stored commit
  pub bordered : (id : ObjectId) → IsTrue (set.contains h.border id) → IsCommit h.objects id

-- each next id is a link of the one before, and no step leads from a border commit to a parent
abbrev pub IsWalk : Holding → ObjectId → List ObjectId → ObjectId → Type 0
IsWalk h from [] to = IsStored h.objects from × (from ≡ to)
IsWalk h from (next ∷ rest) to = (o : Stored) × (map.get h.objects from ≡ Some o) × Contains (links_within h.border from o) next
    × IsWalk h next rest to

-- a walk leads from one of the starts to the id
pub record Reached (h : Holding) (starts : List ObjectId) (id : ObjectId) : Type 0 where
  pub start : ObjectId
  pub among : Contains starts start
  pub rest : List ObjectId
  pub walk : IsWalk h start rest id

-- each id has the object that it had
pub record Grows (before now : ObjectMap) : Type 0 where
  pub keeps : (id : ObjectId) (o : Stored) → map.get before id ≡ Some o → map.get now id ≡ Some o
