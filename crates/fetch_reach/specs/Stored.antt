-- The objects of a list of ids.
use Rattle.std.specs.Prelude.{◌≡◌, ◌<◌, ◌^◌, List, Option, All, length, option_map}
use Rattle.std.specs.List.{filter_map}
use Rattle.std.specs.FinMap as map
use Rattle.fetch_base.specs.declared.id.ObjectId.{ObjectId}
use Rattle.fetch_objects.specs.Objects.{Stored}
use Rattle.fetch_store.specs.Stores.{ObjectMap, Entries}
use Rattle.fetch_pack.specs.declared.version.PackVersion.{PackVersion}
use Rattle.fetch_pack.specs.declared.version.PackVersion.TheVariants.{V1}

-- the objects that are stored at these ids, in their order
abbrev pub objects_at : ObjectMap → List ObjectId → List Stored
objects_at objects ids = filter_map (map.get objects) ids

-- what is stored at an id, under the id
abbrev pub entry_at : ObjectMap → ObjectId → Option (ObjectId × Stored)
entry_at objects id = option_map (λ o. (id, o)) (map.get objects id)

-- the same of each of these ids, in their order
abbrev pub entries_at : ObjectMap → List ObjectId → Entries
entries_at objects ids = filter_map (entry_at objects) ids

-- What a pack of this version can hold: fewer than 2 ^ 32 objects, and in version 1 each of fewer than 2 ^ 32 bytes.
pub record CanHold (v : PackVersion) (os : List Stored) : Type 0 where
  pub count : length os < 2 ^ 32
  pub short : v ≡ V1 → All (λ o. length o.bytes < 2 ^ 32) os
