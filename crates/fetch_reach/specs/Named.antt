-- Stored ids, and the hashes of their objects.
use Rattle.std.specs.Prelude.{◌≡◌, ◌≢◌, Some}
use Rattle.std.specs.FinMap as map
use Rattle.std.specs.declared.cmp.Ordering.TheVariants.{Less}
use Rattle.fetch_base.specs.declared.id.ObjectId.{ObjectId}
use Rattle.fetch_base.specs.Hashing.{id_of}
use Rattle.fetch_objects.specs.Objects.{Stored, IsObject}
use Rattle.fetch_store.specs.Stores.{ObjectMap}
use Rattle.fetch_base.specs.Id.{id_cmp}

-- the id that an object has by its hash
abbrev pub own_id : Stored → ObjectId
own_id o = id_of o.hash o.kind o.bytes

-- An object is stored at the id, and the id is its hash.
pub record IsOwnId (objects : ObjectMap) (id : ObjectId) : Type 0 where
  pub object : Stored
  pub stored : map.get objects id ≡ Some object
  pub own : id ≡ own_id object

-- Each stored id is its object's hash.
pub record AreOwnIds (objects : ObjectMap) : Type 0 where
  pub each : (id : ObjectId) (o : Stored) → map.get objects id ≡ Some o → id ≡ own_id o

-- An object is stored at the id, which isn't its hash, and each lesser stored id is its object's hash.
pub record IsFirstMisnamed (objects : ObjectMap) (id : ObjectId) : Type 0 where
  pub object : Stored
  pub stored : map.get objects id ≡ Some object
  pub other : id ≢ own_id object
  pub before : (lesser : ObjectId) (o : Stored) → id_cmp lesser id ≡ Less → map.get objects lesser ≡ Some o → lesser ≡ own_id o

-- Each stored object is in the grammar of its kind.
pub record AreObjects (objects : ObjectMap) : Type 0 where
  pub each : (id : ObjectId) (o : Stored) → map.get objects id ≡ Some o → IsObject o.hash o.kind o.bytes
