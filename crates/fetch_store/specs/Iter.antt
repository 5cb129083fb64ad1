-- The objects of a store, one after the other.
use Rattle.std.specs.Prelude.{List}
use Rattle.fetch_base.specs.declared.id.ObjectId.{ObjectId}
use Rattle.fetch_objects.specs.declared.object.ObjectRef.{ObjectRef}
use Rattle.fetch_store.specs.declared.store_iter.StoreIter.{StoreIter}
use Rattle.fetch_store.specs.Buffers.{entries_in}
use Rattle.fetch_objects.specs.Objects.{Stored}
use Rattle.fetch_objects.specs.References.{seen}

-- the objects that are still to come
abbrev pub left : StoreIter → List (ObjectId × Stored)
left it = entries_in it.hash it.buffer.now it.index.now

-- what an item shows
abbrev pub shown : ObjectId × ObjectRef → ObjectId × Stored
shown item = (item.0, seen item.1)
