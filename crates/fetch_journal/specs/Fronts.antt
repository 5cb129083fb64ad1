-- The repository that a prefix of a journal leaves, up to two objects with one id.
use Rattle.std.specs.Prelude.{◌≡◌, List, None, Some, ⊤}
use Rattle.std.specs.FinMap as map
use Rattle.fetch_base.specs.declared.id.Kind.{Kind}
use Rattle.fetch_base.specs.declared.id.ObjectId.{ObjectId}
use Rattle.fetch_store.specs.Closed.{IsClosed, AreAllOf, Grows}
use Rattle.fetch_base.specs.Hashing.{id_of}
use Rattle.fetch_objects.specs.Objects.{Stored}
use Rattle.fetch_store.specs.Stores.{ObjectMap, AreOf}
use Rattle.fetch_pack.specs.Once.{AreNamed}
use Rattle.fetch_remote.specs.RepositoryValues.{RepositoryValue}
use Rattle.fetch_journal.specs.declared.entry.Entry.{Entry}
use Rattle.fetch_journal.specs.Machine.{Event, held}
use Rattle.fetch_journal.specs.Machine.Event.{Take}
use Rattle.fetch_journal.specs.Replays.{outline, replay}

-- a closed repository with objects of its hash
pub record IsSound (r : RepositoryValue) : Type 0 where
  pub closed : IsClosed (held r)
  pub of_hash : AreAllOf r.state.hash r.state.objects

-- the ids and the objects of a take are of this hash
abbrev pub IsEventOf : Kind → Event → Type 0
IsEventOf hash (Take pass wants pack) = AreOf hash pack.objects
IsEventOf hash event = ⊤

-- each object of a take has its hash as its id
abbrev pub IsNamedEvent : Event → Type 0
IsNamedEvent (Take pass wants pack) = AreNamed pack.objects
IsNamedEvent event = ⊤

-- each object that stood there before still does, and each other one has its hash as its id
pub record IsPinned (before now : ObjectMap) : Type 0 where
  pub kept : Grows before now
  pub named : (id : ObjectId) (o : Stored) → map.get before id ≡ None → map.get now id ≡ Some o → id ≡ id_of o.hash o.kind o.bytes

-- the repository that a prefix of the journal leaves
pub record IsStateOf (opening : RepositoryValue) (front : List Entry) (r : RepositoryValue) : Type 0 where
  pub told : outline r ≡ replay (outline opening) front
  pub pinned : IsPinned opening.state.objects r.state.objects

-- an id that both have has one object
pub record IsAlike (m n : ObjectMap) : Type 0 where
  pub same : (id : ObjectId) (o other : Stored) → map.get m id ≡ Some o → map.get n id ≡ Some other → o ≡ other
