-- Objects whose bytes stand in one buffer, under an index of ids.
use Rattle.std.specs.Prelude.{◌≡◌, ℕ, ◌+◌, ◌≤◌, List, map, take, drop, length, All, Contains, Option}
use Rattle.std.specs.FinMap as finmap
use Rattle.fetch_base.specs.declared.id.Kind.{Kind}
use Rattle.fetch_base.specs.declared.id.ObjectId.{ObjectId}
use Rattle.fetch_store.specs.declared.span.Span.{Span}
use Rattle.fetch_base.specs.Id.{kind_of, id_cmp}
use Rattle.fetch_objects.specs.Objects.{Stored, IsObject}
use Rattle.fetch_store.specs.Stores.{Entries, map_of, add_all, first_some}
use Rattle.fetch_store.specs.Entries.{IsInOrder}

-- the object of a span
abbrev pub lent : Kind → List ℕ → Span → Stored
lent hash buffer s = record { hash = hash; kind = s.kind; bytes = take s.length (drop s.start buffer) }

-- ids with the places of their objects
abbrev pub Index : Type 0
Index = List (ObjectId × Span)

-- the objects of an index, read from the buffer
abbrev pub entries_in : Kind → List ℕ → Index → Entries
entries_in hash buffer index = map (λ e. (e.0, lent hash buffer e.1)) index

-- The span lies in the buffer, and there is an object there; the id is one of the hash.
pub record IsLent (hash : Kind) (buffer : List ℕ) (e : ObjectId × Span) : Type 0 where
  pub within : e.1.start + e.1.length ≤ length buffer
  pub of_hash : kind_of e.0 ≡ hash
  pub valid : IsObject hash e.1.kind (take e.1.length (drop e.1.start buffer))

-- an index of objects in the buffer, in ascending order of ids
pub record IsIndexed (hash : Kind) (buffer : List ℕ) (index : Index) : Type 0 where
  pub lent : All (IsLent hash buffer) index
  pub in_order : IsInOrder index

-- the first entry of an id, in one list or else in another
abbrev pub first_of : Entries → Entries → ObjectId → Option Stored
first_of stored es q = first_some (finmap.find id_cmp q stored) (finmap.find id_cmp q es)

-- What a list brings is put after a buffer, with spans of its new ids.
pub record IsAppended (hash : Kind) (index : Index) (before buffer : List ℕ) (fresh : Index) (objects : Entries) : Type 0 where
  -- the index tells what it told
  pub kept : IsIndexed hash buffer index
  pub same : entries_in hash buffer index ≡ entries_in hash before index
  pub lent : All (IsLent hash buffer) fresh
  pub from : All (Contains objects) (entries_in hash buffer fresh)
  pub first : (q : ObjectId) → first_of (entries_in hash before index) (entries_in hash buffer fresh) q
      ≡ first_of (entries_in hash before index) objects q

-- The index has what it had, and then what the list brings.
pub record IsTaken (hash : Kind) (index : Index) (before : List ℕ) (now : Index) (buffer : List ℕ) (objects : Entries) : Type 0 where
  pub indexed : IsIndexed hash buffer now
  pub added : map_of (entries_in hash buffer now) ≡ add_all (map_of (entries_in hash before index)) objects
