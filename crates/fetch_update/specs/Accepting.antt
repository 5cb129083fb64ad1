-- Which updates are accepted: for each mode, what holds of a mapping that is told it. Each row is a record of its
-- conditions. Nothing here is asked in an order.
use Rattle.std.specs.Prelude.{◌≡◌, ◌≢◌, ◌⊎◌, ⊤, ℕ, Bool, true, false, List, Option, Some, None, Ok, Err, IsTrue}
use Rattle.std.specs.FinMap as finmap
use Rattle.std.specs.List.{list_any}
use Rattle.std.specs.Option.{option_and_then, option_map}
use Rattle.std.specs.Str.{bytes_eq}
use Rattle.fetch_base.specs.declared.id.ObjectId.{ObjectId}
use Rattle.fetch_store.specs.Graph.{Graph}
use Rattle.fetch_specs.specs.Names.{is_full_name}
use Rattle.fetch_specs.specs.Specs.{Spec}
use Rattle.fetch_refs.specs.Peeled.{peeled}
use Rattle.fetch_refs.specs.declared.edit.RefEdit.{RefEdit}
use Rattle.fetch_refs.specs.declared.error.RefError.TheVariants.{Unborn}
use Rattle.fetch_refs.specs.declared.target.Target.{Target}
use Rattle.fetch_refs.specs.declared.target.Target.TheVariants.{Object, Symbolic}
use Rattle.fetch_lines.specs.References.{source_target}
use Rattle.fetch_map.specs.declared.mapping.Mapping.{Mapping}
use Rattle.fetch_update.specs.declared.mode.Mode.{Mode}
use Rattle.fetch_update.specs.declared.mode.Mode.TheVariants as modes
use Rattle.fetch_update.specs.declared.verdict.Verdict.{Verdict}
use Rattle.fetch_update.specs.Dated.{IsCommit, HasDatedPath}
use Rattle.fetch_update.specs.Policy.{Policy, is_forced, is_stored, is_tag, value_of}
use Rattle.fetch_update.specs.Trees.{is_checked_out}
use Rattle.fetch_update.specs.Writes.{gives}

-- whether a mode is one of those that accept what the remote has
abbrev pub is_accepting : Mode → Bool
is_accepting modes.NoChangeNeeded = true
is_accepting modes.New = true
is_accepting modes.FastForward = true
is_accepting modes.Forced = true
is_accepting other = false

-- ---- what the remote has

-- its object is stored; where its reference is unborn, there is none
abbrev pub IsSent : Graph → Target → Type 0
IsSent graph (Object id) = IsTrue (is_stored graph id)
IsSent graph (Symbolic name) = ⊤

-- its object is stored, or it isn't asked for: in a dry run
abbrev pub IsTaken : Policy → Target → Type 0
IsTaken p value = IsTrue p.dry_run ⊎ IsSent p.graph value

-- an id, or a valid name
abbrev pub IsWritable : Target → Type 0
IsWritable (Object id) = ⊤
IsWritable (Symbolic name) = IsTrue (is_full_name name)

-- ---- the destination

-- the destination is this valid name, where a reference with this value stands that is checked out nowhere
pub record Stands (p : Policy) (m : Mapping) (name : List ℕ) (found : Target) : Type 0 where
  pub destination : m.local ≡ Some name
  pub valid : IsTrue (is_full_name name)
  pub there : finmap.get p.names name ≡ Some found
  pub free : is_checked_out p.worktrees name ≡ false

-- a symbolic reference with this target stands there, and its way ends at an absent name
pub record IsUnborn (p : Policy) (m : Mapping) (name target : List ℕ) : Type 0 where
  pub stands : Stands p m name (Symbolic target)
  pub end : List ℕ
  pub unborn : peeled p.names p.graph name ≡ Err (Unborn end)

-- a reference that stands for one id stands there, and the remote has an id
pub record HasIds (p : Policy) (m : Mapping) (name : List ℕ) (local remote : ObjectId) : Type 0 where
  pub found : Target
  pub stands : Stands p m name found
  pub local_id : peeled p.names p.graph name ≡ Ok local
  pub remote_id : value_of m.remote ≡ Object remote

-- ---- rows: what holds, and which mode is told

-- There is no destination: nothing is written.
abbrev pub HasNoDestination : Mapping → Type 0
HasNoDestination m = m.local ≡ None

-- The destination is a valid name, and absent.
pub record IsAbsent (p : Policy) (m : Mapping) : Type 0 where
  pub name : List ℕ
  pub destination : m.local ≡ Some name
  pub valid : IsTrue (is_full_name name)
  pub absent : finmap.get p.names name ≡ None
  pub writable : IsWritable (value_of m.remote)

-- The destination is symbolic and unborn, and its target is the name that the remote's reference names.
pub record NamesTheSame (p : Policy) (m : Mapping) : Type 0 where
  pub name : List ℕ
  pub target : List ℕ
  pub unborn : IsUnborn p m name target
  pub same : source_target m.remote ≡ Some target
  pub writable : IsWritable (value_of m.remote)

-- The destination is symbolic and unborn, and its target is another name, or the remote's reference names none.
pub record NamesAnother (p : Policy) (m : Mapping) : Type 0 where
  pub name : List ℕ
  pub target : List ℕ
  pub unborn : IsUnborn p m name target
  pub other : source_target m.remote ≢ Some target
  pub writable : IsWritable (value_of m.remote)

-- The local id and the remote's are one.
pub record HasOneId (p : Policy) (m : Mapping) : Type 0 where
  pub name : List ℕ
  pub id : ObjectId
  pub ids : HasIds p m name id id

-- The ids differ: the destination is a tag, and the refspec has a plus.
pub record ReplacesTag (p : Policy) (s : Spec) (m : Mapping) : Type 0 where
  pub name : List ℕ
  pub local : ObjectId
  pub remote : ObjectId
  pub ids : HasIds p m name local remote
  pub differ : local ≢ remote
  pub tag : IsTrue (is_tag name)
  pub plus : IsTrue (is_forced s.mode)

-- The ids differ: the destination is no tag, both are stored commits, and a dated path leads from the remote's to the local one.
pub record MovesForward (p : Policy) (m : Mapping) : Type 0 where
  pub name : List ℕ
  pub local : ObjectId
  pub remote : ObjectId
  pub ids : HasIds p m name local remote
  pub differ : local ≢ remote
  pub no_tag : is_tag name ≡ false
  pub local_commit : IsCommit p.graph local
  pub remote_commit : IsCommit p.graph remote
  pub path : HasDatedPath p.graph remote local

-- The ids differ, and the destination is no tag: all that is asked in a dry run.
pub record IsGuessed (p : Policy) (m : Mapping) : Type 0 where
  pub name : List ℕ
  pub local : ObjectId
  pub remote : ObjectId
  pub ids : HasIds p m name local remote
  pub differ : local ≢ remote
  pub no_tag : is_tag name ≡ false

-- One of the two is no commit; or no dated path leads from the remote's to the local one, and the refspec has a plus.
abbrev pub MayBeReplaced : Policy → Spec → ObjectId → ObjectId → Type 0
MayBeReplaced p s local remote = ((IsCommit p.graph local → ⊥) ⊎ (IsCommit p.graph remote → ⊥))
    ⊎ ((HasDatedPath p.graph remote local → ⊥) × IsTrue (is_forced s.mode))

-- The ids differ: the destination is no tag, and the local object is stored and may be replaced.
pub record Replaces (p : Policy) (s : Spec) (m : Mapping) : Type 0 where
  pub name : List ℕ
  pub local : ObjectId
  pub remote : ObjectId
  pub ids : HasIds p m name local remote
  pub differ : local ≢ remote
  pub no_tag : is_tag name ≡ false
  pub stored : IsTrue (is_stored p.graph local)
  pub replaced : MayBeReplaced p s local remote

-- the rows of each mode
abbrev pub HasRow : Policy → Spec → Mapping → Mode → Type 0
HasRow p s m modes.NoChangeNeeded = HasNoDestination m ⊎ (NamesTheSame p m ⊎ HasOneId p m)
HasRow p s m modes.New = IsAbsent p m
HasRow p s m modes.FastForward = MovesForward p m
HasRow p s m modes.Forced = NamesAnother p m ⊎ (ReplacesTag p s m ⊎ Replaces p s m)
HasRow p s m other = ⊥

-- the rows of each mode in a dry run
abbrev pub HasDryRow : Policy → Spec → Mapping → Mode → Type 0
HasDryRow p s m modes.NoChangeNeeded = HasNoDestination m ⊎ (NamesTheSame p m ⊎ HasOneId p m)
HasDryRow p s m modes.New = IsAbsent p m
HasDryRow p s m modes.FastForward = IsGuessed p m
HasDryRow p s m modes.Forced = NamesAnother p m ⊎ ReplacesTag p s m
HasDryRow p s m other = ⊥

-- ---- one mapping

-- what an accepted mapping writes: what the remote has, where there is a destination
abbrev pub written_for : Mapping → Option Target
written_for m = option_map (λ _. value_of m.remote) m.local

-- A mapping is accepted with this mode, by itself.
pub record Accepts (p : Policy) (s : Spec) (m : Mapping) (mode : Mode) : Type 0 where
  pub sent : IsSent p.graph (value_of m.remote)
  pub row : HasRow p s m mode

-- A verdict tells this mode, and its edit writes what an accepted mapping writes, at its destination.
pub record Tells (m : Mapping) (mode : Mode) (v : Verdict) : Type 0 where
  pub told : v.mode ≡ mode
  pub writes : option_and_then gives v.edit ≡ written_for m
  pub name : option_map (λ e. e.name) v.edit ≡ m.local

-- ---- among all mappings

-- The destination is symbolic and unborn, and its target stands. The remote's reference is unborn too, and names another
-- name that neither stands nor is written by an edit. The destination then keeps its target.
pub record KeepsTarget (p : Policy) (edits : List RefEdit) (m : Mapping) : Type 0 where
  pub name : List ℕ
  pub target : List ℕ
  pub wanted : List ℕ
  pub unborn : IsUnborn p m name target
  pub remote : value_of m.remote ≡ Symbolic wanted
  pub other : target ≢ wanted
  pub stands : IsTrue (finmap.contains_key p.names target)
  pub absent : finmap.contains_key p.names wanted ≡ false
  pub unwritten : list_any (λ e. bytes_eq e.name wanted) edits ≡ false

-- A mapping is accepted with this mode, beside these edits of all mappings.
pub record IsAccepted (p : Policy) (edits : List RefEdit) (s : Spec) (m : Mapping) (mode : Mode) : Type 0 where
  pub accepts : Accepts p s m mode
  pub changes : KeepsTarget p edits m → ⊥

-- In a dry run it is accepted so.
pub record IsAcceptedDry (p : Policy) (edits : List RefEdit) (s : Spec) (m : Mapping) (mode : Mode) : Type 0 where
  pub row : HasDryRow p s m mode
  pub changes : KeepsTarget p edits m → ⊥
