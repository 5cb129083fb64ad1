-- Which updates are rejected: for each rejecting mode, what holds of a mapping that is told it, in a dry run too. Each row is a
-- record of its conditions. Nothing here is asked in an order.
use Rattle.std.specs.Prelude.{◌≡◌, ◌≢◌, ◌⊎◌, ℕ, false, List, Some, Ok, IsTrue}
use Rattle.std.specs.FinMap as finmap
use Rattle.fetch_base.specs.declared.id.ObjectId.{ObjectId}
use Rattle.fetch_specs.specs.Names.{is_full_name}
use Rattle.fetch_specs.specs.Specs.{Spec}
use Rattle.fetch_specs.specs.Tagged.{tag_spec}
use Rattle.fetch_specs.specs.declared.tags.Tags.TheVariants.{Included}
use Rattle.fetch_refs.specs.Peeled.{peeled}
use Rattle.fetch_refs.specs.declared.edit.RefEdit.{RefEdit}
use Rattle.fetch_refs.specs.declared.target.Target.{Target}
use Rattle.fetch_refs.specs.declared.target.Target.TheVariants.{Object, Symbolic}
use Rattle.fetch_map.specs.declared.mapping.Mapping.{Mapping}
use Rattle.fetch_update.specs.declared.mode.Mode.{Mode}
use Rattle.fetch_update.specs.declared.mode.Mode.TheVariants as modes
use Rattle.fetch_update.specs.Accepting.{IsTaken, Stands, HasIds, KeepsTarget}
use Rattle.fetch_update.specs.Dated.{IsCommit, HasDatedPath}
use Rattle.fetch_update.specs.Policy.{Policy, is_forced, is_stored, is_tag, value_of}
use Rattle.fetch_update.specs.Trees.{is_checked_out, directories_of}

-- ---- rows

-- Objects are asked for, and the remote's isn't stored.
pub record IsMissing (p : Policy) (m : Mapping) (id : ObjectId) : Type 0 where
  pub asked : p.dry_run ≡ false
  pub remote_id : value_of m.remote ≡ Object id
  pub absent : is_stored p.graph id ≡ false

-- The remote sends those tags alone that belong to what it sends, and the refspec is the one for these.
abbrev pub IsOfSentTags : Policy → Spec → Type 0
IsOfSentTags p s = (p.tags ≡ Included) × (s ≡ tag_spec)

-- Such a tag wasn't sent.
pub record IsUnrelatedTag (p : Policy) (s : Spec) (m : Mapping) : Type 0 where
  pub id : ObjectId
  pub missing : IsMissing p m id
  pub tags : IsOfSentTags p s

-- Anything else wasn't sent.
pub record IsNotFound (p : Policy) (s : Spec) (m : Mapping) (id : ObjectId) : Type 0 where
  pub missing : IsMissing p m id
  pub others : IsOfSentTags p s → ⊥

-- A reference stands at the destination, which is a branch that is checked out in these directories.
pub record IsCheckedOut (p : Policy) (m : Mapping) (dirs : List (List ℕ)) : Type 0 where
  pub name : List ℕ
  pub destination : m.local ≡ Some name
  pub valid : IsTrue (is_full_name name)
  pub found : Target
  pub there : finmap.get p.names name ≡ Some found
  pub somewhere : IsTrue (is_checked_out p.worktrees name)
  pub directories : dirs ≡ directories_of p.worktrees name

-- A reference that stands for an id would get the name that an unborn reference names.
pub record LosesId (p : Policy) (m : Mapping) : Type 0 where
  pub name : List ℕ
  pub found : Target
  pub stands : Stands p m name found
  pub local : ObjectId
  pub local_id : peeled p.names p.graph name ≡ Ok local
  pub wanted : List ℕ
  pub remote : value_of m.remote ≡ Symbolic wanted

-- The ids differ: the destination is a tag, and the refspec has no plus.
pub record KeepsTag (p : Policy) (s : Spec) (m : Mapping) : Type 0 where
  pub name : List ℕ
  pub local : ObjectId
  pub remote : ObjectId
  pub ids : HasIds p m name local remote
  pub differ : local ≢ remote
  pub tag : IsTrue (is_tag name)
  pub no_plus : is_forced s.mode ≡ false

-- The ids differ: the destination is no tag, both are stored commits, no dated path leads from the remote's to the local one, and
-- the refspec has no plus.
pub record MovesAside (p : Policy) (s : Spec) (m : Mapping) : Type 0 where
  pub asked : p.dry_run ≡ false
  pub name : List ℕ
  pub local : ObjectId
  pub remote : ObjectId
  pub ids : HasIds p m name local remote
  pub differ : local ≢ remote
  pub no_tag : is_tag name ≡ false
  pub local_commit : IsCommit p.graph local
  pub remote_commit : IsCommit p.graph remote
  pub no_path : HasDatedPath p.graph remote local → ⊥
  pub no_plus : is_forced s.mode ≡ false

-- ---- one mapping

-- A mapping is rejected with this mode, by itself.
abbrev pub Rejects : Policy → Spec → Mapping → Mode → Type 0
Rejects p s m modes.ImplicitTagNotSentByRemote = IsUnrelatedTag p s m
Rejects p s m (modes.RejectedSourceObjectNotFound id) = IsNotFound p s m id
Rejects p s m (modes.RejectedCurrentlyCheckedOut dirs) = IsTaken p (value_of m.remote) × IsCheckedOut p m dirs
Rejects p s m modes.RejectedToReplaceWithUnborn = LosesId p m
Rejects p s m modes.RejectedTagUpdate = IsTaken p (value_of m.remote) × KeepsTag p s m
Rejects p s m modes.RejectedNonFastForward = IsTaken p (value_of m.remote) × MovesAside p s m
Rejects p s m other = ⊥

-- ---- among all mappings

-- A mapping keeps its target beside these edits, and is rejected for that.
abbrev pub IsRejectedToKeep : Policy → List RefEdit → Mapping → Mode → Type 0
IsRejectedToKeep p edits m mode = (mode ≡ modes.RejectedToReplaceWithUnborn) × KeepsTarget p edits m

-- A mapping is rejected with this mode, beside these edits of all mappings.
abbrev pub IsRejected : Policy → List RefEdit → Spec → Mapping → Mode → Type 0
IsRejected p edits s m mode = Rejects p s m mode ⊎ IsRejectedToKeep p edits m mode
