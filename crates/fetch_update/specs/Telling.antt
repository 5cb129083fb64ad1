-- What updates tell of their edits: what the reflogs say, and how the kind of a reference changes.
use Rattle.std.specs.Prelude.{◌≡◌, ℕ, false, List, Option, Some, None, IsTrue, Contains}
use Rattle.std.specs.FinMap as finmap
use Rattle.fetch_base.specs.declared.id.ObjectId.{ObjectId}
use Rattle.fetch_specs.specs.Specs.{Spec}
use Rattle.fetch_refs.specs.declared.edit.Change.{Change}
use Rattle.fetch_refs.specs.declared.edit.Change.TheVariants.{Update as Writes, Delete}
use Rattle.fetch_refs.specs.declared.edit.LogChange.{LogChange}
use Rattle.fetch_refs.specs.declared.edit.RefEdit.{RefEdit}
use Rattle.fetch_refs.specs.declared.edit.RefLog.TheVariants.{AndReference}
use Rattle.fetch_refs.specs.declared.target.Target.TheVariants.{Object, Symbolic}
use Rattle.fetch_map.specs.declared.mapping.Mapping.{Mapping}
use Rattle.fetch_update.specs.declared.mode.TypeChange.TheVariants.{SymbolicToDirect, DirectToSymbolic}
use Rattle.fetch_update.specs.declared.update.Outcome.{Outcome}
use Rattle.fetch_update.specs.declared.update.Update.{Update}
use Rattle.fetch_update.specs.Accepted.{IsAbout, edit_for}
use Rattle.fetch_update.specs.Accepting.{IsUnborn, IsAbsent, HasOneId, ReplacesTag, MovesForward, Replaces, IsGuessed, KeepsTarget}
use Rattle.fetch_update.specs.Outcomes.{no_op}
use Rattle.fetch_update.specs.Policy.{Policy, message_text, storing, change_unborn, no_update, updating_tag, guessed, fast_forward}
use Rattle.fetch_update.specs.Policy.{forced_update}
use Rattle.fetch_update.specs.Writes.{gives}

-- ---- reflogs

-- what a change logs
abbrev pub log_of : Change → Option LogChange
log_of (Writes log expected new) = Some log
log_of (Delete expected log) = None

-- An edit changes the reference and its reflog, which gets this message where it gets a line.
abbrev pub Says : RefEdit → List ℕ → Type 0
Says e message = log_of e.change ≡ Some (record { mode = AndReference; force_create_reflog = false; message = message })

-- What is said after the action, or in place of all, by the row that holds of the mapping.
pub record SaysByRow (p : Policy) (s : Spec) (m : Mapping) (e : RefEdit) : Type 0 where
  pub absent : IsAbsent p m → Says e (message_text p.message (storing e.name))
  pub unborn : (name target : List ℕ) → IsUnborn p m name target → Says e (message_text p.message change_unborn)
  pub one_id : HasOneId p m → Says e (message_text p.message no_update)
  pub tag : ReplacesTag p s m → Says e (message_text p.message updating_tag)
  pub guessed : IsTrue p.dry_run → IsGuessed p m → Says e (message_text p.message guessed)
  pub forward : p.dry_run ≡ false → MovesForward p m → Says e (message_text p.message fast_forward)
  pub replaced : p.dry_run ≡ false → Replaces p s m → Says e (message_text p.message forced_update)

-- Each edit says what its mapping's row says; one that keeps its target says `no-op`.
pub record EditsSay (p : Policy) (specs extra : List Spec) (mappings : List Mapping) (o : Outcome) : Type 0 where
  pub rows : (u : Update) (m : Mapping) (s : Spec) (e : RefEdit) → Contains o.updates u → IsAbout specs extra mappings u m s
      → edit_for o.edits u ≡ Some e → (KeepsTarget p o.edits m → ⊥) → SaysByRow p s m e
  pub kept : (u : Update) (m : Mapping) (s : Spec) (e : RefEdit) → Contains o.updates u → IsAbout specs extra mappings u m s
      → edit_for o.edits u ≡ Some e → KeepsTarget p o.edits m → Says e no_op

-- ---- kinds

-- An edit gives an id to a reference that was symbolic.
pub record TurnsDirect (p : Policy) (e : RefEdit) : Type 0 where
  pub target : List ℕ
  pub id : ObjectId
  pub symbolic : finmap.get p.names e.name ≡ Some (Symbolic target)
  pub direct : gives e ≡ Some (Object id)

-- Such an edit is told with its update, and nothing else is: no reference becomes symbolic.
pub record TellsTypeChanges (p : Policy) (o : Outcome) : Type 0 where
  pub told : (u : Update) → Contains o.updates u → u.type_change ≡ Some SymbolicToDirect → (e : RefEdit) × (edit_for o.edits u ≡ Some e)
      × TurnsDirect p e
  pub holds : (u : Update) (e : RefEdit) → Contains o.updates u → edit_for o.edits u ≡ Some e → TurnsDirect p e
      → u.type_change ≡ Some SymbolicToDirect
  pub never : (u : Update) → Contains o.updates u → u.type_change ≡ Some DirectToSymbolic → ⊥
