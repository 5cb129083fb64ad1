-- What edits leave at a name.
use Rattle.std.specs.Prelude.{◌≡◌, ℕ, Bool, true, false, ◌&&◌, List, [], ◌∷◌, Option, Some, None, if◌then◌else◌}
use Rattle.std.specs.Option.{option_or}
use Rattle.std.specs.Str.{bytes_eq}
use Rattle.fetch_refs.specs.declared.edit.Change.{Change}
use Rattle.fetch_refs.specs.declared.edit.Change.TheVariants.{Update, Delete}
use Rattle.fetch_refs.specs.declared.edit.RefEdit.{RefEdit}
use Rattle.fetch_refs.specs.declared.edit.RefLog.{RefLog}
use Rattle.fetch_refs.specs.declared.edit.RefLog.TheVariants.{AndReference, Only}
use Rattle.fetch_refs.specs.declared.target.Target.{Target}
use Rattle.fetch_refs.specs.Names.{RefsValue}

-- the last element that passes the test
abbrev pub last_that : {X : Type 0} → (X → Bool) → List X → Option X
last_that p [] = None
last_that p (x ∷ xs) = option_or (last_that p xs) (if p x then Some x else None)

-- whether a mode is of the reference too
abbrev pub touches_reference : RefLog → Bool
touches_reference AndReference = true
touches_reference Only = false

-- the mode of a change
abbrev pub mode_of : Change → RefLog
mode_of (Update log expected new) = log.mode
mode_of (Delete expected log) = log

-- the value that a change leaves
abbrev pub new_value : Change → Option Target
new_value (Update log expected new) = Some new
new_value (Delete expected log) = None

-- whether an edit changes the reference of this name, and not its reflog alone
abbrev pub writes : List ℕ → RefEdit → Bool
writes name e = bytes_eq name e.name && touches_reference (mode_of e.change)

-- what an edit leaves, or what was there where there is none
abbrev pub left_by : Option Target → Option RefEdit → Option Target
left_by found None = found
left_by found (Some e) = new_value e.change

-- the same hash, references and reflogs, whatever the packed lists are
pub record IsAlike (r s : RefsValue) : Type 0 where
  pub hash : r.hash ≡ s.hash
  pub names : r.names ≡ s.names
  pub logs : r.logs ≡ s.logs
