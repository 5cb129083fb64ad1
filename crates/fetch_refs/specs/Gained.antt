-- The lines that edits write into the reflog of one name.
use Rattle.std.specs.Prelude.{ℕ, Bool, true, false, ◌&&◌, List, [], ◌∷◌, ◌++◌, Option, if◌then◌else◌}
use Rattle.std.specs.FinMap as map
use Rattle.std.specs.Str.{bytes_eq}
use Rattle.fetch_refs.specs.declared.edit.Change.{Change}
use Rattle.fetch_refs.specs.declared.edit.Change.TheVariants.{Update, Delete}
use Rattle.fetch_refs.specs.declared.edit.LogChange.{LogChange}
use Rattle.fetch_refs.specs.declared.edit.RefEdit.{RefEdit}
use Rattle.fetch_refs.specs.declared.log.LogLine.{LogLine}
use Rattle.fetch_refs.specs.declared.target.Target.{Target}
use Rattle.fetch_refs.specs.declared.target.Target.TheVariants.{Object, Symbolic}
use Rattle.fetch_refs.specs.Edits.{changed}
use Rattle.fetch_refs.specs.Logs.{Logging, gets_line, old_id}
use Rattle.fetch_refs.specs.Names.{Names}

-- whether a change is a deletion
abbrev pub is_deletion : Change → Bool
is_deletion (Update log expected new) = false
is_deletion (Delete expected log) = true

-- whether an edit takes the reflog of this name away
abbrev pub deletes : List ℕ → RefEdit → Bool
deletes name e = bytes_eq name e.name && is_deletion e.change

-- the line of an update to an id, where it gets one; the reference had this value before
abbrev pub line_for : Logging → List ℕ → LogChange → Option Target → Target → List LogLine
line_for how name log before (Symbolic target) = []
line_for how name log before (Object id) =
    if gets_line how.enabled name log before (Object id)
    then record { old = old_id how.hash before; new = id; committer = how.committer; message = log.message } ∷ [] else []

-- the line that a change gives the reflog, or none
abbrev pub line_of_change : Logging → List ℕ → Option Target → Change → List LogLine
line_of_change how name before (Update log expected new) = line_for how name log before new
line_of_change how name before (Delete expected log) = []

-- the line of an edit, where it is of this name and gets one; these are the references before it
abbrev pub line_by : Logging → Names → List ℕ → RefEdit → List LogLine
line_by how names name e = if bytes_eq name e.name then line_of_change how e.name (map.get names e.name) e.change else []

-- one line for each edit of this name that gets one, in order
abbrev pub gained : Logging → Names → List ℕ → List RefEdit → List LogLine
gained how names name [] = []
gained how names name (e ∷ es) = line_by how names name e ++ gained how (changed names e) name es
