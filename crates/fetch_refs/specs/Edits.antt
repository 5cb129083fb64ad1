-- The references after edits.
use Rattle.std.specs.Prelude.{ℕ, List, [], ◌∷◌, Option, Some, None}
use Rattle.std.specs.FinMap as map
use Rattle.fetch_refs.specs.declared.edit.Change.{Change}
use Rattle.fetch_refs.specs.declared.edit.Change.TheVariants.{Update, Delete}
use Rattle.fetch_refs.specs.declared.edit.RefEdit.{RefEdit}
use Rattle.fetch_refs.specs.declared.edit.RefLog.{RefLog}
use Rattle.fetch_refs.specs.declared.edit.RefLog.TheVariants.{AndReference, Only}
use Rattle.fetch_refs.specs.declared.target.Target.{Target}
use Rattle.fetch_refs.specs.Names.{Names}

-- the map with a value, or with none, at a name
abbrev pub with_value : Names → List ℕ → Option Target → Names
with_value names name (Some value) = map.insert names name value
with_value names name None = map.remove names name

-- what a deletion or an update writes: nothing, where it is of the reflog alone
abbrev pub written_in : RefLog → Option Target → Option (Option Target)
written_in AndReference value = Some value
written_in Only value = None

-- what a change writes, if it isn't for the reflog alone: a value, or none
abbrev pub written : Change → Option (Option Target)
written (Update log expected new) = written_in log.mode (Some new)
written (Delete expected log) = written_in log None

-- the references with this value at a name, where one is written
abbrev pub put : Names → List ℕ → Option (Option Target) → Names
put names name None = names
put names name (Some value) = with_value names name value

-- the references after an edit
abbrev pub changed : Names → RefEdit → Names
changed names e = put names e.name (written e.change)

-- the references after the edits, in their order
abbrev pub refs_after : Names → List RefEdit → Names
refs_after names [] = names
refs_after names (e ∷ es) = refs_after (changed names e) es
