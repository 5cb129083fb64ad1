-- What is told of edits that aren't made.
use Rattle.std.specs.Prelude.{◌≡◌, ◌<◌, ◌⊎◌, List, length, Some, option_map, slice_get, ⊤}
use Rattle.fetch_refs.specs.declared.edit.RefEdit.{RefEdit}
use Rattle.fetch_refs.specs.declared.error.RefError.{RefError}
use Rattle.fetch_refs.specs.declared.error.RefError.TheVariants as causes
use Rattle.fetch_journal.specs.declared.error.SharedError.{SharedError}
use Rattle.fetch_journal.specs.declared.error.SharedError.TheVariants.{EditReferences, NoMemory}

-- the place that is told is that of an edit
abbrev pub IsOf : List RefEdit → RefError → Type 0
IsOf edits (causes.Expectation index found) = index < length edits
IsOf edits cause = ⊤

-- the name of the edit at that place, with what was found; else out of memory, which may come for this too
abbrev pub IsTold : List RefEdit → RefError → SharedError → Type 0
IsTold edits (causes.Expectation index found) e = (e ≡ NoMemory)
    ⊎ (option_map (λ edit. EditReferences edit.name found) (slice_get edits index) ≡ Some e)
IsTold edits cause e = e ≡ NoMemory
