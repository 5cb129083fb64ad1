-- The lines of a journal: what each entry did, at its place. The signature of a commit isn't told.
use Rattle.std.specs.Prelude.{ℕ, ◌+◌, List, [], ◌∷◌, ◌++◌, codes, decimal}
use Rattle.std.specs.List.{flat_map}
use Rattle.fetch_base.specs.declared.id.ObjectId.{ObjectId}
use Rattle.fetch_refs.specs.declared.edit.Change.{Change}
use Rattle.fetch_refs.specs.declared.edit.Change.TheVariants as changes
use Rattle.fetch_refs.specs.declared.edit.RefEdit.{RefEdit}
use Rattle.fetch_refs.specs.declared.edit.RefLog.{RefLog}
use Rattle.fetch_refs.specs.declared.edit.RefLog.TheVariants.{AndReference, Only}
use Rattle.fetch_refs.specs.declared.target.Target.{Target}
use Rattle.fetch_base.specs.Digits.{hex_of}
use Rattle.fetch_cli.specs.ReportLines.{target_text}
use Rattle.fetch_journal.specs.declared.entry.Entry.{Entry}
use Rattle.fetch_journal.specs.declared.entry.Entry.TheVariants as entries

-- what was done, at which place, and the number of the pass that did it
unfoldable pub entry_line : List ℕ → ℕ → ℕ → List ℕ
entry_line word place pass = word ++ codes " " ++ decimal place ++ codes " " ++ decimal pass ++ codes "\n"

-- an id of a pack, of those that entered the border, or of those that left it
unfoldable pub taken_line : List ℕ → ObjectId → List ℕ
taken_line word id = word ++ codes " " ++ hex_of id ++ codes "\n"

-- the lines of a pack that was taken: its ids, and what it says of the border
unfoldable pub taken_lines : List ObjectId → List ObjectId → List ObjectId → List ℕ
taken_lines ids shallow unshallow = flat_map (taken_line (codes "has")) ids ++ flat_map (taken_line (codes "shallow")) shallow
    ++ flat_map (taken_line (codes "unshallow")) unshallow

-- a reference that was moved, and where to
unfoldable pub set_line : List ℕ → Target → List ℕ
set_line name target = codes "set " ++ name ++ codes " " ++ target_text target ++ codes "\n"

-- a reference that was deleted
unfoldable pub gone_line : List ℕ → List ℕ
gone_line name = codes "gone " ++ name ++ codes "\n"

-- An edit of the reflog alone leaves what stood at its name, and has no line.
abbrev pub if_reference : RefLog → List ℕ → List ℕ
if_reference AndReference line = line
if_reference Only line = []

-- what a change leaves at this name
abbrev pub change_line : List ℕ → Change → List ℕ
change_line name (changes.Update log expected new) = if_reference log.mode (set_line name new)
change_line name (changes.Delete expected log) = if_reference log (gone_line name)

-- what an edit leaves at its name
unfoldable pub edit_line : RefEdit → List ℕ
edit_line edit = change_line edit.name edit.change

-- an entry at this place, with the lines of what it did
unfoldable pub entry_lines : ℕ → Entry → List ℕ
entry_lines place (entries.Take pass ids shallow unshallow) = entry_line (codes "take") place pass ++ taken_lines ids shallow unshallow
entry_lines place (entries.Commit pass edits committer) = entry_line (codes "commit") place pass ++ flat_map edit_line edits
entry_lines place (entries.Delete pass names) = entry_line (codes "delete") place pass ++ flat_map gone_line names

-- entries from this place on
abbrev pub journal_lines : ℕ → List Entry → List ℕ
journal_lines place [] = []
journal_lines place (entry ∷ entries) = entry_lines place entry ++ journal_lines (place + 1) entries
