-- References that are made by edits which aren't logged.
use Rattle.std.specs.Prelude.{false, List, ℕ, []}
use Rattle.fetch_refs.specs.declared.edit.Change.TheVariants.{Update}
use Rattle.fetch_refs.specs.declared.edit.PreviousValue.TheVariants.{Any}
use Rattle.fetch_refs.specs.declared.edit.RefEdit.{RefEdit}
use Rattle.fetch_refs.specs.declared.edit.RefLog.TheVariants.{AndReference}
use Rattle.fetch_refs.specs.declared.target.Target.{Target}

-- the edit that puts a reference at its name, whatever is there, and isn't logged
abbrev pub edit_of : List ℕ × Target → RefEdit
edit_of e = record { change = Update (record { mode = AndReference; force_create_reflog = false; message = [] }) Any e.1; name = e.0 }
