-- How the references of a scene are put in place.
use Rattle.std.specs.Prelude.{false, []}
use Rattle.fetch_refs.specs.declared.edit.Change.TheVariants.{Update}
use Rattle.fetch_refs.specs.declared.edit.PreviousValue.TheVariants.{Any}
use Rattle.fetch_refs.specs.declared.edit.RefEdit.{RefEdit}
use Rattle.fetch_refs.specs.declared.edit.RefLog.TheVariants.{AndReference}
use Rattle.fetch_scene.specs.declared.references.Reference.{Reference}

-- the edit that puts a reference at its name, whatever is there, and isn't logged
abbrev pub edit_of : Reference → RefEdit
edit_of r = record {
  change = Update (record { mode = AndReference; force_create_reflog = false; message = [] }) Any r.target;
  name = r.name;
}
