-- The text of the packed list, entry by entry, and whether edits change it.
use Rattle.std.specs.Prelude.{ℕ, Bool, true, false, List, [], Option, Some, None}
use Rattle.std.specs.FinMap as map
use Rattle.std.specs.Ordering.{eq_by_cmp}
use Rattle.fetch_base.specs.Id.{id_cmp}
use Rattle.fetch_base.specs.declared.id.ObjectId.{ObjectId}
use Rattle.fetch_refs.specs.declared.undo.Undo.{Undo}
use Rattle.fetch_refs.specs.declared.undo.Undo.TheVariants as undos
use Rattle.fetch_refs.specs.Names.{PackedList}
use Rattle.fetch_refs.specs.Packed.{packed_line}

-- the line of a name that the list has
abbrev pub line_if : List ℕ → Option ObjectId → List ℕ
line_if name None = []
line_if name (Some id) = packed_line (name, id)

-- whether two ids that may be missing are the same
abbrev pub same_option : Option ObjectId → Option ObjectId → Bool
same_option None None = true
same_option (Some a) (Some b) = eq_by_cmp id_cmp a b
same_option None (Some b) = false
same_option (Some a) None = false

-- whether the list has at a changed name what it had
abbrev pub keeps_packed : PackedList → Undo → Bool
keeps_packed list (undos.Target name old) = same_option (map.get list name) old.packed
keeps_packed list (undos.Line name left) = true
keeps_packed list (undos.Lines name old) = true

-- the text after edits: another one where the list changed
abbrev pub text_after : List ℕ → Option (List ℕ) → List ℕ
text_after text None = text
text_after text (Some other) = other
