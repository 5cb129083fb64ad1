-- The packed list: names with ids, by ascending name.
use Rattle.std.specs.Prelude.{ℕ, List, [], ◌∷◌, ◌++◌, Option, Some, None}
use Rattle.std.specs.FinMap as map
use Rattle.std.specs.List.{flat_map}
use Rattle.hex.specs.Hex.{encode_lower}
use Rattle.fetch_base.specs.Id.{bytes_of}
use Rattle.fetch_base.specs.declared.id.ObjectId.{ObjectId}
use Rattle.fetch_refs.specs.declared.edit.Change.{Change}
use Rattle.fetch_refs.specs.declared.edit.Change.TheVariants.{Update, Delete}
use Rattle.fetch_refs.specs.declared.edit.PackedRefs.{PackedRefs}
use Rattle.fetch_refs.specs.declared.edit.PackedRefs.TheVariants as places
use Rattle.fetch_refs.specs.declared.edit.RefEdit.{RefEdit}
use Rattle.fetch_refs.specs.declared.edit.RefLog.{RefLog}
use Rattle.fetch_refs.specs.declared.edit.RefLog.TheVariants as modes
use Rattle.fetch_refs.specs.declared.target.Target.{Target}
use Rattle.fetch_refs.specs.declared.target.Target.TheVariants.{Object, Symbolic}
use Rattle.fetch_refs.specs.Names.{Names, PackedList}
use Rattle.fetch_refs.specs.Slots.{with_slot, over, each}

-- `<hex> SP <name> LF`
abbrev pub packed_line : List ℕ × ObjectId → List ℕ
packed_line e = encode_lower (bytes_of e.1) ++ 32 ∷ e.0 ++ 10 ∷ []

-- the text of the list, a line for each name
abbrev pub packed_text : PackedList → List ℕ
packed_text list = flat_map packed_line (map.entries list)

-- the id of a direct reference
abbrev pub direct_id : Target → Option ObjectId
direct_id (Object id) = Some id
direct_id (Symbolic name) = None

-- all direct references
abbrev pub all_direct : Names → PackedList
all_direct names = over map.empty (each direct_id (map.entries names))

-- what an update puts into the list, if it touches it: an id, or none
abbrev pub packed_by : PackedRefs → Target → Option (Option ObjectId)
packed_by places.Only new = Some (direct_id new)
packed_by places.Never new = None

-- An edit of the reflog alone leaves the list.
abbrev pub packed_in : RefLog → Option (Option ObjectId) → Option (Option ObjectId)
packed_in modes.AndReference value = value
packed_in modes.Only value = None

-- A deletion takes its name out.
abbrev pub packed_value : PackedRefs → Change → Option (Option ObjectId)
packed_value how (Update log expected new) = packed_in log.mode (packed_by how new)
packed_value how (Delete expected log) = packed_in log (Some None)

-- the packed list with this id at a name, or without one, where it is changed
abbrev pub with_packed : PackedList → List ℕ → Option (Option ObjectId) → PackedList
with_packed list name None = list
with_packed list name (Some value) = with_slot list name value

-- the packed list after an edit
abbrev pub packed_changed : PackedRefs → PackedList → RefEdit → PackedList
packed_changed how list e = with_packed list e.name (packed_value how e.change)

-- the packed list after the edits, in their order
abbrev pub packed_after : PackedRefs → PackedList → List RefEdit → PackedList
packed_after how list [] = list
packed_after how list (e ∷ es) = packed_after how (packed_changed how list e) es
