-- What references are kept in, and what takes an edit back.
use Rattle.std.specs.Prelude.{◌≡◌, ℕ, Bool, true, ◌&&◌, ◌||◌, if◌then◌else◌, List, [], ◌∷◌, Option, Some, None, is_some, take}
use Rattle.std.specs.BTreeMap.{is_at}
use Rattle.std.specs.FinMap as finmap
use Rattle.std.specs.Map.{lookup}
use Rattle.std.specs.Option.{option_and_then}
use Rattle.fetch_base.specs.declared.id.ObjectId.{ObjectId}
use Rattle.fetch_refs.specs.declared.contents.Contents.{Contents}
use Rattle.fetch_refs.specs.declared.slot.Slot.{Slot}
use Rattle.fetch_refs.specs.declared.slot.Listed.{Listed}
use Rattle.fetch_refs.specs.declared.slot.Listed.TheVariants as lists
use Rattle.fetch_refs.specs.declared.target.Target.{Target}
use Rattle.fetch_refs.specs.declared.undo.Undo.{Undo}
use Rattle.fetch_refs.specs.declared.undo.Undo.TheVariants as undos
use Rattle.fetch_refs.specs.Logs.{lines_of}
use Rattle.fetch_refs.specs.Names.{Names, PackedList, RefsValue, name_cmp}
use Rattle.fetch_refs.specs.Packed.{direct_id}
use Rattle.fetch_refs.specs.Overlay.{logs_of, with_lines}
use Rattle.fetch_refs.specs.Slots.{with_slot, over, each}

-- the value at a place
abbrev pub value_of : Slot → Option Target
value_of s = s.value

-- the id that the packed list has at a place
abbrev pub packed_of : Slot → Option ObjectId
packed_of s = s.packed

-- the place after all direct references are packed
abbrev pub packed_slot : Slot → Slot
packed_slot s = record { value = s.value; packed = option_and_then direct_id s.value }

-- the place without its entry in the packed list
abbrev pub loose_slot : Slot → Slot
loose_slot s = record { value = s.value; packed = None }

-- whether a place holds anything
abbrev pub is_held : Slot → Bool
is_held s = is_some s.value || is_some s.packed

-- the place, unless it holds nothing
abbrev pub held : Slot → Option Slot
held s = if is_held s then Some s else None

-- the id that a list has for a place: the packed list, or that of direct references
abbrev pub listed : Listed → Slot → Option ObjectId
listed lists.Packed s = s.packed
listed lists.Direct s = option_and_then direct_id s.value

-- the values that stand
abbrev pub names_of : List (List ℕ × Slot) → Names
names_of es = over finmap.empty (each value_of es)

-- the packed list
abbrev pub list_of : List (List ℕ × Slot) → PackedList
list_of es = over finmap.empty (each packed_of es)

-- the references and reflogs that are kept
abbrev pub shown_in : Contents → RefsValue
shown_in c = record { hash = c.hash; names = names_of c.names.entries; logs = logs_of c.logs.entries; packed = list_of c.names.entries }

-- whether the name has a place
abbrev pub has_name : Contents → List ℕ → Bool
has_name c name = is_some (lookup (is_at (name_cmp name)) c.names.entries)

-- whether the name has a place for its reflog
abbrev pub has_log : Contents → List ℕ → Bool
has_log c name = is_some (lookup (is_at (name_cmp name)) c.logs.entries)

-- each name that has a place keeps it
abbrev pub KeepsPlaces : Contents → Contents → Type 0
KeepsPlaces c d = ((q : List ℕ) → has_name c q ≡ true → has_name d q ≡ true) × ((q : List ℕ) → has_log c q ≡ true → has_log d q ≡ true)

-- whether a change can be taken back without memory
abbrev pub has_place : Contents → Undo → Bool
has_place c (undos.Target name old) = has_name c name
has_place c (undos.Line name left) = true
has_place c (undos.Lines name old) = has_log c name

-- each change can be taken back in place
abbrev pub has_room : Contents → List Undo → Bool
has_room c [] = true
has_room c (u ∷ us) = has_place c u && has_room c us

-- with what a place holds
abbrev pub with_slot_in : RefsValue → List ℕ → Slot → RefsValue
with_slot_in r name s = record {
  hash = r.hash;
  names = with_slot r.names name s.value;
  logs = r.logs;
  packed = with_slot r.packed name s.packed;
}

-- with these lines at a name
abbrev pub with_lines_in : RefsValue → List ℕ → List Rattle.fetch_refs.specs.declared.log.LogLine.LogLine → RefsValue
with_lines_in r name ls = record { hash = r.hash; names = r.names; logs = with_lines r.logs name ls; packed = r.packed }

-- references and reflogs without a change
abbrev pub undone : Undo → RefsValue → RefsValue
undone (undos.Target name old) r = with_slot_in r name old
undone (undos.Line name left) r = with_lines_in r name (take left (lines_of r.logs name))
undone (undos.Lines name old) r = with_lines_in r name old

-- references and reflogs without these changes, of which the last was made last
abbrev pub unwound : List Undo → RefsValue → RefsValue
unwound [] r = r
unwound (u ∷ us) r = undone u (unwound us r)

-- a change was made that this takes back, and without memory
pub record TakesBack (before after : Contents) (u : Undo) : Type 0 where
  pub shown : undone u (shown_in after) ≡ shown_in before
  pub place : has_place after u ≡ true

-- the same, where there may have been nothing to change
abbrev pub TakesBackIf : Contents → Contents → Option Undo → Type 0
TakesBackIf before after None = shown_in after ≡ shown_in before
TakesBackIf before after (Some u) = TakesBack before after u
