-- The places of the names that a packed text has.
use Rattle.std.specs.Prelude.{◌≡◌, ℕ, List, [], ◌++◌, Some, None}
use Rattle.std.specs.List.{AllByRecursion, flat_map, last_or}
use Rattle.std.specs.List.Sorted.{IsStrictlySortedBy}
use Rattle.std.specs.Map.{keys_of}
use Rattle.std.specs.Option.{option_map_or}
use Rattle.fetch_base.specs.declared.id.Kind.{Kind}
use Rattle.fetch_base.specs.declared.id.ObjectId.{ObjectId}
use Rattle.fetch_refs.specs.declared.slot.Slot.{Slot}
use Rattle.fetch_refs.specs.declared.target.Target.TheVariants.{Object}
use Rattle.fetch_refs.specs.Names.{name_cmp}
use Rattle.fetch_refs.specs.Packed.{packed_line}
use Rattle.fetch_refs.specs.Reading.{IsEntry}
use Rattle.fetch_refs.specs.Slots.{each}

-- the place of a direct reference that the packed list has
abbrev pub direct_slot : ObjectId → Slot
direct_slot id = record { value = Some (Object id); packed = Some id }

-- the places of entries
abbrev pub slots_of : List (List ℕ × ObjectId) → List (List ℕ × Slot)
slots_of es = each direct_slot es

-- ascending entries
pub record AreAscending (kind : Kind) (es : List (List ℕ × ObjectId)) : Type 0 where
  pub entries : AllByRecursion (IsEntry kind) es
  pub ascending : IsStrictlySortedBy name_cmp (keys_of es)

-- the lines of ascending entries stand before the rest, and these are the places of their names
pub record AreReadTo (kind : Kind) (text rest : List ℕ) (places : List (List ℕ × Slot)) : Type 0 where
  pub list : List (List ℕ × ObjectId)
  pub all : AreAscending kind list
  pub whole : text ≡ flat_map packed_line list ++ rest
  pub slots : places ≡ slots_of list

-- the name of the last place, or no bytes where there is none
abbrev pub last_name : List (List ℕ × Slot) → List ℕ
last_name places = option_map_or (λ (e : List ℕ × Slot). e.0) (last_or None places) []

-- the lines of ascending entries stand before the rest, and the last of them has this name
pub record AreCheckedTo (kind : Kind) (text rest last : List ℕ) : Type 0 where
  pub places : List (List ℕ × Slot)
  pub read : AreReadTo kind text rest places
  pub name : last ≡ last_name places

-- the whole text is read
abbrev pub AreRead : Kind → List ℕ → List (List ℕ × Slot) → Type 0
AreRead kind text places = AreReadTo kind text [] places
