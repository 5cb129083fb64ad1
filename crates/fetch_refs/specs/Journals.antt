-- Edits that are made in place.
use Rattle.std.specs.Prelude.{◌≡◌, ℕ, true, List, Option}
use Rattle.fetch_refs.specs.Packed.{packed_text}
use Rattle.fetch_refs.specs.Packing.{text_after}
use Rattle.fetch_refs.specs.declared.journal.Journal.{Journal}
use Rattle.fetch_refs.specs.Contents.{shown_in, has_room, unwound}
use Rattle.fetch_refs.specs.Names.{RefsValue}

-- the references before all changes, and after them
abbrev pub before : Journal → RefsValue
before j = unwound j.undo.items (shown_in j.contents)

-- the references of a journal, with all its edits
abbrev pub now_in : Journal → RefsValue
now_in j = shown_in j.contents

-- These are the texts of the packed list before and after the changes, the second where it is another one.
pub record HasTexts (j : Journal) (text : List ℕ) (changed : Option (List ℕ)) : Type 0 where
  pub first : text ≡ packed_text (before j).packed
  pub second : text_after text changed ≡ packed_text (now_in j).packed

-- Each change can be taken back without memory.
abbrev pub HasRoom : Journal → Type 0
HasRoom j = has_room j.contents j.undo.items ≡ true
