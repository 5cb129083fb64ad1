-- A configuration, and what edits leave.
use Rattle.std.specs.Prelude.{◌≡◌, ℕ, zero, suc, not, List, [], ◌∷◌, ◌++◌, Option, Some}
use Rattle.std.specs.List.{filter}
use Rattle.fetch_config.specs.declared.error.ConfigError.{ConfigError}
use Rattle.fetch_config.specs.declared.error.ConfigError.TheVariants.{Syntax, BadValue, InvalidKey, NoMemory}
use Rattle.fetch_config.specs.declared.meta.Meta.{Meta}
use Rattle.fetch_config.specs.declared.section.Section.{Section}
use Rattle.fetch_config.specs.Pieces.{is_same_name}

-- where it comes from, and its sections in order
pub record Contents : Type 0 where
  pub meta : Meta
  pub sections : List Section

-- a file with these sections
abbrev pub with_sections : Contents → List Section → Contents
with_sections file sections = record { meta = file.meta; sections = sections }

-- the sections with one of them changed
abbrev pub on_section : ℕ → (Section → Section) → List Section → List Section
on_section i f [] = []
on_section zero f (s ∷ ss) = f s ∷ ss
on_section (suc i) f (s ∷ ss) = s ∷ on_section i f ss

-- one more entry, at the end
abbrev pub with_entry : List ℕ × Option (List ℕ) → Section → Section
with_entry entry s = record s { entries = s.entries ++ entry ∷ [] }

-- all entries but those of a key
abbrev pub without_key : List ℕ → Section → Section
without_key key s = record s { entries = filter (λ e. not (is_same_name e.0 key)) s.entries }

-- Why a text is refused: its first broken line, from 1, or out of memory.
abbrev pub IsRefusedAt : Option ℕ → ConfigError → Type 0
IsRefusedAt broken (Syntax line) = broken ≡ Some line
IsRefusedAt broken (BadValue place) = ⊥
IsRefusedAt broken (InvalidKey text) = ⊥
IsRefusedAt broken NoMemory = Unit {0}
