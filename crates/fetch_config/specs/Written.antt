-- What a written text says when it is read.
use Rattle.std.specs.Prelude.{◌≡◌, ℕ, Bool, true, ◌&&◌, List, map, None}
use Rattle.std.specs.List.{list_all}
use Rattle.fetch_config.specs.declared.meta.Meta.{Meta}
use Rattle.fetch_config.specs.declared.section.Section.{Section}
use Rattle.fetch_config.specs.Pieces.{is_name, is_key}
use Rattle.fetch_config.specs.Lines.{sections_of, broken_line}

-- The name and the keys of a section obey the grammar.
unfoldable pub is_named : Section → Bool
is_named s = is_name s.name && list_all (λ entry. is_key entry.0) s.entries

-- All sections have names and keys of the grammar.
abbrev pub AreNamed : List Section → Type 0
AreNamed sections = list_all is_named sections ≡ true

-- the same name, subsection and entries, from elsewhere
abbrev pub read_from : Meta → Section → Section
read_from meta s = record s { meta = meta }

-- No line of the text breaks the grammar, and its sections have these names, subsections and entries.
pub record Says (sections : List Section) (text : List ℕ) : Type 0 where
  pub accepted : broken_line text ≡ None
  pub same : (meta : Meta) → sections_of meta text ≡ map (read_from meta) sections
