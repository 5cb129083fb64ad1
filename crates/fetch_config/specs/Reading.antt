-- The sections that a reader has after some lines.
use Rattle.std.specs.Prelude.{ℕ, Bool, true, false, List, [], ◌∷◌, ◌++◌, Option, Some, None}
use Rattle.fetch_config.specs.declared.line.Line.{Line}
use Rattle.fetch_config.specs.declared.line.Line.TheVariants.{Nothing, Header, Entry}
use Rattle.fetch_config.specs.declared.meta.Meta.{Meta}
use Rattle.fetch_config.specs.declared.section.Section.{Section}
use Rattle.fetch_config.specs.Lines.{EntryList}

-- more entries for the last section
abbrev pub with_entries : List Section → EntryList → List Section
with_entries [] entries = []
with_entries (s ∷ []) entries = record s { entries = s.entries ++ entries } ∷ []
with_entries (s ∷ t ∷ ss) entries = s ∷ with_entries (t ∷ ss) entries

-- a section without entries
abbrev pub empty_section : Meta → List ℕ → Option (List ℕ) → Section
empty_section meta name sub = record { name = name; sub = sub; meta = meta; entries = [] }

-- one line more
abbrev pub after_line : Meta → List Section → Option Line → List Section
after_line meta ss None = ss
after_line meta ss (Some Nothing) = ss
after_line meta ss (Some (Header name sub)) = ss ++ empty_section meta name sub ∷ []
after_line meta ss (Some (Entry key value)) = with_entries ss ((key, value) ∷ [])

-- whether a header was met
abbrev pub is_opened : List Section → Bool
is_opened [] = false
is_opened (s ∷ ss) = true
