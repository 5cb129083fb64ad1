-- What a configuration can keep: no value has a NUL, and no subsection a NUL or a line feed.
use Rattle.std.specs.Prelude.{◌≡◌, ℕ, Bool, true, not, ◌&&◌, ◌||◌, ◌==◌, List, Option}
use Rattle.std.specs.List.{list_all}
use Rattle.std.specs.Option.{option_map_or}
use Rattle.fetch_config.specs.declared.section.Section.{Section}

-- whether a byte is NUL
abbrev pub is_nul : ℕ → Bool
is_nul c = c == 0

-- whether a byte is NUL or a line feed
abbrev pub is_nul_or_feed : ℕ → Bool
is_nul_or_feed c = c == 0 || c == 10

-- whether a value can be kept: it has no NUL
abbrev pub is_kept_value : Option (List ℕ) → Bool
is_kept_value value = option_map_or (λ text. list_all (λ c. not (is_nul c)) text) value true

-- whether a subsection can be kept: it has no NUL and no line feed
abbrev pub is_kept_sub : Option (List ℕ) → Bool
is_kept_sub sub = option_map_or (λ text. list_all (λ c. not (is_nul_or_feed c)) text) sub true

-- whether an entry can be kept
abbrev pub is_kept_entry : List ℕ × Option (List ℕ) → Bool
is_kept_entry entry = is_kept_value entry.1

-- whether a section can be kept
unfoldable pub is_kept : Section → Bool
is_kept s = is_kept_sub s.sub && list_all is_kept_entry s.entries

-- All sections can be kept.
abbrev pub AreKept : List Section → Type 0
AreKept sections = list_all is_kept sections ≡ true
