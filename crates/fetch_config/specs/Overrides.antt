-- What an override says.
use Rattle.std.specs.Prelude.{◌≡◌, ℕ, true, ◌&&◌, if◌then◌else◌, List, [], ◌∷◌, position, Option, Some, None, is_some, IsTrue}
use Rattle.std.specs.Option.{option_map_or}
use Rattle.fetch_base.specs.Scan.{◌>>=◌, split_first, split_last}
use Rattle.fetch_config.specs.declared.error.ConfigError.{ConfigError}
use Rattle.fetch_config.specs.declared.error.ConfigError.TheVariants.{Syntax, BadValue, InvalidKey, NoMemory}
use Rattle.fetch_config.specs.declared.meta.Meta.{Meta}
use Rattle.fetch_config.specs.declared.meta.Origin.TheVariants as origins
use Rattle.fetch_config.specs.declared.section.Section.{Section}
use Rattle.fetch_config.specs.Pieces.{is_name, is_key}
use Rattle.fetch_config.specs.Kept.{is_nul, is_nul_or_feed}

-- the path before the first `=`, and the value after it, if there is one
abbrev pub path_and_value : List ℕ → List ℕ × Option (List ℕ)
path_and_value text = option_map_or (λ p. (p.0, Some p.1)) (split_first 61 text) (text, None)

-- where a section of the caller comes from
abbrev pub api_meta : Meta
api_meta = record { source = origins.Api; level = 0; path = None; trusted = true }

-- the section of an override, where name and key are in the grammar
abbrev pub override_section : List ℕ → Option (List ℕ) → List ℕ → Option (List ℕ) → Option Section
override_section name sub key value =
    if is_name name && is_key key then Some (record { name = name; sub = sub; meta = api_meta; entries = (key, value) ∷ [] }) else None

-- `section.key` or `section.subsection.key`, divided at the first and the last dot
abbrev pub section_at : List ℕ → Option (List ℕ) → Option Section
section_at path value = do
  first ← split_first 46 path
  option_map_or (λ last. override_section first.0 (Some last.0) last.1 value) (split_last 46 first.1)
      (override_section first.0 None first.1 value)

-- The section that an override adds. None: it has no `section.key` before its first `=`.
unfoldable pub override_of : List ℕ → Option Section
override_of text = let parts = path_and_value text in section_at parts.0 parts.1

-- the first byte that can't be kept
unfoldable pub unkept_place : List ℕ → Option ℕ
unkept_place text = let path = (path_and_value text).0 in option_map_or (λ place. Some place) (position is_nul_or_feed path)
    (position is_nul text)

-- Why an override is refused: it has no key, also where it has a NUL; where it has one, its first byte that can't be kept; or out of
-- memory.
abbrev pub IsOverrideRefusal : List ℕ → ConfigError → Type 0
IsOverrideRefusal text (Syntax line) = ⊥
IsOverrideRefusal text (BadValue place) = IsTrue (is_some (override_of text)) × (unkept_place text ≡ Some place)
IsOverrideRefusal text (InvalidKey told) = (override_of text ≡ None) × (told ≡ text)
IsOverrideRefusal text NoMemory = Unit {0}
