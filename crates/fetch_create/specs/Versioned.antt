-- The configuration of a repository that is of another hash from now on.
use Rattle.std.specs.Prelude.{ℕ, Bool, not, ◌&&◌, if◌then◌else◌, List, [], ◌∷◌, ◌++◌, map, filter, position, Option, Some, None, codes}
use Rattle.fetch_base.specs.declared.id.Kind.{Kind}
use Rattle.fetch_base.specs.declared.id.Kind.TheVariants as hashes
use Rattle.fetch_config.specs.Contents.{Contents, with_sections, on_section, with_entry, without_key}
use Rattle.fetch_config.specs.Lookups.{is_same_sub}
use Rattle.fetch_config.specs.Pieces.{is_same_name}
use Rattle.fetch_config.specs.declared.meta.Meta.{Meta}
use Rattle.fetch_config.specs.declared.section.Section.{Section}

-- whether a section has this name, and no subsection
abbrev pub is_plain : List ℕ → Section → Bool
is_plain name s = is_same_name s.name name && is_same_sub s.sub None

-- a section of this name without entries
abbrev pub empty_section : Meta → List ℕ → Section
empty_section meta name = record { name = name; sub = None; meta = meta; entries = [] }

-- a section without a key, where it has this name
abbrev pub cleared_of : List ℕ → List ℕ → Section → Section
cleared_of name key s = if is_plain name s then without_key key s else s

-- A key goes from all sections of this name.
unfoldable pub without_setting : List ℕ → List ℕ → Contents → Contents
without_setting name key file = with_sections file (map (cleared_of name key) file.sections)

-- one entry more at the end of the section in this place, or of a new one behind all others
abbrev pub placed : Option ℕ → Section → List ℕ × Option (List ℕ) → List Section → List Section
placed None new entry sections = sections ++ with_entry entry new ∷ []
placed (Some index) new entry sections = on_section index (with_entry entry) sections

-- The first section of this name ends with the entry, or a new one does.
unfoldable pub with_setting : List ℕ → List ℕ → List ℕ → Contents → Contents
with_setting name key value file = with_sections file
    (placed (position (is_plain name) file.sections) (empty_section file.meta name) (key, Some value) file.sections)

-- A key has this value, in the first section of this name, and stands nowhere else in sections of the name.
unfoldable pub with_only : List ℕ → List ℕ → List ℕ → Contents → Contents
with_only name key value file = with_setting name key value (without_setting name key file)

-- All sections of this name go.
unfoldable pub without_sections : List ℕ → Contents → Contents
without_sections name file = with_sections file (filter (λ s. not (is_plain name s)) file.sections)

-- SHA-1 is what the first version of the format means, and no extension stays. Any other hash is an extension of the next
-- version.
unfoldable pub versioned : Kind → Contents → Contents
versioned hashes.Sha1 file = without_sections (codes "extensions")
    (with_only (codes "core") (codes "repositoryformatversion") (codes "0") file)
versioned hashes.Sha256 file = with_only (codes "extensions") (codes "objectformat") (codes "sha256")
    (with_only (codes "core") (codes "repositoryformatversion") (codes "1") file)
