-- A configuration without the sections of branches.
use Rattle.std.specs.Prelude.{ℕ, Bool, false, not, ◌&&◌, List, filter, Option}
use Rattle.std.specs.List.{list_any}
use Rattle.std.specs.Option.{option_map_or}
use Rattle.std.specs.Str.{bytes_eq}
use Rattle.fetch_config.specs.Contents.{Contents, with_sections}
use Rattle.fetch_config.specs.Pieces.{is_same_name}
use Rattle.fetch_config.specs.Print.{is_same_origin}
use Rattle.fetch_config.specs.declared.meta.Origin.TheVariants.{Local}
use Rattle.fetch_config.specs.declared.section.Section.{Section}
use Rattle.fetch_lookup.specs.Names.{branch}

-- whether a subsection is one of these names
abbrev pub is_one_of : List (List ℕ) → Option (List ℕ) → Bool
is_one_of names sub = option_map_or (λ sub. list_any (bytes_eq sub) names) sub false

-- a local section `branch "<name>"` of one of these names
abbrev pub is_branch_of : List (List ℕ) → Section → Bool
is_branch_of names s = is_same_name s.name branch && is_same_origin s.meta.source Local && is_one_of names s.sub

-- whether there are sections of these branches
unfoldable pub has_branches : List (List ℕ) → List Section → Bool
has_branches names sections = list_any (is_branch_of names) sections

-- Those sections go, and the others stay.
unfoldable pub without_branches : List (List ℕ) → Contents → Contents
without_branches names file = with_sections file (filter (λ s. not (is_branch_of names s)) file.sections)
