-- A configuration in which sections take the place of those of the same name and subsection.
use Rattle.std.specs.Prelude.{Bool, not, ◌&&◌, List, ◌++◌, filter}
use Rattle.std.specs.List.{list_any}
use Rattle.fetch_config.specs.Contents.{Contents, with_sections}
use Rattle.fetch_config.specs.Lookups.{is_same_sub}
use Rattle.fetch_config.specs.Pieces.{is_same_name}
use Rattle.fetch_config.specs.declared.section.Section.{Section}

-- whether two sections have one name and subsection
abbrev pub is_like : Section → Section → Bool
is_like s other = is_same_name s.name other.name && is_same_sub s.sub other.sub

-- whether one of these sections has the name and the subsection
abbrev pub is_replaced : List Section → Section → Bool
is_replaced news s = list_any (is_like s) news

-- Those that are replaced go.
unfoldable pub without_replaced : List Section → Contents → Contents
without_replaced news file = with_sections file (filter (λ s. not (is_replaced news s)) file.sections)

-- Those that are replaced go, and the new ones stand after the others.
unfoldable pub replaced : List Section → Contents → Contents
replaced news file = with_sections file (filter (λ s. not (is_replaced news s)) file.sections ++ news)
