-- What a report tells of a mapping.
use Rattle.std.specs.Prelude.{ℕ, List, [], ◌++◌, codes, decimal, Option, Some, None}
use Rattle.fetch_lines.specs.References.{name_in}
use Rattle.fetch_map.specs.declared.mapping.Mapping.{Mapping}
use Rattle.fetch_lines.specs.declared.listings.reference.Source.{Source}
use Rattle.fetch_lines.specs.declared.listings.reference.Source.TheVariants as sources
use Rattle.fetch_update.specs.declared.mode.TypeChange.{TypeChange}
use Rattle.fetch_update.specs.declared.mode.TypeChange.TheVariants as changes
use Rattle.fetch_update.specs.declared.update.Update.{Update}
use Rattle.fetch_update.specs.Modes.{mode_text}
use Rattle.fetch_base.specs.Digits.{hex_of}

-- a name, or the digits of an id
abbrev pub source_text : Source → List ℕ
source_text (sources.ObjectId id) = hex_of id
source_text (sources.Ref reference) = name_in reference

-- the destination of a mapping, or that it has none
unfoldable pub destination_text : Option (List ℕ) → List ℕ
destination_text None = codes "(none)"
destination_text (Some name) = name

-- A reference that becomes a direct one is told, and no other change.
unfoldable pub type_change_text : Option TypeChange → List ℕ
type_change_text None = []
type_change_text (Some changes.DirectToSymbolic) = []
type_change_text (Some changes.SymbolicToDirect) = codes " [symbolic-to-direct]"

-- `map <index> <source> -> <destination>`
unfoldable pub map_front : ℕ → Mapping → List ℕ
map_front index mapping = codes "map " ++ decimal index ++ codes " " ++ source_text mapping.remote ++ codes " -> "
    ++ destination_text mapping.local

-- `: <mode>`, and the change of type
unfoldable pub map_back : Update → List ℕ
map_back update = codes ": " ++ mode_text update.mode ++ type_change_text update.type_change ++ codes "\n"

-- what became of a mapping
abbrev pub map_line : Update → Mapping → List ℕ
map_line update mapping = map_front update.mapping_index mapping ++ map_back update
