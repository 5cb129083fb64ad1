-- The destinations that two sources lead to.
use Rattle.std.specs.Prelude.{◌≡◌, ℕ, nat_lt, Bool, false, if◌then◌else◌, List, [], ◌∷◌, ◌++◌, length, map, filter, Option, Some, None}
use Rattle.std.specs.List.{Contains, list_any, filter_map}
use Rattle.std.specs.Map.{lookup}
use Rattle.std.specs.Cmp.Lexicographic.{slice_cmp}
use Rattle.std.specs.Ordering.{nat_cmp, is_eq}
use Rattle.std.specs.Str.{bytes_eq}
use Rattle.fetch_specs.specs.declared.conflict.Conflict.{Conflict}
use Rattle.fetch_specs.specs.declared.found.SourceRef.{SourceRef}
use Rattle.fetch_specs.specs.declared.found.Match.{Match}
use Rattle.fetch_specs.specs.Matches.{source_key, once}

-- whether two sources are the same; an id and a name never are
abbrev pub is_same_source : SourceRef → SourceRef → Bool
is_same_source a b = bytes_eq (source_key a) (source_key b)

-- whether a destination is there and is this text
abbrev pub is_side : List ℕ → Option (List ℕ) → Bool
is_side text None = false
is_side text (Some side) = bytes_eq text side

-- the sources of a destination, in order, each once
abbrev pub sources_to : List Match → List ℕ → List SourceRef
sources_to ms destination = once is_same_source (map (λ m. m.lhs) (filter (λ m. is_side destination m.rhs) ms))

-- the destinations, in order of first appearance
abbrev pub destinations_of : List Match → List (List ℕ)
destinations_of ms = once bytes_eq (filter_map (λ m. m.rhs) ms)

-- a destination with its sources
abbrev pub sourced : List Match → List ℕ → Conflict
sourced ms destination = record { destination = destination; sources = sources_to ms destination }

-- whether there are two different sources
abbrev pub is_double : Conflict → Bool
is_double c = nat_lt 1 (length c.sources)

-- the destinations that have two different sources
unfoldable pub conflicts_of : List Match → List Conflict
conflicts_of ms = filter is_double (map (sourced ms) (destinations_of ms))

-- Two matches have the destination and their sources differ; the sources are those of all its matches.
pub record IsConflict (ms : List Match) (c : Conflict) : Type 0 where
  pub one : Match
  pub two : Match
  pub first : Contains ms one
  pub second : Contains ms two
  pub leads : one.rhs ≡ Some c.destination
  pub leads_too : two.rhs ≡ Some c.destination
  pub differ : is_same_source one.lhs two.lhs ≡ false
  pub all : c.sources ≡ sources_to ms c.destination

-- one more source, unless the same is there
abbrev pub more_sources : List SourceRef → SourceRef → List SourceRef
more_sources sources source = if list_any (λ s. is_same_source s source) sources then sources else sources ++ source ∷ []

-- whether a match has this destination
abbrev pub has_destination : List Match → List ℕ → Bool
has_destination ms destination = list_any (λ m. is_side destination m.rhs) ms

-- a destination's conflict, where it has two sources
abbrev pub conflict_of : List ℕ → List SourceRef → List Conflict
conflict_of destination sources = if nat_lt 1 (length sources) then record { destination = destination; sources = sources } ∷ [] else []

-- the conflict of a match's destination, unless the matches in front have that destination
abbrev pub conflict_at : List Match → List Match → Option (List ℕ) → List Conflict
conflict_at ms front None = []
conflict_at ms front (Some destination) = if has_destination front destination then []
    else conflict_of destination (sources_to ms destination)

-- no sources where there is no entry
abbrev pub entered : Option (List SourceRef) → List SourceRef
entered None = []
entered (Some sources) = sources

-- the sources that a map has of a destination
abbrev pub sources_at : List (List ℕ × List SourceRef) → List ℕ → List SourceRef
sources_at entries text = entered (lookup (λ t. is_eq (slice_cmp nat_cmp text t)) entries)

-- the conflict that a map has of a destination
abbrev pub conflict_in : List (List ℕ × List SourceRef) → Option (List ℕ) → List Conflict
conflict_in entries None = []
conflict_in entries (Some destination) = conflict_of destination (sources_at entries destination)
