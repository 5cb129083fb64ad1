-- What the matches of refspecs become in a fetch.
use Rattle.std.specs.Prelude.{◌≡◌, ℕ, List, map}
use Rattle.fetch_specs.specs.declared.found.Match.{Match}
use Rattle.fetch_specs.specs.declared.found.SourceRef.{SourceRef}
use Rattle.fetch_specs.specs.declared.found.SourceRef.TheVariants as matched
use Rattle.fetch_map.specs.declared.mapping.Mapping.{Mapping}
use Rattle.fetch_lines.specs.declared.listings.reference.Source.{Source}
use Rattle.fetch_lines.specs.declared.listings.reference.Source.TheVariants as sources
use Rattle.fetch_lines.specs.References.{name_in}
use Rattle.fetch_conversation.specs.Mapped.{index_among}

-- what a refspec matched of a source: the name of the reference, or the id
abbrev pub matched_of : Source → SourceRef
matched_of (sources.Ref reference) = matched.FullName (name_in reference)
matched_of (sources.ObjectId id) = matched.ObjectId id

-- Each match is a mapping, in order: it has the match's source, its destination, and its refspec, of which the first ones
-- are the remote's and the others extra ones.
pub record MapsEach (remote : ℕ) (matches : List Match) (mappings : List Mapping) : Type 0 where
  pub sources : map (λ m. matched_of m.remote) mappings ≡ map (λ m. m.lhs) matches
  pub destinations : map (λ m. m.local) mappings ≡ map (λ m. m.rhs) matches
  pub refspecs : map (λ m. m.spec_index) mappings ≡ map (λ m. index_among remote m.spec_index) matches
