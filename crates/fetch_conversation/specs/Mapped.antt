-- Which references of a remote go where.
use Rattle.std.specs.Prelude.{ℕ, ◌-◌, nat_lt, List, map, slice_get, Option, Some, option_and_then, if◌then◌else◌}
use Rattle.std.specs.List.{filter_map}
use Rattle.std.specs.Option.{option_map}
use Rattle.fetch_base.specs.declared.id.Kind.{Kind}
use Rattle.fetch_specs.specs.declared.found.Match.{Match}
use Rattle.fetch_specs.specs.declared.found.SourceRef.{SourceRef}
use Rattle.fetch_specs.specs.declared.found.SourceRef.TheVariants as matched
use Rattle.fetch_specs.specs.Matches.{mappings_of}
use Rattle.fetch_specs.specs.Specs.{Spec}
use Rattle.fetch_map.specs.declared.mapping.Mapping.{Mapping}
use Rattle.fetch_map.specs.declared.mapping.SpecIndex.{SpecIndex}
use Rattle.fetch_map.specs.declared.mapping.SpecIndex.TheVariants.{ExplicitInRemote, Implicit}
use Rattle.fetch_lines.specs.declared.listings.reference.Ref.{Ref}
use Rattle.fetch_lines.specs.declared.listings.reference.Source.{Source}
use Rattle.fetch_lines.specs.declared.listings.reference.Source.TheVariants as sources
use Rattle.fetch_lines.specs.References.{name_in}

-- what a match takes: an id, or the listed reference at its index
abbrev pub taken_by : List Ref → SourceRef → Option ℕ → Option Source
taken_by refs (matched.ObjectId id) index = Some (sources.ObjectId id)
taken_by refs (matched.FullName name) index = option_map sources.Ref (option_and_then (slice_get refs) index)

-- the refspecs of the remote come before the extra ones
abbrev pub index_among : ℕ → ℕ → SpecIndex
index_among remote index = if nat_lt index remote then ExplicitInRemote index else Implicit (index - remote)

-- the mapping that a match makes
abbrev pub mapping_by : ℕ → List Ref → Match → Option Mapping
mapping_by remote refs m = option_map (λ source. record { remote = source; local = m.rhs; spec_index = index_among remote m.spec_index })
    (taken_by refs m.lhs m.item_index)

-- the mappings of what is listed, by refspecs of which that many are the remote's
unfoldable pub ref_mappings : ℕ → List Spec → Kind → List Ref → List Mapping
ref_mappings remote specs kind refs = filter_map (mapping_by remote refs) (mappings_of specs (map name_in refs) kind)
