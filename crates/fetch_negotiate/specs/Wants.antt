-- Which ids a fetch asks for.
use Rattle.std.specs.Prelude.{Bool, true, false, not, ◌&&◌, List, Option, Some, None, if◌then◌else◌}
use Rattle.std.specs.FinMap as map
use Rattle.std.specs.List.{filter_map, slice_get}
use Rattle.std.specs.Option.{option_and_then, option_map_or}
use Rattle.fetch_base.specs.declared.id.ObjectId.{ObjectId}
use Rattle.fetch_store.specs.Graph.{Graph}
use Rattle.fetch_specs.specs.Specs.{Spec}
use Rattle.fetch_specs.specs.Tagged.{is_tag_spec}
use Rattle.fetch_specs.specs.declared.tags.Tags.{Tags}
use Rattle.fetch_map.specs.declared.mapping.Mapping.{Mapping}
use Rattle.fetch_map.specs.declared.mapping.RefMap.{RefMap}
use Rattle.fetch_map.specs.declared.mapping.SpecIndex.{SpecIndex}
use Rattle.fetch_map.specs.declared.mapping.SpecIndex.TheVariants.{ExplicitInRemote, Implicit}
use Rattle.fetch_lines.specs.References.{source_id}
use Rattle.fetch_negotiate.specs.declared.algorithm.Shallow.{Shallow}
use Rattle.fetch_negotiate.specs.declared.algorithm.Shallow.TheVariants.{NoChange}
use Rattle.fetch_negotiate.specs.Lists.{firsts}
use Rattle.fetch_negotiate.specs.Requests.{is_included}

-- whether an extra refspec made a mapping, and it is that of the tags
abbrev pub is_tag_index : SpecIndex → List Spec → Bool
is_tag_index (ExplicitInRemote index) extra = false
is_tag_index (Implicit index) extra = option_map_or is_tag_spec (slice_get extra index) false

-- whether an id is asked for: one that isn't stored, or any where the depth is to change
abbrev pub is_wanted : Shallow → Graph → ObjectId → Bool
is_wanted NoChange g id = not (map.contains_key g id)
is_wanted _ g id = true

-- what a mapping asks for
abbrev pub want_in : Tags → Shallow → Graph → List Spec → Mapping → Option ObjectId
want_in tags shallow g extra m =
    if is_included tags && is_tag_index m.spec_index extra then None
    else option_and_then (λ id. if is_wanted shallow g id then Some id else None) (source_id m.remote)

-- The ids of the mappings, in their order and each once. The tags that come with the history, and what is stored,
-- are left out.
unfoldable pub wants_of : RefMap → Tags → Shallow → Graph → List ObjectId
wants_of m tags shallow g = firsts (filter_map (want_in tags shallow g m.extra_refspecs) m.mappings)
