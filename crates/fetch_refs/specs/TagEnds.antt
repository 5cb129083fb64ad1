-- Where tags end, as it is kept.
use Rattle.std.specs.Prelude.{◌≡◌, List, Some, None}
use Rattle.std.specs.Map.{lookup}
use Rattle.std.specs.Ordering.{eq_by_cmp}
use Rattle.fetch_store.specs.Graph.{Graph}
use Rattle.fetch_base.specs.Id.{id_cmp}
use Rattle.fetch_base.specs.declared.id.ObjectId.{ObjectId}
use Rattle.fetch_refs.specs.Leading.{Leads, next_tag}

-- Stored tags lead from the id to the end, at which no tag is stored.
abbrev pub EndsAt : Graph → ObjectId → ObjectId → Type 0
EndsAt graph id end = (way : List ObjectId) × Leads (next_tag graph) id way end × (next_tag graph end ≡ None)

-- The tags from each id that is kept end at what is kept beside it.
abbrev pub AreEnds : Graph → List (ObjectId × ObjectId) → Type 0
AreEnds graph ends = (id end : ObjectId) → lookup (eq_by_cmp id_cmp id) ends ≡ Some end → EndsAt graph id end
