-- Updates beside what they come from.
use Rattle.std.specs.Prelude.{List, [], ◌∷◌, Option, Some, None}
use Rattle.std.specs.Borrow.{Bor}
use Rattle.std.specs.List.{slice_get}
use Rattle.std.specs.Option.{option_and_then, option_copied}
use Rattle.fetch_specs.specs.Specs.{Spec}
use Rattle.fetch_refs.specs.declared.edit.RefEdit.{RefEdit}
use Rattle.fetch_map.specs.Mappings.{spec_at}
use Rattle.fetch_map.specs.declared.mapping.Mapping.{Mapping}
use Rattle.fetch_update.specs.declared.pairs.MappingUpdates.{MappingUpdates}
use Rattle.fetch_update.specs.declared.update.Update.{Update}

-- an update, its mapping, the refspec that made it where it is found, and the edit where there is one
abbrev pub Pair : Type 0
Pair = Update × Mapping × Option Spec × Option RefEdit

-- an update with its mapping, refspec and edit
abbrev pub pair_of : List Spec → List Spec → List RefEdit → Update → Mapping → Pair
pair_of specs extra edits u m = (u, m, spec_at m.spec_index specs extra, option_and_then (λ i. slice_get edits i) u.edit_index)

-- a pair in front of others, where the mapping is there
abbrev pub onto : List Spec → List Spec → List RefEdit → Update → Option Mapping → List Pair → List Pair
onto specs extra edits u None rest = []
onto specs extra edits u (Some m) rest = pair_of specs extra edits u m ∷ rest

-- the updates in order, each beside the mapping at its index, as far as there is one
abbrev pub pairs_of : List Mapping → List Spec → List Spec → List RefEdit → List Update → List Pair
pairs_of mappings specs extra edits [] = []
pairs_of mappings specs extra edits (u ∷ us) =
    onto specs extra edits u (slice_get mappings u.mapping_index) (pairs_of mappings specs extra edits us)

-- the pairs that are still to come
abbrev pub left : MappingUpdates → List Pair
left it = pairs_of it.mappings.now it.refspecs.now it.extra_refspecs.now it.edits.now it.updates.now

-- what an item shows
abbrev pub shown : Bor Update × Bor Mapping × Option (Bor Spec) × Option (Bor RefEdit) → Pair
shown item = (item.0.now, item.1.now, option_copied item.2, option_copied item.3)
