-- Each update has its pair.
use Rattle.std.proofs.Common.{◌≡◌, ℕ, suc, ◌<◌, List, [], ◌∷◌, length, get_or, Option, Some, All, refl, ap, ◌∙◌, arith}
use Rattle.std.specs.List.{slice_get}
use Rattle.std.proofs.lemmas.List.Elements.{All-head, All-tail}
use Rattle.std.proofs.lemmas.Option.{slice_get-get_or}
use Rattle.fetch_specs.specs.Specs.{Spec}
use Rattle.fetch_refs.specs.declared.edit.RefEdit.{RefEdit}
use Rattle.fetch_map.specs.declared.mapping.Mapping.{Mapping}
use Rattle.fetch_update.specs.declared.update.Update.{Update}
use Rattle.fetch_update.specs.Pairs.{onto, pairs_of}

some_in : (ms : List Mapping) (i : ℕ) → i < length ms → (m : Mapping) × (slice_get ms i ≡ Some m)
some_in [] i lt = absurd (omega arith)
some_in (m ∷ ms) i lt = (get_or (m ∷ ms) i m, slice_get-get_or (m ∷ ms) i m lt)

pub one_each : (ms : List Mapping) (specs extra : List Spec) (edits : List RefEdit) (us : List Update) → All (λ u. u.mapping_index < length ms) us → length (pairs_of ms specs extra edits us) ≡ length us
one_each ms specs extra edits [] all = refl
one_each ms specs extra edits (u ∷ us) all =
    let m = some_in ms u.mapping_index (All-head (λ (x : Update). x.mapping_index < length ms) u us all) in
    ap (λ (o : Option Mapping). length (onto specs extra edits u o (pairs_of ms specs extra edits us))) m.1
    ∙ ap suc (one_each ms specs extra edits us (All-tail (λ (x : Update). x.mapping_index < length ms) u us all))
