use Rattle.std.proofs.Common.{ap, map, subst, ◌∙◌}
use Rattle.std.specs.FinMap.{entries}
use Rattle.std.specs.List.Sorted.{IsStrictlySortedBy}
use Rattle.fetch_store.specs.Stores.{map_of}
use Rattle.fetch_base.specs.Id.{id_cmp}
use Rattle.fetch_check.proofs.Stocked.{entries_are}
use Rattle.fetch_check.proofs.reading.whole_bundle.Goals as goal

pub returns-clause-objects : goal.returns-clause-objects
returns-clause-objects c =
    c.in_ok-objects.ensures ∙ ap (λ m. entries m) (c.in_ok-store.ensures.objects ∙ ap map_of c.into_vec.ensures)
    ∙ entries_are c.args.pack.objects (subst (λ es. IsStrictlySortedBy id_cmp (map (λ e. e.0) es)) c.as_slice.ensures (c.ascends.ensures.0 c.if-not-ascends.false))
