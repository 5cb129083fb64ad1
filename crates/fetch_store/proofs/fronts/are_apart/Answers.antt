use Rattle.std.proofs.Common.{sym, ◌∙◌}
use Rattle.fetch_store.proofs.FrontPlaces.{distinct_if}
use Rattle.fetch_store.proofs.fronts.are_apart.Goals as goal

pub returns : goal.returns
returns c = λ apart. distinct_if c.args.objects.now c.in_ok-places.places (λ v. v.items) c.in_ok-places.ensures (sym c.is_some.ensures ∙ apart)
