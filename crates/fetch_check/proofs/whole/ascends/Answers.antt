use Rattle.std.proofs.Common.{refl, arith}
use Rattle.fetch_check.proofs.Above.{not_rising, rise_all}
use Rattle.fetch_check.proofs.whole.ascends.Goals as goal

pub returns-then-not-is_below : goal.returns-then-not-is_below
returns-then-not-is_below c = (
  λ here. absurd (let h = here in cc),
  λ s. absurd (not_rising c.args.objects.now c.ids.place c.index-objects-place.result c.index-objects-place-in-ids.result c.is_below.result (omega arith) (omega arith) c.index-objects-place.is c.index-objects-place-in-ids.is c.is_below.ensures
      c.if-not-is_below.true s),
)

pub returns : goal.returns
returns c = (λ _. rise_all c.args.objects.now c.ids.place (omega arith) c.ids.invariant, λ _. refl)
