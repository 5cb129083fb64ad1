use Rattle.std.proofs.Common.{subst}
use Rattle.fetch_store.specs.Fronts.{Rise}
use Rattle.fetch_store.proofs.FrontPlaces.{sorted}
use Rattle.fetch_store.proofs.fronts.places_by_front.Goals as goal

pub returns-then-rises : goal.returns-then-rises
returns-then-rises c =
    let rise = subst Rise c.as_slice.ensures.value (c.rises.ensures c.if-rises.true) in
    sorted c.args.objects.now c.in_ok-places.places.items c.sort_unstable_by_key.new.self.items c.in_ok-places.ensures.len c.in_ok-places.ensures.each c.sort_unstable_by_key.ensures.permutation rise
