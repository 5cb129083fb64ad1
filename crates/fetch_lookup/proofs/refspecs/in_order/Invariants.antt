use Rattle.std.proofs.Common.{◌≡◌}
use Rattle.std.specs.Vec.Iter.{into_iter_items}
use Rattle.fetch_lookup.specs.Ordered.{ascending, placed}
use Rattle.fetch_lookup.specs.SpecOrder.{spec_cmp}
use Rattle.fetch_lookup.proofs.refspecs.in_order.Given as goal

abbrev pub invariant-loop-spec : goal.invariant-loop-spec
invariant-loop-spec l = record {
  next : (goal.iterator-loop-spec).can_next l.spec-iterator;
  ends : (goal.iterator-loop-spec).is_finite l.spec-iterator;
  same : placed spec_cmp l.set.keys (into_iter_items l.spec-iterator) ≡ ascending spec_cmp l.fn.specs.items;
}
