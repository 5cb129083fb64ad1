use Rattle.std.proofs.Common.{◌≡◌}
use Rattle.std.specs.List.{find}
use Rattle.std.specs.Vec.Iter.{into_iter_items}
use Rattle.fetch_lookup.specs.Upstreams.{is_single}
use Rattle.fetch_lookup.proofs.following.single.Given as goal

abbrev pub invariant-loop-leading : goal.invariant-loop-leading
invariant-loop-leading l = record {
  next : (goal.iterator-loop-leading).can_next l.leading-iterator;
  ends : (goal.iterator-loop-leading).is_finite l.leading-iterator;
  same : find is_single (into_iter_items l.leading-iterator) ≡ find is_single l.fn.found.items;
}
