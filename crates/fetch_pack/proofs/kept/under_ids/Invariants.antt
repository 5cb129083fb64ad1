use Rattle.std.proofs.Common.{◌≡◌, ◌+◌, ◌++◌, drop, length}
use Rattle.std.specs.Vec.Iter.{into_iter_items}
use Rattle.fetch_pack.specs.Reading.{paired}
use Rattle.fetch_pack.proofs.kept.under_ids.Given as goal

abbrev pub invariant-loop-object : goal.invariant-loop-object
invariant-loop-object l = record {
  next : (goal.iterator-loop-object).can_next l.object-iterator;
  ends : (goal.iterator-loop-object).is_finite l.object-iterator;
  left : l.i + length (into_iter_items l.object-iterator) ≡ length l.ids;
  same : l.entries.items ++ paired (drop l.i l.ids) (into_iter_items l.object-iterator) ≡ paired l.ids l.fn.objects.items;
}
