use Rattle.std.proofs.Common.{◌≡◌}
use Rattle.std.specs.Vec.Iter.{into_iter_items}
use Rattle.fetch_pack.specs.Reading.{distinct}
use Rattle.fetch_pack.specs.Places.{ArePlaces}
use Rattle.fetch_pack.proofs.Keeping.{going}
use Rattle.fetch_pack.proofs.kept.first_of_each.Given as goal

abbrev pub invariant-loop-id : goal.invariant-loop-id
invariant-loop-id l = record {
  next : (goal.iterator-loop-id).can_next l.id-iterator;
  ends : (goal.iterator-loop-id).is_finite l.id-iterator;
  same : going l.kept.items (into_iter_items l.id-iterator) ≡ distinct l.fn.entries.items;
  places : ArePlaces l.kept.items l.places;
}
