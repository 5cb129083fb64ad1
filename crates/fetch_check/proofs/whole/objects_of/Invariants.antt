use Rattle.std.proofs.Common.{◌≡◌, ◌++◌, length}
use Rattle.std.specs.FinMap.{entries}
use Rattle.fetch_store.specs.Iter.{left}
use Rattle.fetch_store.specs.Stores.{AreOf}
use Rattle.fetch_check.proofs.whole.objects_of.Given as goal

abbrev pub invariant-objects : goal.invariant-objects
invariant-objects l = record {
  items : l.objects.items ++ left l.stored ≡ entries l.store.objects;
  of_hash : AreOf l.store.hash (left l.stored);
}

abbrev pub decreases-objects : goal.decreases-objects
decreases-objects l = length (left l.stored)
