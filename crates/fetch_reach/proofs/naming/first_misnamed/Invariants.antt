use Rattle.std.proofs.Common.{◌≡◌, ◌++◌, length, All}
use Rattle.std.specs.FinMap.{entries}
use Rattle.fetch_store.specs.Iter.{left}
use Rattle.fetch_store.specs.Stores.{Entries}
use Rattle.fetch_reach.proofs.OwnIds.{IsOwn}
use Rattle.fetch_reach.proofs.naming.first_misnamed.Given as goal

abbrev pub invariant-loop-id : goal.invariant-loop-id
invariant-loop-id l = record {
  before : Entries;
  split : entries l.store.objects ≡ before ++ left l.objects;
  own : All IsOwn before;
}

abbrev pub decreases-loop-id : goal.decreases-loop-id
decreases-loop-id l = length (left l.objects)
