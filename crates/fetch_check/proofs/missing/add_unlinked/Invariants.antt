use Rattle.std.proofs.Common.{◌≡◌, length}
use Rattle.std.specs.FinMap.{entries}
use Rattle.fetch_store.specs.Iter.{left}
use Rattle.fetch_store.specs.Missing.{unlinked_in}
use Rattle.fetch_check.specs.Pairs.{pairs_of, with_pairs}
use Rattle.fetch_check.proofs.missing.add_unlinked.Given as goal

abbrev pub invariant-loop-id : goal.invariant-loop-id
invariant-loop-id l =
    with_pairs l.found (pairs_of (unlinked_in l.store.objects l.border (left l.objects))) ≡ with_pairs l.fn.found (pairs_of (unlinked_in l.store.objects l.border (entries l.store.objects)))

abbrev pub decreases-loop-id : goal.decreases-loop-id
decreases-loop-id l = length (left l.objects)
