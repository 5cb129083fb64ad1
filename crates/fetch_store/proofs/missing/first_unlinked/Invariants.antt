use Rattle.std.proofs.Common.{◌≡◌, length}
use Rattle.std.specs.Prelude.{slice_get}
use Rattle.std.specs.FinMap.{entries}
use Rattle.fetch_store.specs.Iter.{left}
use Rattle.fetch_store.specs.Missing.{unlinked_in}
use Rattle.fetch_store.proofs.missing.first_unlinked.Given as goal

abbrev pub invariant-loop-id : goal.invariant-loop-id
invariant-loop-id l = slice_get (unlinked_in l.store.objects l.border (left l.objects)) 0 ≡ slice_get (unlinked_in l.store.objects l.border (entries l.store.objects)) 0

abbrev pub decreases-loop-id : goal.decreases-loop-id
decreases-loop-id l = length (left l.objects)
