use Rattle.std.proofs.Common.{◌≡◌, drop}
use Rattle.std.specs.Prelude.{slice_get}
use Rattle.fetch_store.specs.Missing.{unlinked_in}
use Rattle.fetch_store.proofs.take.first_unlinked.Given as goal

abbrev pub invariant-loop-id : goal.invariant-loop-id
invariant-loop-id l = slice_get (unlinked_in l.held l.border (drop l.id-index l.objects)) 0 ≡ slice_get (unlinked_in l.held l.border l.objects) 0
