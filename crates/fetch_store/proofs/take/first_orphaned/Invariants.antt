use Rattle.std.proofs.Common.{◌≡◌, drop}
use Rattle.std.specs.Prelude.{slice_get}
use Rattle.fetch_store.specs.Missing.{orphaned_in}
use Rattle.fetch_store.proofs.take.first_orphaned.Given as goal

abbrev pub invariant-loop-id : goal.invariant-loop-id
invariant-loop-id l = slice_get (orphaned_in l.held (drop l.id-index l.ids)) 0 ≡ slice_get (orphaned_in l.held l.ids) 0
