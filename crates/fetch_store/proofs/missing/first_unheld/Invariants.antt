use Rattle.std.proofs.Common.{◌≡◌, drop}
use Rattle.std.specs.Prelude.{slice_get}
use Rattle.fetch_store.specs.Missing.{unheld_in}
use Rattle.fetch_store.proofs.missing.first_unheld.Given as goal

abbrev pub invariant-loop-id : goal.invariant-loop-id
invariant-loop-id g l = slice_get (unheld_in (g.H.Held.objects l.held) (drop l.id-index l.ids)) 0 ≡ slice_get (unheld_in (g.H.Held.objects l.held) l.ids) 0
