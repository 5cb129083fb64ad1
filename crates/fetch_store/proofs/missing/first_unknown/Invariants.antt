use Rattle.std.proofs.Common.{◌≡◌, drop}
use Rattle.std.specs.Prelude.{slice_get}
use Rattle.fetch_store.specs.Missing.{unknown_in}
use Rattle.fetch_store.proofs.missing.first_unknown.Given as goal

abbrev pub invariant-loop-id : goal.invariant-loop-id
invariant-loop-id g l = slice_get (unknown_in (g.H.Held.objects l.held) (drop l.id-index l.ids)) 0 ≡ slice_get (unknown_in (g.H.Held.objects l.held) l.ids) 0
