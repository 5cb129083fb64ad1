use Rattle.std.proofs.Common.{◌≡◌, length}
use Rattle.std.specs.Prelude.{slice_get}
use Rattle.fetch_objects.specs.References.{ids_left}
use Rattle.fetch_store.specs.Missing.{unstored}
use Rattle.fetch_store.proofs.missing.first_unstored.Given as goal

abbrev pub invariant-loop-to : goal.invariant-loop-to
invariant-loop-to g l = slice_get (unstored (g.H.Held.objects l.held) l.from (ids_left l.links)) 0 ≡ slice_get (unstored (g.H.Held.objects l.held) l.from (ids_left l.initial.links)) 0

abbrev pub decreases-loop-to : goal.decreases-loop-to
decreases-loop-to g l = length (ids_left l.links)
