use Rattle.fetch_negotiate.specs.Any.{known_by}
use Rattle.fetch_negotiate.specs.Reading.{IsTold}
use Rattle.graph_rows.proofs.negotiating.told.Given as goal

abbrev pub invariant-loop : goal.invariant-loop
invariant-loop g l = IsTold (known_by l.negotiator) (g.O.Objects.graph l.objects)
