use Rattle.std.proofs.Common.{◌≡◌, length}
use Rattle.fetch_objects.specs.References.{ids_left}
use Rattle.fetch_objects.proofs.object.LinksIterator.next.Given as goal

abbrev pub invariant-loop-step : goal.invariant-loop-step
invariant-loop-step l = ids_left l.self ≡ ids_left l.initial.self

abbrev pub decreases-loop-step : goal.decreases-loop-step
decreases-loop-step l = length l.self.rest.now
