use Rattle.std.proofs.Common.{◌≡◌, length}
use Rattle.std.specs.List.{filter_map, slice_get}
use Rattle.fetch_objects.specs.Objects.{reading, seconds_in, seconds_of}
use Rattle.fetch_objects.proofs.object.ObjectRef.committed.Given as goal

abbrev pub invariant-loop-step : goal.invariant-loop-step
invariant-loop-step l = slice_get (filter_map seconds_in (reading l.self.hash l.expected l.rest).parts) 0 ≡ seconds_of l.self.hash l.self.kind l.self.bytes.now

abbrev pub decreases-loop-step : goal.decreases-loop-step
decreases-loop-step l = length l.rest
