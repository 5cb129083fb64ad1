use Rattle.std.proofs.Common.{◌≡◌, ◌++◌, length}
use Rattle.std.specs.List.{filter_map, slice_get}
use Rattle.std.specs.Option.{option_or}
use Rattle.fetch_objects.specs.Objects.{reading, parent_in, seconds_in, parents_of, seconds_of}
use Rattle.fetch_objects.proofs.object.read_parts.Given as goal

abbrev pub invariant-loop-step : goal.invariant-loop-step
invariant-loop-step l = record {
  parents : l.parents ++ filter_map parent_in (reading l.object.hash l.expected l.rest).parts ≡ parents_of l.object.hash l.object.kind l.object.bytes.now;
  seconds : option_or l.seconds (slice_get (filter_map seconds_in (reading l.object.hash l.expected l.rest).parts) 0) ≡ seconds_of l.object.hash l.object.kind l.object.bytes.now;
}

abbrev pub decreases-loop-step : goal.decreases-loop-step
decreases-loop-step l = length l.rest
