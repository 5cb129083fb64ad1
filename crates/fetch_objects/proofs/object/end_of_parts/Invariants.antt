use Rattle.std.proofs.Common.{◌≡◌, ◌≤◌, length}
use Rattle.fetch_objects.specs.Objects.{reading, reading_of}
use Rattle.fetch_objects.proofs.object.end_of_parts.Given as goal

abbrev pub invariant-loop-step : goal.invariant-loop-step
invariant-loop-step l = record {
  expected : (reading l.hash l.expected l.rest).expected ≡ (reading_of l.hash l.fn.kind l.bytes).expected;
  rest : (reading l.hash l.expected l.rest).rest ≡ (reading_of l.hash l.fn.kind l.bytes).rest;
  within : length l.rest ≤ length l.bytes;
}

abbrev pub decreases-loop-step : goal.decreases-loop-step
decreases-loop-step l = length l.rest
