use Rattle.std.proofs.Common.{length}
use Rattle.fetch_refs.specs.ReadSteps.{AreCheckedTo}
use Rattle.fetch_refs.proofs.reading.first_refused.Given as goal

abbrev pub invariant-lines : goal.invariant-lines
invariant-lines l = AreCheckedTo l.kind l.text l.rest l.last

abbrev pub decreases-lines : goal.decreases-lines
decreases-lines l = length l.rest
