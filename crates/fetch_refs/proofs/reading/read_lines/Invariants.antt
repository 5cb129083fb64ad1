use Rattle.std.proofs.Common.{length}
use Rattle.fetch_refs.specs.ReadSteps.{AreReadTo}
use Rattle.fetch_refs.proofs.reading.read_lines.Given as goal

abbrev pub invariant-lines : goal.invariant-lines
invariant-lines l = AreReadTo l.kind l.text l.rest l.names.entries

abbrev pub decreases-lines : goal.decreases-lines
decreases-lines l = length l.rest
