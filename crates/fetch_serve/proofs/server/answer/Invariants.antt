use Rattle.std.proofs.Common.{length}
use Rattle.fetch_serve.specs.Parts.{held_by}
use Rattle.fetch_serve.proofs.Answering.{IsAnswering}
use Rattle.fetch_serve.proofs.server.answer.Given as goal

abbrev pub invariant-requests : goal.invariant-requests
invariant-requests l = IsAnswering (held_by l.parts) l.fn.intake l.fn.out.items l.fn.piece l.intake l.out.items l.kept

abbrev pub decreases-requests : goal.decreases-requests
decreases-requests l = length l.intake.pending
