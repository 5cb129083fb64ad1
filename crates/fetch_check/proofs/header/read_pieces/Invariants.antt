use Rattle.std.proofs.Common.{◌-◌, length}
use Rattle.fetch_check.specs.ReadSteps.{AreReadTo}
use Rattle.fetch_check.proofs.header.read_pieces.Given as goal

abbrev pub invariant-pieces : goal.invariant-pieces
invariant-pieces l = AreReadTo l.bytes l.place l.pack.items l.next l.are_full

abbrev pub decreases-pieces : goal.decreases-pieces
decreases-pieces l = length l.bytes - l.next
