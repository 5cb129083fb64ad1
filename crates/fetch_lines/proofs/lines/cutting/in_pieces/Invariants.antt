use Rattle.std.proofs.Common.{◌≡◌, ◌++◌, length}
use Rattle.fetch_lines.specs.Cutting.{in_pieces}
use Rattle.fetch_lines.proofs.lines.cutting.in_pieces.Given as goal

abbrev pub invariant-pieces : goal.invariant-pieces
invariant-pieces l = l.pieces.items ++ in_pieces l.size l.rest ≡ in_pieces l.size l.bytes

abbrev pub decreases-pieces : goal.decreases-pieces
decreases-pieces l = length l.rest
