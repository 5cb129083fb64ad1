use Rattle.fetch_lines.proofs.Cut.{are_the_bytes}
use Rattle.fetch_wire.proofs.laws.pieces_are_the_bytes.Goals as goal

pub returns : goal.returns
returns c = are_the_bytes
