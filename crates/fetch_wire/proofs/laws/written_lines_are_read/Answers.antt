use Rattle.fetch_lines.specs.WrittenLaws.{written-line_at}
use Rattle.fetch_wire.proofs.laws.written_lines_are_read.Goals as goal

pub returns : goal.returns
returns c = written-line_at
