use Rattle.fetch_lines.specs.LineLaws.{line_at-is}
use Rattle.fetch_wire.proofs.laws.lines_are_read_as_written.Goals as goal

pub returns : goal.returns
returns c = line_at-is
