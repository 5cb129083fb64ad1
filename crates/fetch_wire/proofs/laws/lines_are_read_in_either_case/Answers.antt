use Rattle.fetch_lines.specs.WrittenLaws.{is-line_at}
use Rattle.fetch_wire.proofs.laws.lines_are_read_in_either_case.Goals as goal

pub returns : goal.returns
returns c = is-line_at
