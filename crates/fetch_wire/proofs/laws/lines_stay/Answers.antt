use Rattle.fetch_lines.specs.FeedingLaws.{next_stays}
use Rattle.fetch_wire.proofs.laws.lines_stay.Goals as goal

pub returns : goal.returns
returns c = next_stays
