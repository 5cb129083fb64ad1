use Rattle.fetch_base.proofs.LineLaws.{splits}
use Rattle.fetch_base.proofs.laws.pieces.splits_exactly.Goals as goal

pub returns : goal.returns
returns c = splits
