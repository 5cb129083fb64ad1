use Rattle.fetch_base.proofs.LastLaws.{splits_last}
use Rattle.fetch_base.proofs.laws.pieces.splits_last_exactly.Goals as goal

pub returns : goal.returns
returns c = splits_last
