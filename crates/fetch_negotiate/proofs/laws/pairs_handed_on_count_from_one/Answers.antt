use Rattle.fetch_negotiate.proofs.Passed.{pairs_count}
use Rattle.fetch_negotiate.proofs.laws.pairs_handed_on_count_from_one.Goals as goal

pub returns : goal.returns
returns c g n = pairs_count g n
