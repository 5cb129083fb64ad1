use Rattle.fetch_reach.proofs.Leaving.{nothing_missing}
use Rattle.fetch_reach.proofs.laws.whole_packs_leave_nothing_missing.Goals as goal

pub returns : goal.returns
returns c = λ now wants es whole. nothing_missing now es wants whole
