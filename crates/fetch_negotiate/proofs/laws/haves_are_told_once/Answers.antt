use Rattle.fetch_negotiate.proofs.Rounding.{all_told}
use Rattle.fetch_negotiate.proofs.laws.haves_are_told_once.Goals as goal

pub returns-clause-once : goal.returns-clause-once
returns-clause-once c g algorithm tips border rounds are = (all_told g algorithm tips border rounds are).0

pub returns-clause-stored : goal.returns-clause-stored
returns-clause-stored c g algorithm tips border rounds are = (all_told g algorithm tips border rounds are).1
