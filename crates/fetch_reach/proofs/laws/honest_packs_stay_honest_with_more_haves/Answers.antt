use Rattle.fetch_reach.proofs.Leaving.{still_honest}
use Rattle.fetch_reach.proofs.laws.honest_packs_stay_honest_with_more_haves.Goals as goal

pub returns : goal.returns
returns c = λ r haves pack more honest. still_honest r haves pack more honest
