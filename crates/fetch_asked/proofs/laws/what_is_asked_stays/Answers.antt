use Rattle.fetch_asked.proofs.Asking.{asked_in-more}
use Rattle.fetch_asked.proofs.laws.what_is_asked_stays.Goals as goal

pub returns : goal.returns
returns c = asked_in-more
