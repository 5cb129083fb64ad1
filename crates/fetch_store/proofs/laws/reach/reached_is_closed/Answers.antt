use Rattle.fetch_store.proofs.Reaching.{reached_closed}
use Rattle.fetch_store.proofs.laws.reach.reached_is_closed.Goals as goal

pub returns : goal.returns
returns c = reached_closed
