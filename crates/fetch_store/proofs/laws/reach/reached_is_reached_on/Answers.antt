use Rattle.fetch_store.proofs.Honesty.{reached_stored}
use Rattle.fetch_store.proofs.Reaching.{reached_on, reached_more, reached_start, reached_next}
use Rattle.fetch_store.proofs.laws.reach.reached_is_reached_on.Goals as goal

pub returns-clause-transitive : goal.returns-clause-transitive
returns-clause-transitive c = reached_on

pub returns-clause-grows : goal.returns-clause-grows
returns-clause-grows c = reached_more

pub returns-clause-begins : goal.returns-clause-begins
returns-clause-begins c = reached_start

pub returns-clause-links : goal.returns-clause-links
returns-clause-links c = reached_next

pub returns-clause-stored : goal.returns-clause-stored
returns-clause-stored c = reached_stored
