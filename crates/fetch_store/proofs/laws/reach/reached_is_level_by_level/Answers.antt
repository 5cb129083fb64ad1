use Rattle.fetch_store.proofs.Spreading.{within_none, within_more, within_some, reached_some}
use Rattle.fetch_store.proofs.laws.reach.reached_is_level_by_level.Goals as goal

pub returns-clause-begins : goal.returns-clause-begins
returns-clause-begins c = within_none

pub returns-clause-more : goal.returns-clause-more
returns-clause-more c = within_more

pub returns-clause-unlimited : goal.returns-clause-unlimited
returns-clause-unlimited c = within_some

pub returns-clause-reached : goal.returns-clause-reached
returns-clause-reached c = reached_some
