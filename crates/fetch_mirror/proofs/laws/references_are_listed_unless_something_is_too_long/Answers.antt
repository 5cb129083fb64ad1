use Rattle.fetch_mirror.proofs.ListsAll.{lister_lists, worker_lists}
use Rattle.fetch_mirror.proofs.laws.references_are_listed_unless_something_is_too_long.Goals as goal

pub returns-clause-lister : goal.returns-clause-lister
returns-clause-lister c = lister_lists

pub returns-clause-worker : goal.returns-clause-worker
returns-clause-worker c = worker_lists
