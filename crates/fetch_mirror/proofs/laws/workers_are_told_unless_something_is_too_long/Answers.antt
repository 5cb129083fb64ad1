use Rattle.fetch_mirror.proofs.WorkerUnrefused.{listed_always, received_always}
use Rattle.fetch_mirror.proofs.laws.workers_are_told_unless_something_is_too_long.Goals as goal

pub returns-clause-listed : goal.returns-clause-listed
returns-clause-listed c = listed_always

pub returns-clause-received : goal.returns-clause-received
returns-clause-received c = received_always
