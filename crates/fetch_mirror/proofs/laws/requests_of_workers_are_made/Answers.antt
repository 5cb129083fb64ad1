use Rattle.fetch_mirror.proofs.AcceptedTerms.{accepted, tells_no_haves}
use Rattle.fetch_mirror.proofs.laws.requests_of_workers_are_made.Goals as goal

pub returns-clause-accepted : goal.returns-clause-accepted
returns-clause-accepted c = accepted

pub returns-clause-noop : goal.returns-clause-noop
returns-clause-noop c = tells_no_haves
