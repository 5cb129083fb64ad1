use Rattle.fetch_asked.proofs.Asking.{asked_in-one, asked_in-begun}
use Rattle.fetch_asked.proofs.laws.requests_come_one_by_one.Goals as goal

pub returns-clause-first : goal.returns-clause-first
returns-clause-first c = asked_in-one

pub returns-clause-begun : goal.returns-clause-begun
returns-clause-begun c = asked_in-begun
