use Rattle.fetch_journal.proofs.Runs.{after_allowed, after_refused}
use Rattle.fetch_journal.proofs.laws.a_refused_event_changes_nothing.Goals as goal

pub returns-clause-refused : goal.returns-clause-refused
returns-clause-refused c = after_refused

pub returns-clause-allowed : goal.returns-clause-allowed
returns-clause-allowed c = after_allowed
