use Rattle.fetch_journal.proofs.Runs.{run_closed}
use Rattle.fetch_journal.proofs.laws.a_shared_repository_stays_closed.Goals as goal

pub returns : goal.returns
returns c = run_closed
