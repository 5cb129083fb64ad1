use Rattle.fetch_journal.proofs.Connecting.{wants_then}
use Rattle.fetch_journal.proofs.Runs.{run_journal, run_grows}
use Rattle.fetch_journal.proofs.laws.a_shared_repository_only_grows.Goals as goal

pub returns-clause-journal : goal.returns-clause-journal
returns-clause-journal c = run_journal

pub returns-clause-objects : goal.returns-clause-objects
returns-clause-objects c = run_grows

pub returns-clause-wants : goal.returns-clause-wants
returns-clause-wants c = wants_then
