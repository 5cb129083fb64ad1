use Rattle.fetch_check.proofs.Putting.{is_loaded, not_refused}
use Rattle.fetch_check.proofs.laws.what_is_saved_is_loaded.Goals as goal

pub returns-clause-loaded : goal.returns-clause-loaded
returns-clause-loaded c = is_loaded

pub returns-clause-none : goal.returns-clause-none
returns-clause-none c = not_refused
