use Rattle.fetch_store.proofs.Unclosed.{closed_none, none_closed, empty_closed}
use Rattle.fetch_store.proofs.laws.closed.closed_is_nothing_missing.Goals as goal

pub returns-clause-exact : goal.returns-clause-exact
returns-clause-exact c h = (closed_none h, none_closed h)

pub returns-clause-empty : goal.returns-clause-empty
returns-clause-empty c = empty_closed
