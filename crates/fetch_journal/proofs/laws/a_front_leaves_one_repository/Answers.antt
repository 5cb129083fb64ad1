use Rattle.fetch_journal.proofs.Fronts.{one_state}
use Rattle.fetch_journal.proofs.laws.a_front_leaves_one_repository.Goals as goal

pub returns : goal.returns
returns c = one_state
