use Rattle.fetch_update.proofs.Wholes.{accepts_exactly}
use Rattle.fetch_update.proofs.laws.outcomes_accept_exactly.Goals as goal

pub returns : goal.returns
returns c = λ p specs extra mappings o is wet. accepts_exactly p specs extra mappings o is wet
