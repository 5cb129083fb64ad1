use Rattle.fetch_update.proofs.Wholes.{rejects_exactly}
use Rattle.fetch_update.proofs.laws.outcomes_reject_exactly.Goals as goal

pub returns : goal.returns
returns c = λ p specs extra mappings o is. rejects_exactly p specs extra mappings o is
