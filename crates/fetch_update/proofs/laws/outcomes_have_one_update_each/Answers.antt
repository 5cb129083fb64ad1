use Rattle.fetch_update.proofs.Wholes.{one_each}
use Rattle.fetch_update.proofs.laws.outcomes_have_one_update_each.Goals as goal

pub returns : goal.returns
returns c = λ p specs extra mappings o is. one_each p specs extra mappings o is
