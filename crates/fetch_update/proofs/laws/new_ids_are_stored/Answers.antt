use Rattle.fetch_update.proofs.Wholes.{new_ids_stored}
use Rattle.fetch_update.proofs.laws.new_ids_are_stored.Goals as goal

pub returns : goal.returns
returns c = λ p specs extra mappings o is wet. new_ids_stored p specs extra mappings o is wet
