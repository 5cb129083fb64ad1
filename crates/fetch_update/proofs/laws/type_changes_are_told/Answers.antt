use Rattle.fetch_update.proofs.Wholes.{tells_type_changes}
use Rattle.fetch_update.proofs.laws.type_changes_are_told.Goals as goal

pub returns : goal.returns
returns c = λ p specs extra mappings o is. tells_type_changes p specs extra mappings o is
