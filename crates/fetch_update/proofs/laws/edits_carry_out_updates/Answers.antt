use Rattle.fetch_update.proofs.Wholes.{edits_carry_out}
use Rattle.fetch_update.proofs.laws.edits_carry_out_updates.Goals as goal

pub returns : goal.returns
returns c = λ p specs extra mappings o is. edits_carry_out p specs extra mappings o is
