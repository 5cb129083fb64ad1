use Rattle.fetch_update.proofs.Wholes.{edits_say}
use Rattle.fetch_update.proofs.laws.edits_say_their_rows.Goals as goal

pub returns : goal.returns
returns c = λ p specs extra mappings o is. edits_say p specs extra mappings o is
