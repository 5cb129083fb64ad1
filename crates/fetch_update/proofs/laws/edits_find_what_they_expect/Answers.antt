use Rattle.fetch_update.proofs.Wholes.{none_refused}
use Rattle.fetch_update.proofs.laws.edits_find_what_they_expect.Goals as goal

pub returns : goal.returns
returns c = λ p specs extra mappings o is. none_refused p specs extra mappings o is
