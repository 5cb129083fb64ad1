use Rattle.fetch_refs.proofs.LastEdits.{last_edit}
use Rattle.fetch_refs.proofs.laws.the_last_edit_stands.Goals as goal

pub returns : goal.returns
returns c = last_edit
