use Rattle.fetch_remote.proofs.Lasting.{others_stay}
use Rattle.fetch_remote.proofs.laws.other_references_keep_their_values.Goals as goal

pub returns : goal.returns
returns c = others_stay
