use Rattle.fetch_remote.proofs.Lasting.{new_ids_stay}
use Rattle.fetch_remote.proofs.laws.new_ids_are_stored.Goals as goal

pub returns : goal.returns
returns c = new_ids_stay
