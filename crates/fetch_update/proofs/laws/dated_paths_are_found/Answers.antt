use Rattle.fetch_update.proofs.Aheads.{ahead_is}
use Rattle.fetch_update.proofs.laws.dated_paths_are_found.Goals as goal

pub returns : goal.returns
returns c = ahead_is
