use Rattle.fetch_mirror.proofs.Settles.{nothing_lacks}
use Rattle.fetch_mirror.proofs.laws.packs_of_workers_leave_nothing_missing.Goals as goal

pub returns : goal.returns
returns c = nothing_lacks
