use Rattle.fetch_remote.proofs.DeletedTwice.{again}
use Rattle.fetch_remote.proofs.laws.a_second_deletion_changes_nothing.Goals as goal

pub returns : goal.returns
returns c = again
