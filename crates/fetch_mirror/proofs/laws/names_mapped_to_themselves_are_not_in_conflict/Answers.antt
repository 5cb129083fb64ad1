use Rattle.fetch_mirror.proofs.Unconflicted.{all_mapped, share_unconflicted}
use Rattle.fetch_mirror.proofs.laws.names_mapped_to_themselves_are_not_in_conflict.Goals as goal

pub returns-clause-all : goal.returns-clause-all
returns-clause-all c = all_mapped

pub returns-clause-share : goal.returns-clause-share
returns-clause-share c = share_unconflicted
