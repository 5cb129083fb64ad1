use Rattle.fetch_lookup.proofs.Followed.{followed}
use Rattle.fetch_lookup.proofs.laws.an_upstream_is_mapped_to_its_tracking_branch.Goals as goal

pub returns : goal.returns
returns c = followed
