use Rattle.fetch_mirror.proofs.OwnMatches.{own_matches}
use Rattle.fetch_mirror.proofs.laws.shares_map_names_to_themselves.Goals as goal

pub returns : goal.returns
returns c = own_matches
