use Rattle.fetch_remote.proofs.Mapped.{every_match}
use Rattle.fetch_remote.proofs.laws.every_match_is_mapped.Goals as goal

pub returns : goal.returns
returns c = every_match
