use Rattle.fetch_mirror.proofs.ListerRefused.{unlisted_so}
use Rattle.fetch_mirror.proofs.laws.servers_are_listed_unless_too_long.Goals as goal

pub returns : goal.returns
returns c = unlisted_so
