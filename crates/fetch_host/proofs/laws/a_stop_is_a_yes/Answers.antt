use Rattle.fetch_host.proofs.Blame.{stop_of_fetch, stop_of_shared}
use Rattle.fetch_host.proofs.laws.a_stop_is_a_yes.Goals as goal

pub returns-clause-fetch : goal.returns-clause-fetch
returns-clause-fetch c = stop_of_fetch

pub returns-clause-shared : goal.returns-clause-shared
returns-clause-shared c = stop_of_shared
