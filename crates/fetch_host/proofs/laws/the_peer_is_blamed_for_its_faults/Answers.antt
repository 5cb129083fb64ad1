use Rattle.fetch_host.proofs.Blame.{peer_of_fetch, peer_of_shared}
use Rattle.fetch_host.proofs.laws.the_peer_is_blamed_for_its_faults.Goals as goal

pub returns-clause-fetch : goal.returns-clause-fetch
returns-clause-fetch c = peer_of_fetch

pub returns-clause-shared : goal.returns-clause-shared
returns-clause-shared c = peer_of_shared
