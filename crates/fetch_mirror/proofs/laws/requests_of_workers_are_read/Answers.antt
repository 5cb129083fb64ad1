use Rattle.fetch_mirror.proofs.FetchRead.{fetch_read}
use Rattle.fetch_mirror.proofs.laws.requests_of_workers_are_read.Goals as goal

pub returns : goal.returns
returns c = fetch_read
