use Rattle.fetch_remote.proofs.Lasting.{fetched_alike}
use Rattle.fetch_remote.proofs.laws.packed_and_loose_fetches_leave_the_same.Goals as goal

pub returns : goal.returns
returns c = fetched_alike
