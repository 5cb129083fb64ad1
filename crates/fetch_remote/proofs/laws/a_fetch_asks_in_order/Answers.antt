use Rattle.fetch_remote.proofs.Ordered.{asks_in_order}
use Rattle.fetch_remote.proofs.laws.a_fetch_asks_in_order.Goals as goal

pub returns : goal.returns
returns c = asks_in_order
