use Rattle.fetch_serve.proofs.Peering.{said_first}
use Rattle.fetch_serve.proofs.peer.ServerPeer.new.Goals as goal

pub invariant_of-result : goal.invariant_of-result
invariant_of-result c = rw c.new.ensures (said_first c.args.server c.requires)
