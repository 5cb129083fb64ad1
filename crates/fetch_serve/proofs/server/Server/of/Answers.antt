use Rattle.std.proofs.Common.{false, arith}
use Rattle.fetch_asked.proofs.Asking.{nothing_yet}
use Rattle.fetch_serve.proofs.server.Server.of.Goals as goal

pub invariant_of-result : goal.invariant_of-result
invariant_of-result c = rw c.new.ensures (record { servable = c.requires; hash = c.kind.ensures.kind; within = omega arith; awaiting = (0, nothing_yet _ false) })
