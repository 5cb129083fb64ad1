use Rattle.std.proofs.Common.{◌≡◌, replicate}
use Rattle.fetch_mirror.specs.Copying.{fresh}
use Rattle.fetch_mirror.proofs.copying.peers_of.Given as goal

abbrev pub invariant-loop : goal.invariant-loop
invariant-loop l = l.peers.items ≡ replicate l.counter (fresh l.server.served)
