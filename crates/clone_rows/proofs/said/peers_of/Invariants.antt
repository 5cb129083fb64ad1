use Rattle.std.proofs.Common.{◌≡◌, true}
use Rattle.std.specs.List.{list_all}
use Rattle.fetch_remote.specs.Connecting.{is_fresh}
use Rattle.clone_rows.proofs.said.peers_of.Given as goal

abbrev pub invariant-loop-each : goal.invariant-loop-each
invariant-loop-each l = list_all is_fresh l.peers.items ≡ true
