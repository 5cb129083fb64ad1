use Rattle.std.proofs.Common.{◌≡◌, ◌++◌, take}
use Rattle.fetch_serve.proofs.peer.with_each.Given as goal

abbrev pub invariant-loop-byte : goal.invariant-loop-byte
invariant-loop-byte l = l.all.values ≡ l.heard.values ++ take l.byte-index l.bytes
