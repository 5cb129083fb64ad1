use Rattle.std.proofs.Common.{◌≡◌, ◌-◌, ◌≤◌, None, length, take}
use Rattle.fetch_serve.specs.Servings.{Takes}
use Rattle.fetch_serve.proofs.peer.hear.Given as goal

abbrev pub invariant-bytes : goal.invariant-bytes
invariant-bytes l = record {
  within : l.count ≤ length l.bytes;
  takes : Takes l.fn.server (take l.count l.bytes) l.server None;
  going : l.server.refusal ≡ None;
}

abbrev pub decreases-bytes : goal.decreases-bytes
decreases-bytes l = length l.bytes - l.count
