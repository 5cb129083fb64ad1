use Rattle.std.proofs.Common.{◌≡◌, [], replicate}
use Rattle.fetch_mirror.proofs.sharing.empty_shares.Given as goal

abbrev pub invariant-loop : goal.invariant-loop
invariant-loop l = l.shares.items ≡ replicate l.counter []
