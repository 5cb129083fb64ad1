use Rattle.std.proofs.Common.{take}
use Rattle.fetch_negotiate.proofs.Onces.{IsOnce}
use Rattle.fetch_negotiate.proofs.once.each_once.Given as goal

abbrev pub invariant-loop-id : goal.invariant-loop-id
invariant-loop-id l = IsOnce (take l.id-index l.ids) l.once
