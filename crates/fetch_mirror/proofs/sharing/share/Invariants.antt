use Rattle.fetch_mirror.proofs.Dealing.{AreDealt}
use Rattle.fetch_mirror.proofs.sharing.share.Given as goal

abbrev pub invariant-loop-i : goal.invariant-loop-i
invariant-loop-i l = AreDealt l.count l.i l.names l.shares.items
