use Rattle.std.proofs.Common.{btree_set_len}
use Rattle.fetch_negotiate.proofs.Walks.{IsChoosing}
use Rattle.fetch_negotiate.proofs.walk.choose.Given as goal

abbrev pub invariant-loop-rank : goal.invariant-loop-rank
invariant-loop-rank l = IsChoosing l.fn.walk l.walk

abbrev pub decreases-loop-rank : goal.decreases-loop-rank
decreases-loop-rank l = btree_set_len l.walk.frontier.queue
