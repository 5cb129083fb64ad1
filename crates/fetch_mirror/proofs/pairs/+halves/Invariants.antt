use Rattle.std.proofs.Common.{length}
use Rattle.fetch_mirror.proofs.pairs.+halves.Given as goal

abbrev pub decreases-for_each_pair_mut : goal.decreases-for_each_pair_mut
decreases-for_each_pair_mut g l = length l.left.now

abbrev pub decreases-join_mut+arg2 : goal.decreases-join_mut+arg2
decreases-join_mut+arg2 g l = length l.front_left.now

abbrev pub decreases-join_mut+arg3 : goal.decreases-join_mut+arg3
decreases-join_mut+arg3 g l = length l.back_left.now
