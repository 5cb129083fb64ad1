use Rattle.std.proofs.Common.{[]}
use Rattle.fetch_base.specs.declared.id.ObjectId.TheVariants as ids
use Rattle.fetch_base.proofs.Orders.{cmp_is}
use Rattle.fetch_replies.proofs.KnownIds.{once_at}
use Rattle.fetch_replies.proofs.replies.haves.each_once.Goals as goal

pub loop-id-preserved : goal.loop-id-preserved
loop-id-preserved c = once_at _ _ _ c.args.ids.now c.loop-id.id-index (ids.Sha1 []) cmp_is c.loop-id-test.true c.loop-id.invariant c.in_ok-add.ensures.added
