use Rattle.std.proofs.Common.{[]}
use Rattle.fetch_base.specs.declared.id.ObjectId.TheVariants as ids
use Rattle.fetch_base.proofs.Orders.{cmp_is}
use Rattle.fetch_negotiate.proofs.Onces.{once_added}
use Rattle.fetch_negotiate.proofs.once.each_once.Goals as goal

pub loop-id-preserved : goal.loop-id-preserved
loop-id-preserved c =
    once_added _ c.args.ids.now c.loop-id.id-index (ids.Sha1 []) c.loop-id.once _ c.loop-id-test.true cmp_is c.loop-id.invariant c.in_ok-add.ensures.added
