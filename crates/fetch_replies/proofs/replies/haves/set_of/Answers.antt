use Rattle.std.proofs.Common.{[]}
use Rattle.fetch_base.specs.declared.id.ObjectId.TheVariants as ids
use Rattle.fetch_replies.proofs.KnownIds.{grown_at}
use Rattle.fetch_replies.proofs.replies.haves.set_of.Goals as goal

pub loop-id-preserved : goal.loop-id-preserved
loop-id-preserved c = grown_at _ _ c.args.ids.now c.loop-id.id-index (ids.Sha1 []) c.loop-id-test.true c.loop-id.invariant c.in_ok-insert.ensures.updates
