use Rattle.fetch_init.proofs.NamedRefs.{one-more}
use Rattle.fetch_init.proofs.named_ref.taken.Goals as goal

pub loop-mapping-preserved : goal.loop-mapping-preserved
loop-mapping-preserved c = one-more c.args.wanted.now c.args.mappings.now _ c.mapping-item.result _ _ c.loop-mapping-test.true c.mapping-item.is c.loop-mapping.invariant c.in_ok-push_taken.ensures
