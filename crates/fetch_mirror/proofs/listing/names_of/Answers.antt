use Rattle.fetch_conversation.proofs.Mappings.{one_more}
use Rattle.fetch_mirror.proofs.listing.names_of.Goals as goal

pub loop-reference-preserved : goal.loop-reference-preserved
loop-reference-preserved c = one_more _ c.args.refs.now _ c.reference-item.result _ _ c.loop-reference-test.true c.reference-item.is c.loop-reference.invariant c.in_ok-add_name.ensures
