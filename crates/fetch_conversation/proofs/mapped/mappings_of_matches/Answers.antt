use Rattle.fetch_conversation.proofs.Mappings.{one_more}
use Rattle.fetch_conversation.proofs.mapped.mappings_of_matches.Goals as goal

pub loop-found-preserved : goal.loop-found-preserved
loop-found-preserved c = one_more _ c.args.matches.now _ c.found-item.result _ _ c.loop-found-test.true c.found-item.is c.loop-found.invariant c.in_ok-add_mapping.ensures
