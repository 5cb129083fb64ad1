use Rattle.std.proofs.Common.{arith}
use Rattle.fetch_specs.specs.declared.found.Match.{Match}
use Rattle.fetch_config.proofs.Flat.{emit-step, emit-end}
use Rattle.fetch_lookup.specs.Upstreams.{names_of_source}
use Rattle.fetch_lookup.proofs.leading.source_names.Goals as goal

pub loop-item-preserved : goal.loop-item-preserved
loop-item-preserved c =
    emit-step (λ (m : Match). names_of_source m.lhs) c.args.found.now c.loop-item.item-index c.item-item.result c.loop-item.names _ _ c.loop-item-test.true c.item-item.is c.in_ok-push_source.ensures c.loop-item.invariant

pub returns : goal.returns
returns c = emit-end (λ (m : Match). names_of_source m.lhs) c.args.found.now c.loop-item.item-index c.loop-item.names _ (omega arith) c.loop-item.invariant
