use Rattle.std.proofs.Common.{arith}
use Rattle.fetch_config.proofs.Flat.{emit-step, emit-end}
use Rattle.fetch_lookup.specs.Upstreams.{name_where, is_ambiguous}
use Rattle.fetch_lookup.proofs.Leadings.{told-if}
use Rattle.fetch_lookup.proofs.following.push_ambiguous.Goals as goal

pub loop-leading-preserved : goal.loop-leading-preserved
loop-leading-preserved c =
    emit-step (name_where is_ambiguous) c.args.found.now c.loop-leading.leading-index c.leading-item.result c.loop-leading.names.items _ _ c.loop-leading-test.true c.leading-item.is
    (told-if c.leading-item.result c.loop-leading.names.items _ _ (is_ambiguous c.leading-item.result) c.in_ok-push_if.ensures c.is_ambiguous.ensures) c.loop-leading.invariant

pub returns : goal.returns
returns c = emit-end (name_where is_ambiguous) c.args.found.now c.loop-leading.leading-index c.loop-leading.names.items _ (omega arith) c.loop-leading.invariant
