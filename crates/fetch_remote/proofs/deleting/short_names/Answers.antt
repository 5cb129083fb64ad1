use Rattle.std.proofs.Common.{arith}
use Rattle.fetch_specs.specs.Categories.{shortened}
use Rattle.fetch_refs.specs.Names.{name_cmp}
use Rattle.fetch_remote.proofs.Deletions.{made-step, made-end}
use Rattle.fetch_remote.proofs.deleting.short_names.Goals as goal

pub loop-name-preserved : goal.loop-name-preserved
loop-name-preserved c = made-step name_cmp shortened c.args.names.now c.loop-name.name-index c.name-item.result c.loop-name.short.keys _ _ c.loop-name-test.true c.name-item.is c.in_ok-place_short.ensures c.loop-name.invariant

pub returns : goal.returns
returns c = made-end name_cmp shortened c.args.names.now c.loop-name.name-index c.loop-name.short.keys _ (omega arith) c.loop-name.invariant
