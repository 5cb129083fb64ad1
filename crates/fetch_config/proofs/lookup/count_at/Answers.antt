use Rattle.std.proofs.Common.{arith}
use Rattle.fetch_config.specs.Lookups.{values_at}
use Rattle.fetch_config.proofs.Flat.{count-step, count-end}
use Rattle.fetch_config.proofs.lookup.count_at.Goals as goal

pub loop-entry-preserved : goal.loop-entry-preserved
loop-entry-preserved c = (count-step (values_at c.args.key.now) c.args.entries.now c.loop-entry.entry-index c.entry-item.result c.loop-entry.count c.count_one-count.result _ c.loop-entry-test.true c.entry-item.is c.count_one-count.ensures c.loop-entry.invariant.0, omega (arith, c.count_one-count.ensures))

pub returns : goal.returns
returns c = count-end (values_at c.args.key.now) c.args.entries.now c.loop-entry.entry-index c.loop-entry.count _ (omega arith) c.loop-entry.invariant.1 c.loop-entry.invariant.0
