use Rattle.std.proofs.Common.{arith}
use Rattle.fetch_config.specs.Lookups.{values_at}
use Rattle.fetch_config.proofs.Flat.{collect-step, collect-end}
use Rattle.fetch_config.proofs.lookup.collect_at.Goals as goal

pub loop-entry-preserved : goal.loop-entry-preserved
loop-entry-preserved c = collect-step (values_at c.args.key.now) c.args.entries.now c.loop-entry.entry-index c.entry-item.result c.loop-entry.values.items c.collect_one.new.values.items _ c.loop-entry-test.true c.entry-item.is c.in_ok-collect_one.ensures c.loop-entry.invariant

pub returns : goal.returns
returns c = collect-end (values_at c.args.key.now) c.args.entries.now c.loop-entry.entry-index c.loop-entry.values.items _ (omega arith) c.loop-entry.invariant
