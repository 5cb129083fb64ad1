use Rattle.std.proofs.Common.{arith}
use Rattle.std.specs.Option.{option_copied}
use Rattle.fetch_config.specs.Lookups.{values_at}
use Rattle.fetch_config.proofs.Flat.{last-step, last-end}
use Rattle.fetch_config.proofs.lookup.last_at.Goals as goal

pub loop-entry-preserved : goal.loop-entry-preserved
loop-entry-preserved c = last-step (values_at c.args.key.now) c.args.entries.now c.loop-entry.entry-index c.entry-item.result (option_copied c.loop-entry.last) (option_copied c.later-last.result) _ c.loop-entry-test.true c.entry-item.is c.later-last.ensures c.loop-entry.invariant

pub returns : goal.returns
returns c = last-end (values_at c.args.key.now) c.args.entries.now c.loop-entry.entry-index (option_copied c.loop-entry.last) _ (omega arith) c.loop-entry.invariant
