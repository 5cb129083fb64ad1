use Rattle.std.proofs.Common.{arith}
use Rattle.std.specs.Option.{option_map}
use Rattle.fetch_config.specs.Lookups.{values_at}
use Rattle.fetch_config.proofs.Flat.{text-step, text-end}
use Rattle.fetch_config.proofs.lookup.last_text_at.Goals as goal

pub loop-entry-preserved : goal.loop-entry-preserved
loop-entry-preserved c = text-step (values_at c.args.key.now) c.args.entries.now c.loop-entry.entry-index c.entry-item.result (option_map (λ v. v.now) c.loop-entry.last) (option_map (λ v. v.now) c.later_text-last.result) _ c.loop-entry-test.true c.entry-item.is c.later_text-last.ensures c.loop-entry.invariant

pub returns : goal.returns
returns c = text-end (values_at c.args.key.now) c.args.entries.now c.loop-entry.entry-index (option_map (λ v. v.now) c.loop-entry.last) _ (omega arith) c.loop-entry.invariant
