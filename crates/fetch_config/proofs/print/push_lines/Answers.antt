use Rattle.std.proofs.Common.{arith}
use Rattle.fetch_config.specs.Print.{entry_text}
use Rattle.fetch_config.proofs.Flat.{emit-step, emit-end}
use Rattle.fetch_config.proofs.print.push_lines.Goals as goal

pub loop-entry-preserved : goal.loop-entry-preserved
loop-entry-preserved c = emit-step entry_text c.args.entries.now c.loop-entry.entry-index c.entry-item.result c.loop-entry.out.items c.push_line.new.out.items _ c.loop-entry-test.true c.entry-item.is c.in_ok-push_line.ensures c.loop-entry.invariant

pub returns : goal.returns
returns c = emit-end entry_text c.args.entries.now c.loop-entry.entry-index c.loop-entry.out.items _ (omega arith) c.loop-entry.invariant
