use Rattle.std.proofs.Common.{arith}
use Rattle.fetch_config.specs.Print.{value_byte}
use Rattle.fetch_config.proofs.Flat.{emit-byte, emit-end}
use Rattle.fetch_config.proofs.print.push_escaped.Goals as goal

pub loop-c-preserved : goal.loop-c-preserved
loop-c-preserved c = emit-byte value_byte c.args.text.now c.loop-c.c-index c.loop-c.out.items c.push_value_byte.new.out.items _ c.loop-c-test.true c.in_ok-push_value_byte.ensures c.loop-c.invariant

pub returns : goal.returns
returns c = emit-end value_byte c.args.text.now c.loop-c.c-index c.loop-c.out.items _ (omega arith) c.loop-c.invariant
