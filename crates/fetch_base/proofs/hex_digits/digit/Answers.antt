-- The table is held against the definition at each of the 256 bytes, by computing.
use Rattle.std.proofs.Common.{refl, arith}
use Rattle.fetch_base.specs.declared.hex_digits.TheConstants.{DIGITS}
use Rattle.fetch_base.proofs.HexTables.{value_at, known, unknown}
use Rattle.fetch_base.proofs.hex_digits.digit.Goals as goal

pub returns-then-value-lt16 : goal.returns-then-value-lt16
returns-then-value-lt16 c = known c.args.c _ (value_at DIGITS 256 c.args.c refl (omega arith)) (omega arith)

pub returns-else-value-lt16 : goal.returns-else-value-lt16
returns-else-value-lt16 c = unknown c.args.c _ (value_at DIGITS 256 c.args.c refl (omega arith)) (omega arith)
