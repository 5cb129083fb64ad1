use Rattle.std.proofs.Common.{arith}
use Rattle.fetch_base.proofs.Copies.{copied}
use Rattle.fetch_base.proofs.copying.copy_from.Goals as goal

pub returns-clause-copied : goal.returns-clause-copied
returns-clause-copied c = copied c.args.bytes.now _ _ c.args.place _ c.copy_from_slice.ensures.after (omega arith)
