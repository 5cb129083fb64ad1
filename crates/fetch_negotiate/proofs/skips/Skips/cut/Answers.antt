use Rattle.std.proofs.Common.{arith}
use Rattle.fetch_negotiate.proofs.Pairing.{nothing_entered}
use Rattle.fetch_negotiate.proofs.skips.Skips.cut.Goals as goal

pub returns-clause-paired : goal.returns-clause-paired
returns-clause-paired c = record { entered_in = omega arith; each = λ id. nothing_entered c.clear.new.self id c.clear.ensures.empty }
