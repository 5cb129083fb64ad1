use Rattle.std.proofs.Common.{arith}
use Rattle.fetch_negotiate.specs.Any.{begun}
use Rattle.fetch_negotiate.specs.Windows.{first_size}
use Rattle.fetch_negotiate.proofs.Rounding.{are_few, are_full}
use Rattle.fetch_negotiate.proofs.laws.open_rounds_are_few.Goals as goal

pub returns-clause-full : goal.returns-clause-full
returns-clause-full c g algorithm tips border rounds are = are_full g algorithm rounds first_size (begun algorithm tips border) (omega arith) are

pub returns-clause-few : goal.returns-clause-few
returns-clause-few c g algorithm tips border rounds are going = are_few g algorithm tips border rounds are going
