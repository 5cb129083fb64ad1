use Rattle.std.proofs.Common.{rules}
use Rattle.fetch_shared.proofs.SeatSteps.{learns}
use Rattle.fetch_shared.proofs.shared.SharedRepository.split.Goals as goal

pub load-requires : goal.load-requires
load-requires c = (search rules, search rules, learns _ _ _ _)
