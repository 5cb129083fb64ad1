use Rattle.std.proofs.Common.{rules}
use Rattle.fetch_shared.proofs.SeatSteps.{splits}
use Rattle.fetch_shared.proofs.shared.cut.Goals as goal

pub split_seat-requires : goal.split_seat-requires
split_seat-requires g c = (search rules, search rules, splits _ _ _ g.C.Share.numbers c.requires.rests (search rules) (search rules))
