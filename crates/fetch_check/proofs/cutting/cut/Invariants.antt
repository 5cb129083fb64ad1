use Rattle.std.proofs.Common.{take}
use Rattle.fetch_check.proofs.Cut.{IsCut}
use Rattle.fetch_check.proofs.cutting.cut.Given as goal

abbrev pub invariant-pieces : goal.invariant-pieces
invariant-pieces l = IsCut (take l.fn.len l.fn.text) l.text l.fn.len l.fn.count l.left

abbrev pub decreases-pieces : goal.decreases-pieces
decreases-pieces l = l.left
