use Rattle.std.proofs.Common.{take}
use Rattle.fetch_negotiate.specs.Reading.{links_at, read_in}
use Rattle.fetch_negotiate.proofs.Commons.{IsMarkingAll}
use Rattle.fetch_negotiate.proofs.common.mark_parents.Given as goal

abbrev pub invariant-loop-index : goal.invariant-loop-index
invariant-loop-index g l = IsMarkingAll (read_in l.fn.table) (read_in l.table) l.border l.fn.common l.common (g.O.Objects.graph l.objects) (take l.index (links_at (read_in l.fn.table) l.border l.id))
