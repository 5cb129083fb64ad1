use Rattle.std.proofs.Common.{◌-◌, ◌^◌, length, ◌≤◌}
use Rattle.fetch_negotiate.specs.Reading.{read_in}
use Rattle.fetch_negotiate.proofs.Commons.{IsFinishing}
use Rattle.fetch_negotiate.proofs.common.mark_acknowledged.Given as goal

abbrev pub invariant-acknowledged : goal.invariant-acknowledged
invariant-acknowledged g l = IsFinishing (read_in l.fn.table) (read_in l.table) l.border l.fn.common l.common (g.O.Objects.graph l.objects)

abbrev pub decreases-acknowledged : goal.decreases-acknowledged
decreases-acknowledged g l = length l.common.acknowledged.items - l.common.finished

abbrev pub invariant-marked : goal.invariant-marked
invariant-marked g l = IsFinishing (read_in l.fn.table) (read_in l.table) l.border l.fn.common l.common (g.O.Objects.graph l.objects) × (length l.common.acknowledged.items ≤ l.common.finished)

abbrev pub decreases-marked : goal.decreases-marked
decreases-marked g l = 2 ^ 64 - l.common.closed
