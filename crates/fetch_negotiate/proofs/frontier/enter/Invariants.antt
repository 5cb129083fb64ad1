use Rattle.std.proofs.Common.{◌-◌, length}
use Rattle.fetch_negotiate.specs.Reading.{read_in}
use Rattle.fetch_negotiate.proofs.Queueing.{IsEntering}
use Rattle.fetch_negotiate.proofs.frontier.enter.Given as goal

abbrev pub invariant-candidates : goal.invariant-candidates
invariant-candidates g l = IsEntering (read_in l.fn.table) (read_in l.table) l.border l.common.commits.items l.fn.frontier l.frontier (g.O.Objects.graph l.objects)

abbrev pub decreases-candidates : goal.decreases-candidates
decreases-candidates g l = length l.frontier.candidates.items - l.frontier.entered
