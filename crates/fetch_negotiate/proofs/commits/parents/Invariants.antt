use Rattle.std.proofs.Common.{◌≡◌, ◌++◌, length}
use Rattle.fetch_objects.specs.References.{parents_left}
use Rattle.fetch_negotiate.specs.Commits.{parents_in}
use Rattle.fetch_negotiate.proofs.commits.parents.Given as goal

abbrev pub invariant-loop-parent : goal.invariant-loop-parent
invariant-loop-parent g l = l.parents.items ++ parents_left l.left ≡ parents_in (g.O.Objects.graph l.objects) l.id

abbrev pub decreases-loop-parent : goal.decreases-loop-parent
decreases-loop-parent g l = length (parents_left l.left)
