use Rattle.std.proofs.Common.{◌≡◌, ◌++◌, length}
use Rattle.fetch_objects.specs.References.{parents_left}
use Rattle.fetch_serve.proofs.depth.append_all.Given as goal

abbrev pub invariant-loop-parent : goal.invariant-loop-parent
invariant-loop-parent l = l.into.items ++ parents_left l.parents ≡ l.initial.into.items ++ parents_left l.initial.parents

abbrev pub decreases-loop-parent : goal.decreases-loop-parent
decreases-loop-parent l = length (parents_left l.parents)
