use Rattle.std.proofs.Common.{◌≡◌, length}
use Rattle.std.specs.List.{list_all}
use Rattle.fetch_objects.specs.References.{parents_left}
use Rattle.fetch_asked.specs.Requests.{has_id}
use Rattle.fetch_serve.proofs.depth.are_among.Given as goal

abbrev pub invariant-loop-parent : goal.invariant-loop-parent
invariant-loop-parent l = list_all (λ parent. has_id parent l.ids) (parents_left l.parents) ≡ list_all (λ parent. has_id parent l.ids) (parents_left l.initial.parents)

abbrev pub decreases-loop-parent : goal.decreases-loop-parent
decreases-loop-parent l = length (parents_left l.parents)
