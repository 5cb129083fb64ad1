use Rattle.std.proofs.Common.{◌≡◌, ◌+◌, length}
use Rattle.fetch_objects.specs.References.{ids_left}
use Rattle.fetch_objects.proofs.object.LinksExactSizeIterator.len.Given as goal

abbrev pub invariant-ids : goal.invariant-ids
invariant-ids l = l.count + length (ids_left l.left) ≡ length (ids_left l.self)

abbrev pub decreases-ids : goal.decreases-ids
decreases-ids l = length (ids_left l.left)
