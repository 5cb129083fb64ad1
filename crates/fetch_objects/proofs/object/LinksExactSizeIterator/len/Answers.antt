use Rattle.std.proofs.Common.{arith, ap, length, ◌≤◌}
use Rattle.fetch_objects.specs.References.{ids_left, wanted_id}
use Rattle.fetch_objects.proofs.LinkCounts.{few}
use Rattle.fetch_objects.proofs.object.LinksExactSizeIterator.len.Goals as goal

pub overflow_add-count : goal.overflow_add-count
overflow_add-count c =
    let l = c.args.self.now in
    let fits : length (ids_left l) ≤ length l.rest.now = few (length l.rest.now) (wanted_id l.wanted) l.hash l.expected l.rest.now (omega arith) in
    let one = ap length c.in-Some.ensures.steps in
    omega (arith, fits, one, c.ids.invariant)
