use Rattle.std.proofs.Common.{◌≡◌, ◌≢◌, ◌+◌, ◌≤◌, true, length}
use Rattle.fetch_objects.specs.References.{parents_left}
use Rattle.fetch_update.specs.Dated.{parents_at}
use Rattle.fetch_update.specs.Walks.{state, has, Grows, room, work}
use Rattle.fetch_update.proofs.Expansions.{Passed}
use Rattle.fetch_update.proofs.walk.Walk.expand.Given as goal

abbrev pub invariant-loop-parent : goal.invariant-loop-parent
invariant-loop-parent g l =
    let graph = g.O.Objects.graph l.objects in
    let parents = parents_at graph l.id in
    record {
      limit : l.self.limit ≡ l.fn.self.limit;
      passed : Passed (λ p. (p ≢ l.to) × (has (state l.self).seen p ≡ true)) parents (parents_left l.parents);
      grows : Grows graph l.fn.self.limit parents (state l.fn.self) (state l.self);
      cost : l.steps + room graph (state l.self) + length (parents_left l.parents) ≤ l.fn.steps + room graph (state l.fn.self) + length parents;
      work : work graph (state l.self) ≤ work graph (state l.fn.self);
      rises : l.fn.steps ≤ l.steps;
    }

abbrev pub decreases-loop-parent : goal.decreases-loop-parent
decreases-loop-parent g l = length (parents_left l.parents)
