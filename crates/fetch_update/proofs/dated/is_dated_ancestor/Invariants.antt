use Rattle.std.proofs.Common.{◌≡◌, ◌+◌, ◌≤◌}
use Rattle.fetch_update.specs.Dated.{seconds_at, commit_count, link_count}
use Rattle.fetch_update.specs.Walks.{state, room, work}
use Rattle.fetch_update.proofs.Paths.{IsWalk}
use Rattle.fetch_update.proofs.dated.is_dated_ancestor.Given as goal

abbrev pub invariant-commits : goal.invariant-commits
invariant-commits g l =
    let graph = g.O.Objects.graph l.objects in
    record {
      limit : l.walk.limit ≡ seconds_at graph l.to;
      walk : IsWalk graph (seconds_at graph l.to) l.from l.to (state l.walk);
      cost : l.steps + room graph (state l.walk) ≤ l.fn.steps + (commit_count graph + link_count graph);
      rises : l.fn.steps ≤ l.steps;
    }

abbrev pub decreases-commits : goal.decreases-commits
decreases-commits g l = work (g.O.Objects.graph l.objects) (state l.walk)
