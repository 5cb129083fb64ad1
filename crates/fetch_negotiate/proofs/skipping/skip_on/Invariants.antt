use Rattle.std.proofs.Common.{◌≡◌}
use Rattle.fetch_negotiate.specs.Reading.{IsTold, read_in}
use Rattle.fetch_negotiate.specs.Sharing.{Covers}
use Rattle.fetch_negotiate.specs.Skipped.{IsSkipping}
use Rattle.fetch_negotiate.specs.Skips.{next_offered}
use Rattle.fetch_negotiate.specs.Walking.{GoesOn, so_far_in}
use Rattle.fetch_negotiate.proofs.Counting.{untaken}
use Rattle.fetch_negotiate.proofs.skipping.skip_on.Given as goal

abbrev pub invariant-loop-id : goal.invariant-loop-id
invariant-loop-id g l =
    record {
      skipping : IsSkipping l.walk l.skips;
      told : IsTold (read_in l.walk.table) (g.O.Objects.graph l.objects);
      later : next_offered (g.O.Objects.graph l.objects) (so_far_in l.walk) ≡ next_offered (g.O.Objects.graph l.objects) (so_far_in l.fn.walk);
      goes : GoesOn l.fn.walk l.walk;
      more : Covers l.fn.walk.frontier.taken.items l.walk.frontier.taken.items;
    }

abbrev pub decreases-loop-id : goal.decreases-loop-id
decreases-loop-id g l = untaken (g.O.Objects.graph l.objects) (so_far_in l.walk)
