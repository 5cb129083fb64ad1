-- The steps of a walk.
use Rattle.std.proofs.Common.{◌≡◌, ℕ, ◌+◌, ◌<◌, Bool, true, false, cond, not, List, true≢false, refl, sym, ap, ◌∙◌, arith}
use Rattle.std.specs.Prelude.{◌&&◌}
use Rattle.std.specs.BTreeSet.{BTreeSet}
use Rattle.std.specs.Ordering.{is_gt}
use Rattle.fetch_base.specs.declared.id.ObjectId.{ObjectId}
use Rattle.fetch_negotiate.specs.declared.walk.HaveWalk.{HaveWalk}
use Rattle.fetch_negotiate.specs.Commits.{has}
use Rattle.fetch_negotiate.specs.Queues.{Rank, IsChosen, IsFront, IsQueued, rank_cmp, in_queue}
use Rattle.fetch_negotiate.specs.Reading.{Read, read_in}
use Rattle.fetch_negotiate.specs.Walking.{IsWalk}
use Rattle.fetch_negotiate.proofs.Queueing.{line_dropped}
use Rattle.fetch_negotiate.proofs.Ranking.{Drops}

pub record IsChoosing (before now : HaveWalk) : Type 0 where
  pub walk : IsWalk now
  pub table : now.table ≡ before.table
  pub border : now.border ≡ before.border
  pub common : now.common ≡ before.common
  pub tips : now.frontier.tips ≡ before.frontier.tips
  pub candidates : now.frontier.candidates ≡ before.frontier.candidates
  pub entered : now.frontier.entered ≡ before.frontier.entered
  pub taken : now.frontier.taken ≡ before.frontier.taken

neither : (a b : Bool) → (not a && not b) ≡ true → (a ≡ false) × (b ≡ false)
neither true b h = absurd (true≢false (sym h))
neither false true h = absurd (true≢false (sym h))
neither false false h = (refl, refl)

-- the front of the queue, where it is open
pub chosen_is : (k : Read) (commits taken candidates : List ObjectId) (queue : BTreeSet Rank) (r : Rank) (b : Bool) → IsFront queue r → IsQueued k candidates r → b ≡ (not (has commits r.1) && not (has taken r.1)) → b ≡ true → IsChosen k commits taken queue r.1
chosen_is k commits taken candidates queue r b front queued opened is_opened =
    let both = neither (has commits r.1) (has taken r.1) (sym opened ∙ is_opened) in
    record {
      waits = ap (in_queue queue) (sym queued.seconds) ∙ front.here;
      fresh = both.1;
      common = both.0;
      first = λ q h. ap (λ (x : Rank). is_gt (rank_cmp x q)) (sym queued.seconds) ∙ front.first q h;
    }

clash : (a b c : Bool) → c ≡ (not a && not b) → c ≡ false → b ≡ false → a ≡ false → ⊥
clash a b c is closed fresh other = true≢false (sym (is ∙ ap (λ (x : Bool). not x && not b) other ∙ ap not fresh) ∙ closed)

-- a commit that isn't open leaves the queue
pub choosing_further : (before now : HaveWalk) (queue : BTreeSet Rank) (r : Rank) (b : Bool) → IsChoosing before now → Drops now.frontier.queue queue r → b ≡ (not (has now.common.commits.items r.1) && not (has now.frontier.taken.items r.1)) → b ≡ false
    → IsChoosing before (record now { frontier = record now.frontier { queue = queue } })
choosing_further before now queue r b so_far drops opened closed =
    let w = so_far.walk in
    let k = read_in now.table in
    record {
      walk = record {
        common = w.common;
        frontier = (
          w.frontier.0,
          line_dropped k now.border now.common.commits.items now.frontier.tips now.frontier.candidates.items now.frontier.entered now.frontier.queue queue now.frontier.taken.items r drops
              (clash (has now.common.commits.items r.1) (has now.frontier.taken.items r.1) b opened closed) w.frontier.1,
        );
      };
      table = so_far.table;
      border = so_far.border;
      common = so_far.common;
      tips = so_far.tips;
      candidates = so_far.candidates;
      entered = so_far.entered;
      taken = so_far.taken;
    }

pub shrinks : (b : Bool) (n m : ℕ) → n + cond b 1 0 ≡ m → b ≡ true → n < m
shrinks true n m e h = omega arith
shrinks false n m e h = absurd (true≢false (sym h))
