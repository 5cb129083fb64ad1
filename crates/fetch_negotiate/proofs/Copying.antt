-- A copy of a walk keeps what the walk keeps.
use Rattle.std.proofs.Common.{◌≡◌, sym, ap, ◌∙◌}
use Rattle.std.specs.FinSet as set
use Rattle.fetch_base.specs.Id.{id_cmp}
use Rattle.fetch_negotiate.specs.declared.common.Common.{Common}
use Rattle.fetch_negotiate.specs.declared.frontier.Frontier.{Frontier}
use Rattle.fetch_negotiate.specs.declared.skips.Skips.{Skips}
use Rattle.fetch_negotiate.specs.declared.walk.HaveWalk.{HaveWalk}
use Rattle.fetch_negotiate.specs.Copies.{IsSameCommon, IsSameFrontier, IsSameWalk, IsSameSkips}
use Rattle.fetch_negotiate.specs.Queues.{IsFrontier, IsFrontierIn}
use Rattle.fetch_negotiate.specs.Reading.{Read, read_in}
use Rattle.fetch_negotiate.specs.Sharing.{IsMarked, IsCommon, IsCommonIn}
use Rattle.fetch_negotiate.specs.Skipped.{IsSkipping}
use Rattle.fetch_negotiate.specs.Skips.{pairs_of}
use Rattle.fetch_negotiate.specs.Walking.{IsWalk, so_far_in}

common : (k : Read) (border : set.FinSet id_cmp) (a b : Common) → IsSameCommon a b → IsCommonIn k border b → IsCommonIn k border a
common k border a b s h =
    let marked : IsMarked a.marked a.commits.items = rw (s.marked, s.commits) h.0 in
    let is : IsCommon k border a.acknowledged.items a.finished a.commits.items a.closed = rw (s.acknowledged, s.finished, s.commits, s.closed) h.1 in
    (marked, is)

frontier : (k : Read) (border : set.FinSet id_cmp) (a b : Frontier) (c d : Common) → IsSameFrontier a b → IsSameCommon c d → IsFrontierIn k border d.commits.items b → IsFrontierIn k border c.commits.items a
frontier k border a b c d s m h =
    let told : IsMarked a.told a.taken.items = rw (s.told, s.taken) h.0 in
    let is : IsFrontier k border c.commits.items a.tips a.candidates.items a.entered a.queue a.taken.items = rw (m.commits, s.tips, s.candidates, s.entered, s.queue, s.taken) h.1 in
    (told, is)

pub walk : (a b : HaveWalk) → IsSameWalk a b → IsWalk b → IsWalk a
walk a b s h = record {
  common = rw (s.table, s.border) (common (read_in b.table) b.border a.common b.common s.common h.common);
  frontier = rw (s.table, s.border) (frontier (read_in b.table) b.border a.frontier b.frontier a.common b.common s.frontier s.common h.frontier);
}

pub so_far : (a b : HaveWalk) → IsSameWalk a b → so_far_in a ≡ so_far_in b
so_far a b s = rw (s.frontier.tips, s.frontier.candidates, s.border, s.frontier.taken, s.common.acknowledged)

pub skipping : (a b : HaveWalk) (c d : Skips) → IsSameWalk a b → IsSameSkips c d → IsSkipping b d → IsSkipping a c
skipping a b c d s m h = record {
  walk = walk a b s h.walk;
  paired = record {
    entered_in = rw (m.handed, m.entered) h.paired.entered_in;
    each = λ id. rw (m.pairs, m.handed, m.entered) (h.paired.each id);
  };
  handed = λ g told. m.handed ∙ h.handed g (rw (← s.table) told) ∙ ap (pairs_of g) (sym (so_far a b s));
}
