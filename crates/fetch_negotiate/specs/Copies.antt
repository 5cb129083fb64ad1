-- What a copy of a walk has in common with it.
use Rattle.std.specs.Prelude.{◌≡◌}
use Rattle.fetch_negotiate.specs.declared.common.Common.{Common}
use Rattle.fetch_negotiate.specs.declared.frontier.Frontier.{Frontier}
use Rattle.fetch_negotiate.specs.declared.skips.Skips.{Skips}
use Rattle.fetch_negotiate.specs.declared.walk.HaveWalk.{HaveWalk}

-- Both have the same acknowledged ids, commits and marks.
pub record IsSameCommon (a b : Common) : Type 0 where
  pub acknowledged : a.acknowledged.items ≡ b.acknowledged.items
  pub finished : a.finished ≡ b.finished
  pub commits : a.commits.items ≡ b.commits.items
  pub closed : a.closed ≡ b.closed
  pub marked : a.marked ≡ b.marked

-- Both have the same candidates, queue and commits taken.
pub record IsSameFrontier (a b : Frontier) : Type 0 where
  pub tips : a.tips ≡ b.tips
  pub candidates : a.candidates.items ≡ b.candidates.items
  pub entered : a.entered ≡ b.entered
  pub queue : a.queue ≡ b.queue
  pub taken : a.taken.items ≡ b.taken.items
  pub told : a.told ≡ b.told

-- Both walks have read and marked the same.
pub record IsSameWalk (a b : HaveWalk) : Type 0 where
  pub border : a.border ≡ b.border
  pub table : a.table.entries ≡ b.table.entries
  pub common : IsSameCommon a.common b.common
  pub frontier : IsSameFrontier a.frontier b.frontier

-- Both have handed on the same pairs.
pub record IsSameSkips (a b : Skips) : Type 0 where
  pub handed : a.handed.items ≡ b.handed.items
  pub entered : a.entered ≡ b.entered
  pub pairs : a.pairs.entries ≡ b.pairs.entries
