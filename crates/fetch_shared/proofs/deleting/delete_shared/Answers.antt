use Rattle.std.proofs.Common.{sym}
use Rattle.fetch_remote.proofs.Blamed.{trees_as}
use Rattle.fetch_shared.proofs.Owned.{memory_trees}
use Rattle.fetch_shared.proofs.Told.{deleting_trees}
use Rattle.fetch_shared.proofs.deleting.delete_shared.Goals as goal

pub returns-in-Ok-clause-worktrees : goal.returns-in-Ok-clause-worktrees
returns-in-Ok-clause-worktrees g c = trees_as _ _ _ _ (sym (memory_trees c.enter.result c.enter.ensures.memory)) c.in-Ok.ensures.worktrees

pub returns-in-Err-clause-worktrees : goal.returns-in-Err-clause-worktrees
returns-in-Err-clause-worktrees g c = rw c.from.ensures (trees_as _ _ _ _ (deleting_trees c.in-Err.cause) c.in-Err.ensures.worktrees)
