use Rattle.std.proofs.lemmas.Result.{err_from_is_err_and}
use Rattle.fetch_remote.proofs.Blamed.{trees_still, unlocal_trees}
use Rattle.fetch_remote.proofs.deleting.deletion.deletable.Goals as goal

pub returns-in_err-check_local-clause-worktrees : goal.returns-in_err-check_local-clause-worktrees
returns-in_err-check_local-clause-worktrees g c =
    let p = err_from_is_err_and c.from_residual-in_err-check_local.result c.from_residual-in_err-check_local.ensures.1 in
    rw (p.1, p.2) (trees_still _ _ (unlocal_trees _ c.in_err-check_local.field-0.0 c.in_err-check_local.ensures.refused))
