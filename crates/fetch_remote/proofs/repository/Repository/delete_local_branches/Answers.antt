use Rattle.std.proofs.Common.{sym}
use Rattle.std.proofs.lemmas.Result.{err_from_is_err_and}
use Rattle.fetch_remote.specs.Repositories.{setup_of}
use Rattle.fetch_remote.proofs.Blamed.{trees_still, trees_as, unlocal_trees, gone_trees}
use Rattle.fetch_remote.proofs.repository.Repository.delete_local_branches.Goals as goal

pub returns-in_err-check_local-clause-worktrees : goal.returns-in_err-check_local-clause-worktrees
returns-in_err-check_local-clause-worktrees g c =
    let p = err_from_is_err_and c.from_residual-in_err-check_local.result c.from_residual-in_err-check_local.ensures.1 in
    rw (p.1, p.2) (trees_still _ _ (unlocal_trees _ c.in_err-check_local.field-0.0 c.in_err-check_local.ensures.refused))

pub returns-clause-worktrees : goal.returns-clause-worktrees
returns-clause-worktrees g c = trees_as _ _ _ _ (sym (gone_trees (g.F.Files.told c.args.files.now) (setup_of c.args.self.now).settings.git_dir c.in_ok-names.names c.delete.result c.delete.ensures.refused)) c.in_ok-check_unheld.ensures.worktrees
