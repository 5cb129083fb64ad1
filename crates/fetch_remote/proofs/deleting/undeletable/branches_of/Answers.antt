use Rattle.std.proofs.Common.{◌++◌, ◌∷◌, [], List, sym, ap, ◌∙◌, subst, take}
use Rattle.std.proofs.lemmas.List.{take_more}
use Rattle.fetch_update.specs.declared.worktrees.Worktree.{Worktree}
use Rattle.fetch_remote.specs.DeletionSteps.{AreBranches}
use Rattle.fetch_remote.proofs.CheckedOut.{one_more}
use Rattle.fetch_remote.proofs.deleting.undeletable.branches_of.Goals as goal

pub loop-tree-preserved : goal.loop-tree-preserved
loop-tree-preserved c =
    subst (λ (done : List Worktree). AreBranches done c.add_branch.new.branches)
    (sym (take_more c.args.trees.now c.loop-tree.tree-index c.tree-item.result c.loop-tree-test.true ∙ ap (λ (w : Worktree). take c.loop-tree.tree-index c.args.trees.now ++ w ∷ []) (sym c.tree-item.is)))
    (one_more (take c.loop-tree.tree-index c.args.trees.now) c.tree-item.result _ _ _ c.in_ok-try_clone.ensures c.in_ok-add_branch.ensures c.loop-tree.invariant)
