use Rattle.std.proofs.Common.{◌++◌, ◌∷◌, [], List, sym, ap, ◌∙◌, subst, take}
use Rattle.std.proofs.lemmas.List.{take_more}
use Rattle.fetch_update.specs.declared.worktrees.Worktree.{Worktree}
use Rattle.fetch_update.specs.Trees.{IsIndex}
use Rattle.fetch_update.proofs.trees.index_of.Goals as goal

pub trees-preserved : goal.trees-preserved
trees-preserved c =
    subst (λ (done : List Worktree). IsIndex done c.add.new.index)
    (sym (take_more c.args.worktrees.now c.trees.tree-index c.tree-item.result c.trees-test.true ∙ ap (λ (w : Worktree). take c.trees.tree-index c.args.worktrees.now ++ w ∷ []) (sym c.tree-item.is)))
    (c.in_ok-add.ensures (take c.trees.tree-index c.args.worktrees.now) c.trees.invariant)
