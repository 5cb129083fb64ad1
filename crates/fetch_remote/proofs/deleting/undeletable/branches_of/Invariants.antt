use Rattle.std.proofs.Common.{take}
use Rattle.fetch_remote.specs.DeletionSteps.{AreBranches}
use Rattle.fetch_remote.proofs.deleting.undeletable.branches_of.Given as goal

abbrev pub invariant-loop-tree : goal.invariant-loop-tree
invariant-loop-tree l = AreBranches (take l.tree-index l.trees) l.branches
