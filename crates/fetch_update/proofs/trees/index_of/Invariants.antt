use Rattle.std.proofs.Common.{take}
use Rattle.fetch_update.specs.Trees.{IsIndex}
use Rattle.fetch_update.proofs.trees.index_of.Given as goal

abbrev pub invariant-trees : goal.invariant-trees
invariant-trees l = IsIndex (take l.tree-index l.worktrees) l.index
