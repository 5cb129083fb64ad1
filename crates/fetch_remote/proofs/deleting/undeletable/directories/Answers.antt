use Rattle.std.proofs.Common.{◌≡◌, ℕ, List, arith, subst, ◌∙◌}
use Rattle.std.specs.Prelude.{IfOk}
use Rattle.fetch_lookup.proofs.Placing.{place-step, place-end}
use Rattle.fetch_refs.specs.Names.{name_cmp}
use Rattle.fetch_remote.specs.DeletionSteps.{directory_of}
use Rattle.fetch_remote.proofs.Deletions.{in_all}
use Rattle.fetch_remote.proofs.deleting.undeletable.directories.Goals as goal

pub loop-tree-preserved : goal.loop-tree-preserved
loop-tree-preserved c = place-step name_cmp (directory_of c.args.name.now) c.args.trees.now c.loop-tree.tree-index c.tree-item.result c.loop-tree.directories.keys c.add_directory.new.directories.keys _ c.loop-tree-test.true c.tree-item.is c.in_ok-add_directory.ensures c.loop-tree.invariant

pub returns : goal.returns
returns c =
    subst (λ (keys : List (List ℕ)). IfOk c.list.result (λ list. list ≡ keys))
    (place-end name_cmp (directory_of c.args.name.now) c.args.trees.now c.loop-tree.tree-index c.loop-tree.directories.keys _ (omega arith) c.loop-tree.invariant ∙ in_all c.args.trees.now c.args.name.now) c.list.ensures
