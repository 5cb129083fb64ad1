use Rattle.std.proofs.Common.{◌∙◌, ap}
use Rattle.std.specs.FinMap as map
use Rattle.fetch_files.specs.Paths.{path_cmp}
use Rattle.fetch_files.specs.Trees.{Tree}
use Rattle.fetch_files.specs.declared.node.TreeNode.TheVariants.{File}
use Rattle.fetch_files.proofs.TreeChanges.{moved}
use Rattle.fetch_files.proofs.file_tree.FileTree.move_to.Goals as goal

pub returns-clause-ok : goal.returns-clause-ok
returns-clause-ok c =
    moved c.args.self.now (map.from_entries {R = path_cmp} c.put.new.nodes.entries) c.remove_if.new.self c.args.from.now c.args.to (File c.args.bytes) c.is_same-stays.result c.is_same-stays.ensures
    (c.in_ok-put.ensures.as_map ∙ ap (λ (m : Tree). map.insert m c.args.to (File c.args.bytes)) c.self.view_is) c.remove_if.ensures
