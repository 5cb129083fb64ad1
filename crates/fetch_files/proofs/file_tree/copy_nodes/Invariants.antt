use Rattle.std.proofs.Common.{◌≡◌, ◌++◌}
use Rattle.std.specs.BTreeMap.{IsOrdered}
use Rattle.fetch_files.specs.Paths.{path_cmp}
use Rattle.fetch_files.proofs.file_tree.copy_nodes.Given as goal

abbrev pub invariant-nodes : goal.invariant-nodes
invariant-nodes l = (l.copy.entries ++ l.key-iterator ≡ l.nodes.entries) × IsOrdered path_cmp l.nodes
