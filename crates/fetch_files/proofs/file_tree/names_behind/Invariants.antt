use Rattle.std.proofs.Common.{◌≡◌, ◌++◌}
use Rattle.std.specs.BTreeMap.{IsOrdered}
use Rattle.std.specs.Map.{keys_of}
use Rattle.fetch_files.specs.Paths.{path_cmp, parts_of}
use Rattle.fetch_files.specs.Trees.{names_behind}
use Rattle.fetch_files.proofs.file_tree.names_behind.Given as goal

abbrev pub invariant-keys : goal.invariant-keys
invariant-keys l = (l.names.items ++ names_behind (parts_of l.path) l.key-iterator ≡ names_behind (parts_of l.path) (keys_of l.nodes.entries)) × IsOrdered path_cmp l.nodes
