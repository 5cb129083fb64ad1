use Rattle.std.proofs.Common.{◌≡◌}
use Rattle.std.specs.FinMap.{find}
use Rattle.fetch_files.specs.Paths.{path_cmp, parts_of}
use Rattle.fetch_files.proofs.file_tree.find_told.Given as goal

abbrev pub invariant-nodes : goal.invariant-nodes
invariant-nodes l = find path_cmp (parts_of l.path) l.key-iterator ≡ find path_cmp (parts_of l.path) l.nodes.entries
