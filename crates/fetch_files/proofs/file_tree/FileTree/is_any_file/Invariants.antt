use Rattle.std.proofs.Common.{◌≡◌, drop}
use Rattle.std.specs.List.{list_any}
use Rattle.fetch_files.specs.Trees.{is_file, node_at}
use Rattle.fetch_files.proofs.file_tree.FileTree.is_any_file.Given as goal

abbrev pub invariant-loop-path : goal.invariant-loop-path
invariant-loop-path l = list_any (λ path. is_file (node_at l.self path)) (drop l.path-index l.paths) ≡ list_any (λ path. is_file (node_at l.self path)) l.paths
