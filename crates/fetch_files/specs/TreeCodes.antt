-- Trees of files as data that a model may keep.
use Rattle.std.specs.Prelude.{◌≡◌, ℕ, List, Option, Some, None, refl}
use Rattle.std.specs.Coded.{Coded, code_by, coded_ℕ, coded_list, coded_option, coded×}
use Rattle.std.specs.FinMap as map
use Rattle.fetch_files.specs.Paths.{path_cmp}
use Rattle.fetch_files.specs.FileCalls.{MemoryTree}
use Rattle.fetch_files.specs.Trees.{Tree}
use Rattle.fetch_files.specs.declared.node.TreeNode.{TreeNode}
use Rattle.fetch_files.specs.declared.node.TreeNode.TheVariants.{File, Directory}

abbrev bytes_or_none : TreeNode → Option (List ℕ)
bytes_or_none (File bytes) = Some bytes
bytes_or_none Directory = None

abbrev node_from : Option (List ℕ) → TreeNode
node_from (Some bytes) = File bytes
node_from None = Directory

-- a node is the one that its bytes, or none, name
pub node_back : (n : TreeNode) → node_from (bytes_or_none n) ≡ n
node_back (File bytes) = refl
node_back Directory = refl

-- a node, coded
abbrev pub coded_node : Coded TreeNode
coded_node = code_by (Option (List ℕ)) (coded_option (coded_list coded_ℕ)) bytes_or_none node_from node_back

-- a tree, coded
abbrev pub coded_tree : Coded Tree
coded_tree = map.code {R = path_cmp} (coded_list (coded_list coded_ℕ)) coded_node

-- files in memory, coded
abbrev pub coded_memory : Coded MemoryTree
coded_memory =
    code_by (Tree × (List ℕ × (ℕ × ℕ))) (coded× coded_tree (coded× (coded_list coded_ℕ) (coded× coded_ℕ coded_ℕ)))
    (λ m. (m.tree, (m.calls.listed, (m.calls.next, m.failed))))
    (λ p. record { tree = p.0; calls = record { listed = p.1.0; next = p.1.1.0 }; failed = p.1.1.1 }) (λ _. refl)
