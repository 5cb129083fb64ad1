-- Trees of files, and what each call does to one. A call that answers None here is refused: something of the wrong kind is in its way, or
-- nothing stands where it asks for something.
use Rattle.std.specs.Prelude.{ℕ, Bool, true, false, ◌||◌, not, List, [], ◌∷◌, ◌++◌, Option, Some, None, if◌then◌else◌, is_none, is_some}
use Rattle.std.specs.Prelude.{IsSome, IsTrue}
use Rattle.std.specs.List.{list_any, filter_map}
use Rattle.std.specs.Option.{option_map}
use Rattle.std.specs.FinMap as map
use Rattle.fetch_files.specs.Paths.{Path, path_cmp, is_root, parents_of, parent_of, after_path}
use Rattle.fetch_files.specs.declared.node.Node.{Node}
use Rattle.fetch_files.specs.declared.node.Node.TheVariants as nodes
use Rattle.fetch_files.specs.declared.node.TreeNode.{TreeNode}
use Rattle.fetch_files.specs.declared.node.TreeNode.TheVariants.{File, Directory}

-- what stands at each path, the root aside
abbrev pub Tree : Type 0
Tree = map.FinMap path_cmp TreeNode

-- what stands at a path: the root is a directory
abbrev pub node_at : Tree → Path → Option TreeNode
node_at t path = if is_root path then Some Directory else map.get t path

-- what a node is
abbrev pub kind_of : TreeNode → Node
kind_of (File bytes) = nodes.File
kind_of Directory = nodes.Directory

-- whether a file stands there
abbrev pub is_file : Option TreeNode → Bool
is_file (Some (File bytes)) = true
is_file (Some Directory) = false
is_file None = false

-- whether a directory stands there
abbrev pub is_directory : Option TreeNode → Bool
is_directory (Some (File bytes)) = false
is_directory (Some Directory) = true
is_directory None = false

-- the bytes of a file, if it is one
abbrev pub file_in : Option TreeNode → Option (List ℕ)
file_in (Some (File bytes)) = Some bytes
file_in (Some Directory) = None
file_in None = None

-- a file stands above the path
abbrev pub is_blocked : Tree → Path → Bool
is_blocked t path = list_any (λ above. is_file (node_at t above)) (parents_of path)

-- the names that follow a path right away, among these paths
abbrev pub name_behind : Option Path → Option (List ℕ)
name_behind None = None
name_behind (Some []) = None
name_behind (Some (name ∷ [])) = Some name
name_behind (Some (name ∷ next ∷ path)) = None

-- the name, where there is one
abbrev pub if_name : Option (List ℕ) → List (List ℕ)
if_name None = []
if_name (Some name) = name ∷ []

-- the names right below a path, of all these paths
abbrev pub names_behind : Path → List Path → List (List ℕ)
names_behind path keys = filter_map (λ key. name_behind (after_path path key)) keys

-- Where something stands, the path right above is a directory: nothing stands below a file.
pub record IsRooted (t : Tree) : Type 0 where
  pub each : (path : Path) → IsSome (map.get t path) → IsTrue (is_directory (node_at t (parent_of path)))

-- ---- calls that ask

-- the kind of what stands there, if anything does
abbrev pub kind_in : Tree → Path → Option (Option Node)
kind_in t path = if is_blocked t path then None else Some (option_map kind_of (node_at t path))

-- the bytes of a file; nothing where there is none; a directory is refused
abbrev pub bytes_in : Option TreeNode → Option (Option (List ℕ))
bytes_in None = Some None
bytes_in (Some (File bytes)) = Some (Some bytes)
bytes_in (Some Directory) = None

-- what a file has, or that there is none; a refusal where a file stands above it, or a directory at it
abbrev pub read_in : Tree → Path → Option (Option (List ℕ))
read_in t path = if is_blocked t path then None else bytes_in (node_at t path)

-- the names in a directory, ascending
abbrev pub names_in : Tree → Path → Option (List (List ℕ))
names_in t path = if is_directory (node_at t path) then Some (names_behind path (map.keys t)) else None

-- ---- calls that change the tree

-- with a directory, unless something stands there
abbrev pub with_directory : Tree → Path → Tree
with_directory t path = if is_some (node_at t path) then t else map.insert t path Directory

-- directories at those of the paths where nothing stands
abbrev pub with_each : Tree → List Path → Tree
with_each t [] = t
with_each t (path ∷ paths) = with_each (with_directory t path) paths

-- with a directory and all above it; None where a file is in the way
abbrev pub with_directories : Tree → Path → Option Tree
with_directories t path = if is_blocked t path || is_file (node_at t path) then None else Some (with_each t (parents_of path ++ path ∷ []))

-- the whole file, and directories above it
abbrev pub written : Tree → Path → List ℕ → Option Tree
written t path bytes = if is_blocked t path || is_directory (node_at t path) then None
    else Some (map.insert (with_each t (parents_of path)) path (File bytes))

-- a file, if there is one to write
abbrev pub with_file : Tree → Option (Path × List ℕ) → Tree
with_file t None = t
with_file t (Some (path, bytes)) = map.insert t path (File bytes)

-- a file goes where no directory stands, into a directory
abbrev pub moved : Tree → Option (List ℕ) → Path → Path → Option Tree
moved t None from to = None
moved t (Some bytes) from to =
    if is_directory (node_at t to) || not (is_directory (node_at t (parent_of to))) then None
    else Some (map.insert (map.remove t from) to (File bytes))

-- with a file moved to another path; None where there is no such file, or something is in the way
abbrev pub renamed : Tree → Path → Path → Option Tree
renamed t from to = moved t (file_in (node_at t from)) from to

-- without a file; None where there is none
abbrev pub without_file : Tree → Path → Option Tree
without_file t path = if is_file (node_at t path) then Some (map.remove t path) else None

-- the directory goes with all that is in it: the root stays, and is empty
abbrev pub without_all : Tree → Path → Option Tree
without_all t path = if is_directory (node_at t path) then Some (map.retain_keys t (λ key. is_none (after_path path key))) else None
