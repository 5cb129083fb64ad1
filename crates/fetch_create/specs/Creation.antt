-- What the steps of a creation make of a tree of files, and where they stop.
use Rattle.std.specs.Prelude.{◌≡◌, ℕ, Bool, true, false, List, [], ◌∷◌, take, Option, Some, None, is_some, IfSome}
use Rattle.std.specs.List.{slice_get}
use Rattle.std.specs.Option.{option_and_then, option_map}
use Rattle.fetch_files.specs.FileCalls.{IsRefused}
use Rattle.fetch_files.specs.Paths.{parts_of}
use Rattle.fetch_files.specs.Trees.{Tree, kind_in, names_in, with_directories, written}
use Rattle.fetch_files.specs.declared.node.Node.{Node}
use Rattle.fetch_files.specs.declared.node.Node.TheVariants as nodes
use Rattle.fetch_create.specs.declared.create.Error.{Error}
use Rattle.fetch_create.specs.declared.create.Error.TheVariants.{IoOpen, IoWrite, CreateDirectory, DirectoryNotEmpty, DirectoryExists}
use Rattle.fetch_create.specs.declared.create.Error.TheVariants.{NoMemory}
use Rattle.fetch_create.specs.declared.create.step.Step.{Step}
use Rattle.fetch_create.specs.declared.create.step.Step.TheVariants.{Clear, Vacant, Directory, File}

-- ---- one step

-- what is listed at a path: nothing where nothing stands there. None: the listing is refused.
abbrev pub listed_at : Tree → List ℕ → Option (Option Node) → Option (Option (List (List ℕ)))
listed_at t path None = None
listed_at t path (Some None) = Some None
listed_at t path (Some (Some node)) = option_map (λ names. Some names) (names_in t (parts_of path))

-- what is listed at a path, or that nothing stands there
abbrev pub listed_in : Tree → List ℕ → Option (Option (List (List ℕ)))
listed_in t path = listed_at t path (kind_in t (parts_of path))

-- A directory without an entry stays, and an absent one is made.
abbrev pub cleared_in : Tree → List ℕ → Option (Option (List (List ℕ))) → Option Tree
cleared_in t path None = None
cleared_in t path (Some None) = with_directories t (parts_of path)
cleared_in t path (Some (Some [])) = Some t
cleared_in t path (Some (Some (name ∷ names))) = None

-- the tree, unless a directory stands there
abbrev pub if_no_directory : Tree → Option (Option Node) → Option Tree
if_no_directory t None = None
if_no_directory t (Some None) = Some t
if_no_directory t (Some (Some nodes.File)) = Some t
if_no_directory t (Some (Some nodes.Directory)) = None

-- the tree that a step makes of a tree. None: it is refused.
abbrev pub tree_after : Tree → Step → Option Tree
tree_after t (Clear path) = cleared_in t path (listed_in t path)
tree_after t (Vacant path) = if_no_directory t (kind_in t (parts_of path))
tree_after t (Directory path) = with_directories t (parts_of path)
tree_after t (File path bytes) = written t (parts_of path) bytes

-- Where the files tell their tree, the step makes this one of it.
abbrev pub Makes : Option Tree → Step → Option Tree → Type 0
Makes before step now = (is_some now ≡ is_some before) × IfSome before (λ t. tree_after t step ≡ now)

-- ---- one step after the other

-- the tree after these steps; None where one of them stops
abbrev pub tree_after_all : Tree → List Step → Option Tree
tree_after_all t [] = Some t
tree_after_all t (step ∷ steps) = option_and_then (λ u. tree_after_all u steps) (tree_after t step)

-- Where the files tell their tree, the steps make this one of it.
pub record Reaches (before : Option Tree) (steps : List Step) (now : Option Tree) : Type 0 where
  pub told : is_some now ≡ is_some before
  pub tree : IfSome before (λ t. tree_after_all t steps ≡ now)

-- ---- where they stop

-- what a directory has that isn't empty
abbrev pub HasEntry : Tree → List ℕ → Type 0
HasEntry t path = (name : List ℕ) × (names : List (List ℕ)) × (listed_in t path ≡ Some (Some (name ∷ names)))

-- the files tell a tree still, where they did
abbrev pub TellsStill : Option Tree → Option Tree → Type 0
TellsStill stood now = is_some now ≡ is_some stood

-- a question that the files failed to answer: they are as they were
abbrev pub IsOpenRefusal : {Y : Type 0} → Bool → Option Tree → List ℕ → (Tree → Option Y) → Option Tree → Error → Type 0
IsOpenRefusal may_fail stood path asked now (IoOpen told) = (told ≡ path) × (now ≡ stood) × IsRefused may_fail stood asked
IsOpenRefusal may_fail stood path asked now NoMemory = now ≡ stood
IsOpenRefusal may_fail stood path asked now e = ⊥

-- what opens a directory that is to have no entry: it is listed, or made where nothing stands there. None: it is refused.
abbrev pub opened_in : Tree → List ℕ → Option (Option (List (List ℕ))) → Option Tree
opened_in t path None = None
opened_in t path (Some None) = with_directories t (parts_of path)
opened_in t path (Some (Some names)) = Some t

-- Why a step is refused, at the tree that stood then, which stays.
abbrev pub IsStopAt : Bool → Option Tree → Step → Option Tree → Error → Type 0
IsStopAt may_fail stood (Clear path) now (DirectoryNotEmpty told) = (told ≡ path) × (now ≡ stood) × IfSome stood (λ t. HasEntry t path)
IsStopAt may_fail stood (Clear path) now (IoOpen told) = (told ≡ path) × (now ≡ stood)
    × IsRefused may_fail stood (λ t. opened_in t path (listed_in t path))
IsStopAt may_fail stood (Vacant path) now (DirectoryExists told) = (told ≡ path) × (now ≡ stood)
    × IfSome stood (λ t. kind_in t (parts_of path) ≡ Some (Some nodes.Directory))
IsStopAt may_fail stood (Vacant path) now (IoOpen told) = (told ≡ path) × (now ≡ stood)
    × IsRefused may_fail stood (λ t. kind_in t (parts_of path))
IsStopAt may_fail stood (Directory path) now (CreateDirectory told) = (told ≡ path) × (now ≡ stood)
    × IsRefused may_fail stood (λ t. with_directories t (parts_of path))
IsStopAt may_fail stood (File path bytes) now (IoWrite told) = (told ≡ path) × (now ≡ stood)
    × IsRefused may_fail stood (λ t. written t (parts_of path) bytes)
IsStopAt may_fail stood step now NoMemory = now ≡ stood
IsStopAt may_fail stood step now e = ⊥

-- The first steps were done, that many, and the next one was refused.
pub record IsStopped (may_fail : Bool) (before : Option Tree) (steps : List Step) (now : Option Tree) (e : Error) : Type 0 where
  pub count : ℕ
  pub step : Step
  pub next : slice_get steps count ≡ Some step
  pub stood : Option Tree
  pub done : Reaches before (take count steps) stood
  pub why : IsStopAt may_fail stood step now e

-- a refusal by a failed call of the files
abbrev pub is_fault : Error → Bool
is_fault (IoOpen path) = true
is_fault (IoWrite path) = true
is_fault (CreateDirectory path) = true
is_fault (DirectoryNotEmpty path) = false
is_fault (DirectoryExists path) = false
is_fault NoMemory = false
