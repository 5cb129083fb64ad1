-- Dated paths: from one commit to an earlier one, by parents that aren't older than it.
use Rattle.std.specs.Prelude.{◌≡◌, ℕ, ◌≤◌, List, [], ◌∷◌, ◌++◌, length, sum_by, Option, Some, None, IsSome, Contains, unwrap_or}
use Rattle.std.specs.Prelude.{if◌then◌else◌}
use Rattle.std.specs.List.{AllByRecursion, filter}
use Rattle.std.specs.Option.{option_and_then, option_map_or}
use Rattle.std.specs.FinMap.{get, entries}
use Rattle.fetch_base.specs.declared.id.ObjectId.{ObjectId}
use Rattle.fetch_base.specs.declared.object_kind.ObjectKind.TheVariants.{Commit}
use Rattle.fetch_store.specs.Graph.{Graph, Node}
use Rattle.fetch_base.specs.Kinds.{is_kind}

-- the commit that is stored under an id
abbrev pub commit_at : Graph → ObjectId → Option Node
commit_at g id = option_and_then (λ n. if is_kind n.kind Commit then Some n else None) (get g id)

-- a commit is stored at the id
abbrev pub IsCommit : Graph → ObjectId → Type 0
IsCommit g id = IsSome (commit_at g id)

-- a commit's parents, in order
abbrev pub parents_at : Graph → ObjectId → List ObjectId
parents_at g id = option_map_or (λ n. n.parents) (commit_at g id) []

-- A commit that has no seconds counts as one of 0.
abbrev pub seconds_in : Node → ℕ
seconds_in n = unwrap_or n.seconds 0

-- a commit's seconds
abbrev pub seconds_at : Graph → ObjectId → ℕ
seconds_at g id = option_map_or seconds_in (commit_at g id) 0

-- The first of these ids is a parent of a, and each next one is a parent of the one before.
abbrev pub LeadsOn : Graph → ObjectId → List ObjectId → Type 0
LeadsOn g a [] = Unit {0}
LeadsOn g a (b ∷ rest) = Contains (parents_at g a) b × LeadsOn g b rest

-- Each next id is a parent of the one before.
abbrev pub IsLinked : Graph → List ObjectId → Type 0
IsLinked g [] = Unit {0}
IsLinked g (a ∷ rest) = LeadsOn g a rest

-- The list begins with one id and ends with another. All are stored commits, each next one is a parent of the one
-- before, and none has fewer seconds than the limit.
pub record IsPathAbove (g : Graph) (limit : ℕ) (from to : ObjectId) (path : List ObjectId) : Type 0 where
  pub begins : (rest : List ObjectId) × (path ≡ from ∷ rest)
  pub ends : (before : List ObjectId) × (path ≡ before ++ to ∷ [])
  pub linked : IsLinked g path
  pub commits : AllByRecursion (λ id. IsCommit g id) path
  pub dated : AllByRecursion (λ id. limit ≤ seconds_at g id) path

-- the same, where none has fewer seconds than the last
abbrev pub IsDatedPath : Graph → ObjectId → ObjectId → List ObjectId → Type 0
IsDatedPath g from to path = IsPathAbove g (seconds_at g to) from to path

-- A dated path leads from one commit to the other.
abbrev pub HasDatedPath : Graph → ObjectId → ObjectId → Type 0
HasDatedPath g from to = (path : List ObjectId) × IsDatedPath g from to path

-- the commits of a graph
abbrev pub stored_commits : Graph → List (ObjectId × Node)
stored_commits g = filter (λ e. is_kind e.1.kind Commit) (entries g)

-- how many commits a graph has
abbrev pub commit_count : Graph → ℕ
commit_count g = length (stored_commits g)

-- how many parents the stored commits have
abbrev pub link_count : Graph → ℕ
link_count g = sum_by (λ e. length e.1.parents) (stored_commits g)
