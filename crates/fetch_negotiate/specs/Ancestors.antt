-- Ancestors: stored commits that steps to parents lead to. No step leaves a border commit.
use Rattle.std.specs.Prelude.{◌≡◌, Bool, true, ◌&&◌, ◌||◌, List, [], ◌∷◌, is_some, filter, if◌then◌else◌}
use Rattle.std.specs.FinMap as map
use Rattle.std.specs.FinSet as set
use Rattle.std.specs.Option.{option_map_or}
use Rattle.fetch_base.specs.declared.id.ObjectId.{ObjectId}
use Rattle.fetch_store.specs.Graph.{Graph}
use Rattle.fetch_base.specs.Id.{id_cmp}
use Rattle.fetch_negotiate.specs.declared.commits.Commit.{Commit}
use Rattle.fetch_negotiate.specs.Commits.{has, commit_of}

-- the parents of a commit, and none of a border commit
unfoldable pub links_of : Graph → set.FinSet id_cmp → ObjectId → List ObjectId
links_of g border id = if set.contains border id then [] else option_map_or (λ (c : Commit). c.parents) (commit_of g id) []

-- those of them that are stored commits
abbrev pub parents_of : Graph → set.FinSet id_cmp → ObjectId → List ObjectId
parents_of g border id = filter (λ p. is_some (commit_of g p)) (links_of g border id)

-- whether one step or more lead from a commit to another, with none but the listed ids between
abbrev pub leads : Graph → set.FinSet id_cmp → List ObjectId → ObjectId → ObjectId → Bool
leads g border [] from to = has (parents_of g border from) to
leads g border (v ∷ vs) from to = leads g border vs from to || (leads g border vs from v && leads g border vs v to)

-- whether a commit is an ancestor of another
unfoldable pub is_ancestor : Graph → set.FinSet id_cmp → ObjectId → ObjectId → Bool
is_ancestor g border from to = leads g border (map.keys g) from to

-- the commit, and others after it, each of which is a parent of the one before
abbrev pub IsLine : Graph → set.FinSet id_cmp → ObjectId → List ObjectId → Type 0
IsLine g border from [] = Unit {0}
IsLine g border from (next ∷ line) = (has (parents_of g border from) next ≡ true) × IsLine g border next line

-- the last commit of a line that begins here
abbrev pub last_of : ObjectId → List ObjectId → ObjectId
last_of from [] = from
last_of from (next ∷ line) = last_of next line

-- An ancestor ends a line of parents.
pub record IsAncestor (g : Graph) (border : set.FinSet id_cmp) (from to : ObjectId) : Type 0 where
  pub first : ObjectId
  pub others : List ObjectId
  pub line : IsLine g border from (first ∷ others)
  pub ends : last_of first others ≡ to
