-- What was read, as functions of ids.
use Rattle.std.specs.Prelude.{◌≡◌, List, [], Option, Some, if◌then◌else◌}
use Rattle.std.specs.BTreeMap as tree
use Rattle.std.specs.BTreeMap.{BTreeMap}
use Rattle.std.specs.FinSet as set
use Rattle.std.specs.Option.{option_and_then, option_map_or}
use Rattle.fetch_base.specs.declared.id.ObjectId.{ObjectId}
use Rattle.fetch_store.specs.Graph.{Graph}
use Rattle.fetch_base.specs.Id.{id_cmp}
use Rattle.fetch_negotiate.specs.declared.commits.Commit.{Commit}
use Rattle.fetch_negotiate.specs.Commits.{commit_of}

-- for an id that was read, the commit that was found
abbrev pub Read : Type 0
Read = ObjectId → Option (Option Commit)

-- what was read, by id
abbrev pub Table : Type 0
Table = BTreeMap ObjectId (Option Commit)

-- what a table tells of an id
abbrev pub read_in : Table → Read
read_in t id = tree.get id_cmp t id

-- the graph tells what was read
pub record IsTold (k : Read) (g : Graph) : Type 0 where
  pub told : (id : ObjectId) (found : Option Commit) → k id ≡ Some found → commit_of g id ≡ found

-- what was read stays
pub record Grows (k l : Read) : Type 0 where
  pub stays : (id : ObjectId) (found : Option Commit) → k id ≡ Some found → l id ≡ Some found

-- the commit that was read at an id
abbrev pub commit_at : Read → ObjectId → Option Commit
commit_at k id = option_and_then (λ c. c) (k id)

-- the parents that were read, and none of a border commit
abbrev pub links_at : Read → set.FinSet id_cmp → ObjectId → List ObjectId
links_at k border id = if set.contains border id then [] else option_map_or (λ (c : Commit). c.parents) (commit_at k id) []
