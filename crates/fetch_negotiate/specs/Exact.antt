-- That marks say what the definition says.
use Rattle.std.specs.Prelude.{◌≡◌, true, List, is_some}
use Rattle.std.specs.FinSet as set
use Rattle.fetch_base.specs.declared.id.ObjectId.{ObjectId}
use Rattle.fetch_store.specs.Graph.{Graph}
use Rattle.fetch_base.specs.Id.{id_cmp}
use Rattle.fetch_negotiate.specs.Commits.{has, commit_of}
use Rattle.fetch_negotiate.specs.Haves.{is_common}

-- Of the stored commits, the list has those that are acknowledged or an ancestor of one, and no other.
pub record IsExact (g : Graph) (border : set.FinSet id_cmp) (acknowledged commits : List ObjectId) : Type 0 where
  pub each : (id : ObjectId) → is_some (commit_of g id) ≡ true → has commits id ≡ is_common g border acknowledged id
