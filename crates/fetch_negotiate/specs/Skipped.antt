-- What a negotiation that passes commits over keeps.
use Rattle.std.specs.Prelude.{◌≡◌, Bool, List}
use Rattle.std.specs.FinSet as set
use Rattle.std.specs.List.{list_any}
use Rattle.std.specs.Prelude.{is_some}
use Rattle.fetch_base.specs.declared.id.ObjectId.{ObjectId}
use Rattle.fetch_store.specs.Graph.{Graph}
use Rattle.fetch_base.specs.Id.{id_cmp}
use Rattle.fetch_negotiate.specs.declared.skip.Skip.{Skip}
use Rattle.fetch_negotiate.specs.declared.skips.Skips.{Skips}
use Rattle.fetch_negotiate.specs.declared.walk.HaveWalk.{HaveWalk}
use Rattle.fetch_negotiate.specs.Commits.{commit_of}
use Rattle.fetch_negotiate.specs.Paired.{IsPaired}
use Rattle.fetch_negotiate.specs.Reading.{Read, IsTold, read_in}
use Rattle.fetch_negotiate.specs.Skips.{is_offered, has_parents, pairs_of}
use Rattle.fetch_negotiate.specs.Walking.{IsWalk, so_far_in}

-- The pairs are those that the definition gives, whatever graph tells what was read.
pub record IsSkipping (w : HaveWalk) (s : Skips) : Type 0 where
  pub walk : IsWalk w
  pub paired : IsPaired s
  pub handed : (g : Graph) → IsTold (read_in w.table) g → s.handed.items ≡ pairs_of g (so_far_in w)

-- Each graph that tells what was read says so.
pub record AnyStored (k : Read) (ids : List ObjectId) (any : Bool) : Type 0 where
  pub says : (g : Graph) → IsTold k g → any ≡ list_any (λ id. is_some (commit_of g id)) ids

-- It tells whether the commit has stored parents, in each graph that was read.
pub record HasParents (k : Read) (border : set.FinSet id_cmp) (id : ObjectId) (has : Bool) : Type 0 where
  pub says : (g : Graph) → IsTold k g → has ≡ has_parents g border id

-- It tells whether the commit is offered, in each graph that was read.
pub record IsOffered (k : Read) (border : set.FinSet id_cmp) (skip : Skip) (id : ObjectId) (offered : Bool) : Type 0 where
  pub says : (g : Graph) → IsTold k g → offered ≡ is_offered g border skip id
