-- What a server owes for what it was asked.
use Rattle.std.specs.Prelude.{◌≡◌, ◌⊎◌, List, Some, IsTrue, IsSome, All}
use Rattle.std.specs.FinMap as map
use Rattle.std.specs.FinSet as set
use Rattle.fetch_base.specs.declared.id.ObjectId.{ObjectId}
use Rattle.fetch_objects.specs.Objects.{Stored}
use Rattle.fetch_store.specs.Stores.{Entries, add_all}
use Rattle.fetch_base.specs.Id.{id_cmp}
use Rattle.fetch_store.specs.Borders.{merged}
use Rattle.fetch_store.specs.Closed.{Holding, Reached, IsCommit, is_commit, links_within, parents}
use Rattle.fetch_store.specs.declared.take.Take.{Take}

-- what a request was made of: what was held, what was wanted, and what was told to be there
pub record Request : Type 0 where
  pub held : Holding
  pub wants : List ObjectId
  pub haves : List ObjectId

-- a pack with its shallow lines
pub record Pack : Type 0 where
  pub objects : Entries
  pub shallow : List ObjectId
  pub unshallow : List ObjectId

-- what a take brings
abbrev pub pack_of : Take → Pack
pack_of t = record { objects = t.objects.now; shallow = t.shallow.now; unshallow = t.unshallow.now }

-- what is held once a pack is taken
abbrev pub taken : Holding → Pack → Holding
taken h pack = record { objects = add_all h.objects pack.objects; border = merged h.border pack.shallow pack.unshallow }

-- in the pack, or reached from the haves
abbrev pub IsThere : Request → Pack → ObjectId → Type 0
IsThere r pack id = IsSome (map.find id_cmp id pack.objects) ⊎ Reached r.held r.haves id

-- a commit in the pack, or a commit that is reached from the haves
abbrev pub IsCommitThere : Request → Pack → ObjectId → Type 0
IsCommitThere r pack id = IsTrue (is_commit (map.find id_cmp id pack.objects)) ⊎ (Reached r.held r.haves id × IsCommit r.held.objects id)

-- a commit of the border that was sent, each of whose parents is there
pub record IsDeepened (r : Request) (pack : Pack) (id : ObjectId) : Type 0 where
  pub sent : IsTrue (set.contains r.held.border id)
  pub parents : (o : Stored) → map.get r.held.objects id ≡ Some o → All (IsThere r pack) (parents o)

-- What is wanted is there, and so is each link of the pack's objects. Shallow lines name commits that are there, and
-- unshallow lines commits of the border that was sent whose parents are.
pub record IsHonest (r : Request) (pack : Pack) : Type 0 where
  pub wants : All (IsThere r pack) r.wants
  -- each link of an object of the pack is there, parents of commits in the merged border aside
  pub links : All (λ e. All (IsThere r pack) (links_within (merged r.held.border pack.shallow pack.unshallow) e.0 e.1)) pack.objects
  pub shallow : All (IsCommitThere r pack) pack.shallow
  pub unshallow : All (IsDeepened r pack) pack.unshallow
