-- Packs that need nothing of who takes them.
use Rattle.std.specs.Prelude.{List, [], IsSome, All}
use Rattle.std.specs.FinMap as map
use Rattle.fetch_base.specs.declared.id.ObjectId.{ObjectId}
use Rattle.fetch_store.specs.Stores.{Entries}
use Rattle.fetch_base.specs.Id.{id_cmp}
use Rattle.fetch_store.specs.Closed.{links}
use Rattle.fetch_store.specs.Honest.{Pack, Request}

-- An entry of the list has this id.
abbrev pub Has : Entries → ObjectId → Type 0
Has es id = IsSome (map.find id_cmp id es)

-- All that is wanted is in the list, and so is each link of each of its objects.
pub record IsWhole (wanted : List ObjectId) (es : Entries) : Type 0 where
  pub wants : All (Has es) wanted
  pub links : All (λ e. All (Has es) (links e.1)) es

-- these objects, without shallow or unshallow lines
abbrev pub without_lines : Entries → Pack
without_lines es = record { objects = es; shallow = []; unshallow = [] }

-- the same request, with these haves
abbrev pub with_haves : Request → List ObjectId → Request
with_haves r haves = record r { haves = haves }
