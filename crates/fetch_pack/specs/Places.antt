-- Where each id stands among the objects that are kept.
use Rattle.std.specs.Prelude.{◌≡◌, ℕ, ◌<◌, length, get_or, Option, Some, None}
use Rattle.std.specs.BTreeMap as tree
use Rattle.std.specs.BTreeMap.{BTreeMap}
use Rattle.std.specs.FinMap.{find}
use Rattle.fetch_base.specs.declared.id.ObjectId.{ObjectId}
use Rattle.fetch_objects.specs.Objects.{Stored}
use Rattle.fetch_store.specs.Stores.{Entries}
use Rattle.fetch_base.specs.Id.{id_cmp}

-- At this place stands the first entry of this id; without a place there is none.
abbrev pub IsPlace : Entries → ObjectId → Option ℕ → Type 0
IsPlace kept id None = find id_cmp id kept ≡ None
IsPlace kept id (Some place) = (place < length kept) × ((d : ObjectId × Stored) → find id_cmp id kept ≡ Some (get_or kept place d).1)

-- The map has the place of each id among the entries kept.
abbrev pub ArePlaces : Entries → BTreeMap ObjectId ℕ → Type 0
ArePlaces kept places = (id : ObjectId) → IsPlace kept id (tree.get id_cmp places id)
