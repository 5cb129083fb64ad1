-- Borders: finite sets of the commits whose parents are left out.
use Rattle.std.specs.Prelude.{List, map}
use Rattle.std.specs.Coded.{Coded}
use Rattle.std.specs.FinMap as finmap
use Rattle.std.specs.FinSet as set
use Rattle.fetch_base.specs.declared.id.ObjectId.{ObjectId}
use Rattle.fetch_base.specs.Id.{id_cmp}
use Rattle.fetch_objects.specs.Codes.{coded_id}

-- a set of ids
abbrev pub IdSet : Type 0
IdSet = set.FinSet id_cmp

-- a set of ids, coded
abbrev pub coded_ids : Coded IdSet
coded_ids = set.code {R = id_cmp} coded_id

-- the set of a list's ids
abbrev pub set_of : List ObjectId → IdSet
set_of ids = set.from_list ids

-- the ids of a set, each once, in ascending order
unfoldable pub ids_of : IdSet → List ObjectId
ids_of s = finmap.keys (finmap.from_entries {R = id_cmp} (map (λ id. (id, tt {0})) (set.items s)))

-- (the border with the shallow lines) without the unshallow lines
abbrev pub merged : IdSet → List ObjectId → List ObjectId → IdSet
merged border shallow unshallow = set.difference (set.union border (set_of shallow)) (set_of unshallow)
