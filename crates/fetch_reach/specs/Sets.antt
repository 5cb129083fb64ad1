-- Lists of ids, taken as sets.
use Rattle.std.specs.Prelude.{Bool, List}
use Rattle.std.specs.List.{list_any}
use Rattle.std.specs.Ordering.{eq_by_cmp}
use Rattle.fetch_base.specs.declared.id.ObjectId.{ObjectId}
use Rattle.fetch_base.specs.Id.{id_cmp}

-- whether the id is one of these
abbrev pub is_among : ObjectId → List ObjectId → Bool
is_among id ids = list_any (eq_by_cmp id_cmp id) ids
