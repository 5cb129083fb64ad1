-- Ids found one after the other, each once.
use Rattle.std.specs.Prelude.{List, [], ◌∷◌, filter, is_some}
use Rattle.fetch_base.specs.declared.id.ObjectId.{ObjectId}
use Rattle.fetch_base.specs.Distinct.{with_distinct}
use Rattle.fetch_store.specs.Spread.{Nexts, next_to}
use Rattle.fetch_base.specs.Id.{id_cmp}

-- with all of these ids, each once
abbrev pub with_each : List ObjectId → List ObjectId → List ObjectId
with_each found [] = found
with_each found (id ∷ ids) = with_each (with_distinct id_cmp (λ (key : ObjectId). key) found id) ids

-- those of the ids at which something is
abbrev pub there : Nexts → List ObjectId → List ObjectId
there nexts ids = filter (λ id. is_some (nexts id)) ids

-- with what is one step away from each of the ids
abbrev pub with_next : Nexts → List ObjectId → List ObjectId → List ObjectId
with_next nexts found [] = found
with_next nexts found (id ∷ ids) = with_next nexts (with_each found (there nexts (next_to nexts id))) ids
