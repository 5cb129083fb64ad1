-- Ids that are looked up, and ids that are told once.
use Rattle.std.specs.Prelude.{◌≡◌, Bool, List, [], ◌∷◌, ◌++◌, if◌then◌else◌}
use Rattle.std.specs.BTreeSet.{BTreeSet, contains}
use Rattle.std.specs.List.{list_any}
use Rattle.std.specs.Ordering.{eq_by_cmp}
use Rattle.fetch_base.specs.Id.{id_cmp}
use Rattle.fetch_base.specs.declared.id.ObjectId.{ObjectId}

-- whether an id is one of these
abbrev pub has_id : ObjectId → List ObjectId → Bool
has_id id ids = list_any (λ x. eq_by_cmp id_cmp id x) ids

-- an id more, unless it is one of these
abbrev pub with_id : List ObjectId → ObjectId → List ObjectId
with_id ids id = if has_id id ids then ids else ids ++ id ∷ []

-- ids behind those that are there, each once
abbrev pub each_behind : List ObjectId → List ObjectId → List ObjectId
each_behind before [] = before
each_behind before (id ∷ ids) = each_behind (with_id before id) ids

-- each id once, where it comes first
abbrev pub each_once : List ObjectId → List ObjectId
each_once ids = each_behind [] ids

-- a set has these ids, and no other
abbrev pub HasIds : BTreeSet ObjectId → List ObjectId → Type 0
HasIds known ids = (id : ObjectId) → contains id_cmp known id ≡ has_id id ids
