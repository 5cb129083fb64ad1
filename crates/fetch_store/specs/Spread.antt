-- Walks over ids, each of which leads to those one step away.
use Rattle.std.specs.Prelude.{◌≡◌, ℕ, ◌+◌, ◌≤◌, List, [], ◌∷◌, length, Option, Some, IsSome, IfSome, Contains, sum_by}
use Rattle.std.specs.Option.{option_map, option_map_or}
use Rattle.std.specs.FinMap as map
use Rattle.fetch_base.specs.declared.id.ObjectId.{ObjectId}
use Rattle.fetch_store.specs.Closed.{Holding, links_within}

-- the ids one step away from an id; None where nothing is there, so that no walk comes there
abbrev pub Nexts : Type 0
Nexts = ObjectId → Option (List ObjectId)

-- the ids one step away from an id
abbrev pub next_to : Nexts → ObjectId → List ObjectId
next_to nexts id = option_map_or (λ (ids : List ObjectId). ids) (nexts id) []

-- each next id is one step away from the one before, and something is there at the last
abbrev pub IsPath : Nexts → ObjectId → List ObjectId → ObjectId → Type 0
IsPath nexts from [] to = IsSome (nexts from) × (from ≡ to)
IsPath nexts from (next ∷ rest) to = (ids : List ObjectId) × (nexts from ≡ Some ids) × Contains ids next × IsPath nexts next rest to

-- something is at the one id, one step away from the other
abbrev pub IsNext : Nexts → ObjectId → ObjectId → Type 0
IsNext nexts from to = (ids : List ObjectId) × (nexts from ≡ Some ids) × Contains ids to × IsSome (nexts to)

-- a path leads from one of the starts to the id, of no more steps than the limit, if there is one
pub record IsWithin (nexts : Nexts) (starts : List ObjectId) (limit : Option ℕ) (id : ObjectId) : Type 0 where
  pub start : ObjectId
  pub among : Contains starts start
  pub rest : List ObjectId
  pub path : IsPath nexts start rest id
  pub few : IfSome limit (λ n. length rest ≤ n)

-- one step on from what is within that many steps
abbrev pub IsOneOn : Nexts → List ObjectId → ℕ → ObjectId → Type 0
IsOneOn nexts starts n id = (from : ObjectId) × IsWithin nexts starts (Some n) from × IsNext nexts from id

-- how many ids are looked at: the starts, and those one step away from each of these
abbrev pub looked_at : Nexts → List ObjectId → List ObjectId → ℕ
looked_at nexts starts ids = length starts + sum_by (λ id. length (next_to nexts id)) ids

-- the links of what is held, parents of border commits aside
abbrev pub nexts_in : Holding → Nexts
nexts_in h id = option_map (links_within h.border id) (map.get h.objects id)
