-- Which of the stored ids were found, told by their places.
use Rattle.std.specs.Prelude.{◌≡◌, ℕ, ◌<◌, Bool, false, List, [], All, get_or, length, map}
use Rattle.std.specs.List.{list_any}
use Rattle.std.specs.Ordering.{eq_by_cmp}
use Rattle.fetch_base.specs.declared.id.ObjectId.{ObjectId}
use Rattle.fetch_base.specs.declared.id.ObjectId.TheVariants.{Sha1}
use Rattle.fetch_base.specs.Id.{id_cmp}

-- whether an id is one of a list
abbrev pub is_among : ObjectId → List ObjectId → Bool
is_among id ids = list_any (eq_by_cmp id_cmp id) ids

-- the ids that stand at these places
abbrev pub ids_at : List ObjectId → List ℕ → List ObjectId
ids_at stored places = map (λ place. get_or stored place (Sha1 [])) places

-- The mark of each stored id says whether it stands at one of the places.
pub record AreMarked (stored : List ObjectId) (marks : List Bool) (places : List ℕ) : Type 0 where
  pub len : length marks ≡ length stored
  pub each : (k : ℕ) (d : ObjectId) → k < length stored → get_or marks k false ≡ is_among (get_or stored k d) (ids_at stored places)
  pub within : All (λ place. place < length stored) places
