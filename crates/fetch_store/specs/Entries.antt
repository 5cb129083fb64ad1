-- Lists of ids, each with a value.
use Rattle.std.specs.Prelude.{◌≡◌, ℕ, ◌-◌, ◌<◌, ◌≤◌, Bool, false, List, Some, IsTrue, All, get_or, length, slice_get}
use Rattle.std.specs.Ordering.{is_lt}
use Rattle.std.specs.declared.cmp.Ordering.TheVariants.{Less, Greater}
use Rattle.std.specs.Option.{option_map_or}
use Rattle.std.specs.FinMap as map
use Rattle.fetch_base.specs.declared.id.ObjectId.{ObjectId}
use Rattle.fetch_base.specs.Id.{id_cmp}

-- An id that comes again has the same value.
abbrev pub IsConsistent : {X : Type 0} → List (ObjectId × X) → Type 0
IsConsistent es = All (λ e. map.find id_cmp e.0 es ≡ Some e.1) es

-- in ascending order of ids, each once
abbrev pub IsInOrder : {X : Type 0} → List (ObjectId × X) → Type 0
IsInOrder es = IsTrue (map.is_sorted id_cmp es)

-- whether the last id is greater than this one
abbrev pub ends_above : {X : Type 0} → ObjectId → List (ObjectId × X) → Bool
ends_above q es = option_map_or (λ e. is_lt (id_cmp q e.0)) (slice_get es (length es - 1)) false

-- The ids before `low` are less than this one, and those from `high` on are greater.
pub record Surrounds {X : Type 0} (es : List (ObjectId × X)) (q : ObjectId) (low high : ℕ) : Type 0 where
  pub below : (k : ℕ) (d : ObjectId × X) → k < low → id_cmp (get_or es k d).0 q ≡ Less
  pub above : (k : ℕ) (d : ObjectId × X) → high ≤ k → k < length es → id_cmp (get_or es k d).0 q ≡ Greater
  pub inside : low ≤ high
  pub end : high ≤ length es
