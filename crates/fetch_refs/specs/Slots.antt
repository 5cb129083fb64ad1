-- Maps of names that are kept in places, of which some hold nothing.
use Rattle.std.specs.Prelude.{ℕ, List, [], ◌∷◌, Option, Some, None, map}
use Rattle.std.specs.FinMap as finmap
use Rattle.std.specs.FinMap.{FinMap}
use Rattle.fetch_refs.specs.Names.{name_cmp}

-- the map with a value, or with none, at a name
abbrev pub with_slot : {X : Type 0} → FinMap name_cmp X → List ℕ → Option X → FinMap name_cmp X
with_slot m name (Some v) = finmap.insert m name v
with_slot m name None = finmap.remove m name

-- The map below, and over it a value, or none, at some names.
abbrev pub over : {X : Type 0} → FinMap name_cmp X → List (List ℕ × Option X) → FinMap name_cmp X
over below [] = below
over below (e ∷ es) = with_slot (over below es) e.0 e.1

-- the entries, with another value of each
abbrev pub each : {S X : Type 0} → (S → X) → List (List ℕ × S) → List (List ℕ × X)
each f es = map (λ e. (e.0, f e.1)) es
