-- Values in ascending order, each once.
use Rattle.std.specs.Prelude.{◌≡◌, Bool, List, [], ◌∷◌}
use Rattle.std.specs.List.{list_any}
use Rattle.std.specs.List.Sorted.{IsStrictlySortedBy}
use Rattle.std.specs.Ordering.{eq_by_cmp}
use Rattle.std.specs.declared.cmp.Ordering.{Ordering}
use Rattle.std.specs.BTreeSet.{insert_key}

-- ascending keys, and each further value at its place, unless an equal one is there
unfoldable pub placed : {K : Type 0} → (K → K → Ordering) → List K → List K → List K
placed cmp keys [] = keys
placed cmp keys (x ∷ xs) = placed cmp (insert_key cmp keys x) xs

-- the values in ascending order, each once
abbrev pub ascending : {K : Type 0} → (K → K → Ordering) → List K → List K
ascending cmp values = placed cmp [] values

-- whether a value is among others, where values that the order doesn't tell apart are one
abbrev pub is_among : {K : Type 0} → (K → K → Ordering) → List K → K → Bool
is_among cmp values x = list_any (eq_by_cmp cmp x) values

-- The list ascends, and has the same values.
pub record AscendsThrough {K : Type 0} (cmp : K → K → Ordering) (values list : List K) : Type 0 where
  pub ascends : IsStrictlySortedBy cmp list
  pub same : (x : K) → is_among cmp list x ≡ is_among cmp values x
