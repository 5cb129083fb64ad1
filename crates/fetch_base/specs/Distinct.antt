-- Values that have distinct keys.
use Rattle.std.specs.Prelude.{◌≡◌, Bool, List, [], ◌∷◌, ◌++◌, if◌then◌else◌}
use Rattle.std.specs.List.{list_any}
use Rattle.std.specs.Ordering.{eq_by_cmp}
use Rattle.std.specs.declared.cmp.Ordering.{Ordering}

-- a value among these has this key
abbrev pub has_key : {K V : Type 0} → (K → K → Ordering) → (V → K) → List V → K → Bool
has_key cmp key_of values key = list_any (λ v. eq_by_cmp cmp key (key_of v)) values

-- The value goes to the end, unless one of its key came before.
abbrev pub with_distinct : {K V : Type 0} → (K → K → Ordering) → (V → K) → List V → V → List V
with_distinct cmp key_of values value = if has_key cmp key_of values (key_of value) then values else values ++ value ∷ []

-- a set has the keys of these values
abbrev pub HasKeys : {K V : Type 0} → (K → K → Ordering) → (V → K) → List V → List K → Type 0
HasKeys {K} cmp key_of values keys = (key : K) → list_any (λ k. eq_by_cmp cmp key k) keys ≡ has_key cmp key_of values key
