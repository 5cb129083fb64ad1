-- Names of which none is equal to one after it stand at one place each.
use Rattle.std.proofs.Common.{◌≡◌, ℕ, zero, suc, true, false, List, [], ◌∷◌, Some, refl, sym, ap, ◌∙◌}
use Rattle.std.specs.Prelude.{slice_get}
use Rattle.std.specs.List.{AllByRecursion, IsDistinct}
use Rattle.std.specs.Str.{bytes_eq}
use Rattle.std.proofs.lemmas.Slice.Eq.{bytes_eq-Decides}
use Rattle.fetch_mirror.specs.Shares.{AreOnce}

-- a text is equal to itself
itself : (name : List ℕ) → bytes_eq name name ≡ true
itself name = (bytes_eq-Decides name name).1 refl

-- none after it is equal
apart : (name : List ℕ) (names : List (List ℕ)) → AllByRecursion (λ y. bytes_eq name y ≡ false) names → (i : ℕ) → slice_get names i ≡ Some name → ⊥
apart name [] all i at = absurd cc
apart name (y ∷ names) all zero at = let same : y ≡ name = cc in absurd (cc (itself name, ap (bytes_eq name) (sym same), all.0))
apart name (y ∷ names) all (suc i) at = apart name names all.1 i at

pub once_at : (names : List (List ℕ)) → IsDistinct bytes_eq names → AreOnce names
unfolding IsDistinct
once_at [] all i j name a b = absurd cc
once_at (x ∷ names) all zero zero name a b = refl
once_at (x ∷ names) all zero (suc j) name a b = let same : x ≡ name = cc in absurd (apart x names all.0 j (b ∙ ap (λ n. Some n) (sym same)))
once_at (x ∷ names) all (suc i) zero name a b = let same : x ≡ name = cc in absurd (apart x names all.0 i (a ∙ ap (λ n. Some n) (sym same)))
once_at (x ∷ names) all (suc i) (suc j) name a b = ap suc (once_at names all.1 i j name a b)
