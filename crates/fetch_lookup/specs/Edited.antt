-- One element of a list in place of which others stand.
use Rattle.std.specs.Prelude.{ℕ, zero, suc, List, [], ◌∷◌, ◌++◌}

-- the list with what one of its elements gives in its place
abbrev pub edited_at : {A : Type 0} → ℕ → (A → List A) → List A → List A
edited_at i f [] = []
edited_at zero f (x ∷ xs) = f x ++ xs
edited_at (suc i) f (x ∷ xs) = x ∷ edited_at i f xs
