-- The same pieces of a text, as the text is put together from them.
use Rattle.std.specs.Prelude.{◌≡◌, ℕ, List, ◌∷◌, ◌++◌, Some, ◌==◌, not, true}
use Rattle.std.specs.List.{list_all}
use Rattle.fetch_base.specs.Scan.{split_first, split_last}

-- The byte c stands nowhere in the text.
abbrev pub IsWithout : ℕ → List ℕ → Type 0
IsWithout c text = list_all (λ b. not (b == c)) text ≡ true

-- Splitting tells the one way to put the text together round the first c.
pub record SplitsExactly (c : ℕ) (bytes : List ℕ) : Type 0 where
  pub found : (before behind : List ℕ) → split_first c bytes ≡ Some (before, behind) → (bytes ≡ before ++ c ∷ behind) × IsWithout c before
  pub only : (before behind : List ℕ) → bytes ≡ before ++ c ∷ behind → IsWithout c before → split_first c bytes ≡ Some (before, behind)

-- The same round the last c.
pub record SplitsLastExactly (c : ℕ) (bytes : List ℕ) : Type 0 where
  pub found : (before behind : List ℕ) → split_last c bytes ≡ Some (before, behind) → (bytes ≡ before ++ c ∷ behind) × IsWithout c behind
  pub only : (before behind : List ℕ) → bytes ≡ before ++ c ∷ behind → IsWithout c behind → split_last c bytes ≡ Some (before, behind)
