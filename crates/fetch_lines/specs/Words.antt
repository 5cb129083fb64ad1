-- The words of a text, which single spaces divide.
use Rattle.std.specs.Prelude.{ℕ, Option, Some, None, List, [], ◌∷◌, ◌==◌, if◌then◌else◌}

-- a byte before the first word
abbrev pub before_first : ℕ → List (List ℕ) → List (List ℕ)
before_first b [] = (b ∷ []) ∷ []
before_first b (word ∷ others) = (b ∷ word) ∷ others

-- the words of a text, which stand between spaces
abbrev pub words : List ℕ → List (List ℕ)
words [] = [] ∷ []
words (b ∷ bytes) = if b == 32 then [] ∷ words bytes else before_first b (words bytes)

-- the words of a text, if there is one
abbrev pub words_in : Option (List ℕ) → List (List ℕ)
words_in None = []
words_in (Some text) = words text
