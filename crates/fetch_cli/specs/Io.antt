-- What the ends of the program do with bytes, where they tell them.
use Rattle.std.specs.Prelude.{◌≡◌, ℕ, ◌<◌, List, ◌++◌, length, Option, Some, None, Result, ⊤, MatchResult}
use Rattle.std.specs.Io.KnownBytes.{Appends}

-- some prefix of the bytes
abbrev pub IsFront : List ℕ → List ℕ → Type 0
IsFront front bytes = (rest : List ℕ) × (bytes ≡ front ++ rest)

-- All bytes were taken, or at a refusal a prefix of them.
abbrev pub Takes : {T E : Type 0} → Option (List ℕ) → Option (List ℕ) → Result T E → List ℕ → Type 0
Takes before now result bytes =
    MatchResult result (λ _. Appends before now bytes) (λ _. (front : List ℕ) × IsFront front bytes × Appends before now front)

-- what was read to the end, where the source tells what it had
abbrev pub IsAll : Option (List ℕ) → List ℕ → Type 0
IsAll None bytes = ⊤
IsAll (Some input) bytes = bytes ≡ input

-- The input has more bytes than the limit, where the source tells it.
abbrev pub IsLongerThan : ℕ → Option (List ℕ) → Type 0
IsLongerThan limit None = ⊤
IsLongerThan limit (Some input) = limit < length input
