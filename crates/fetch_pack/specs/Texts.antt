-- Texts that grow.
use Rattle.std.specs.Prelude.{◌≡◌, ℕ, List, length, take}

-- What stood before stands at the front.
abbrev pub Keeps : List ℕ → List ℕ → Type 0
Keeps before after = take (length before) after ≡ before
