-- Numbers as they are written in scenes and words.
use Rattle.std.specs.Prelude.{ℕ, ◌^◌, Bool, false, not, ◌&&◌, ◌==◌, nat_lt, if◌then◌else◌, List, [], ◌∷◌, Option, Some, None}
use Rattle.std.specs.Prelude.{option_and_then}
use Rattle.std.specs.Str.{all_ascii_digits}
use Rattle.std.specs.Str.Parse.{digits_value}

-- one decimal digit or more, with no zero before others
abbrev pub is_number : List ℕ → Bool
is_number [] = false
is_number (c ∷ []) = all_ascii_digits (c ∷ [])
is_number (c ∷ d ∷ cs) = not (c == 48) && all_ascii_digits (c ∷ d ∷ cs)

-- a number, where it is below this bound
abbrev pub if_below : ℕ → ℕ → Option ℕ
if_below bound n = if nat_lt n bound then Some n else None

-- the number that a text writes, where it has no more than 64 bits
unfoldable pub number_in : List ℕ → Option ℕ
number_in text = if is_number text then if_below (2 ^ 64) (digits_value 10 text) else None

-- and where it has no more than 32
unfoldable pub small_number_in : List ℕ → Option ℕ
small_number_in text = option_and_then (if_below (2 ^ 32)) (number_in text)
