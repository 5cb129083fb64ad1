-- Pieces of a text.
use Rattle.std.specs.Prelude.{ℕ, ◌+◌, ◌-◌, ◌^◌, Bool, false, ◌&&◌, ◌||◌, not, ◌==◌, nat_le, nat_lt, if◌then◌else◌, List, [], ◌∷◌, length}
use Rattle.std.specs.Prelude.{take, drop, nat_eq, Option, Some, None}
use Rattle.std.specs.List.{position, suffix_len, starts_with}
use Rattle.std.specs.Option.{option_map}
use Rattle.std.specs.Str.{all_ascii_digits}
use Rattle.std.specs.Str.Parse.{digits_value}

infixl 10 ◌>>=◌
-- one reading after the other, where the first gives something
abbrev pub ◌>>=◌ : {A B : Type 0} → Option A → (A → Option B) → Option B
(Some x) >>= f = f x
None >>= f = None

-- what stands before the first byte c, and what stands after it
abbrev pub split_first : ℕ → List ℕ → Option (List ℕ × List ℕ)
split_first c bytes = option_map (λ i. (take i bytes, drop (i + 1) bytes)) (position (λ b. b == c) bytes)

-- what stands before the last byte c, and what stands after it
abbrev pub split_last : ℕ → List ℕ → Option (List ℕ × List ℕ)
split_last c bytes =
    let behind = suffix_len (λ b. not (b == c)) bytes in
    if nat_lt behind (length bytes) then Some (take (length bytes - behind - 1) bytes, drop (length bytes - behind) bytes) else None

-- what follows the word at the front
abbrev pub after : List ℕ → List ℕ → Option (List ℕ)
after word bytes = if starts_with nat_eq bytes word then Some (drop (length word) bytes) else None

-- one decimal digit or more
abbrev pub is_decimal : List ℕ → Bool
is_decimal [] = false
is_decimal (c ∷ cs) = all_ascii_digits (c ∷ cs)

-- seconds since 1970, of 1 to 19 digits
abbrev pub seconds_in : List ℕ → Option ℕ
seconds_in text =
    if is_decimal text && nat_le (length text) 19 && nat_lt (digits_value 10 text) (2 ^ 63)
    then Some (digits_value 10 text) else None

-- a time zone: a sign, and one digit or more
abbrev pub is_offset : List ℕ → Bool
is_offset [] = false
is_offset (sign ∷ digits) = (sign == 43 || sign == 45) && is_decimal digits
