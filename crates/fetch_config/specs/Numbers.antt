-- Numbers and truth values.
use Rattle.std.specs.Prelude.{ℕ, ◌-◌, ◌*◌, ◌^◌, Bool, true, false, not, ◌||◌, ◌&&◌, ◌==◌, nat_le, nat_lt, if◌then◌else◌, List, [], ◌∷◌}
use Rattle.std.specs.Prelude.{length, take, codes, Option, Some, None, ℤ, pos, negsuc, neg_ℤ}
use Rattle.std.specs.List.{slice_get}
use Rattle.std.specs.Option.{option_map, option_map_or}
use Rattle.std.specs.Str.{bytes_eq}
use Rattle.std.specs.Str.Parse.{digits_value}
use Rattle.fetch_base.specs.Scan.{◌>>=◌, is_decimal}

-- `k`, `m` and `g` are steps of 1,024.
abbrev pub unit_of : ℕ → Option ℕ
unit_of c =
    if c == 107 then Some 1024
    else if c == 109 then Some 1048576
    else if c == 103 then Some 1073741824
    else None

-- the digits, and the factor after them
abbrev pub split_unit : List ℕ → List ℕ × ℕ
split_unit text = option_map_or (λ unit. (take (length text - 1) text, unit)) (slice_get text (length text - 1) >>= unit_of) (text, 1)

-- the number without its sign, of 2 ^ 63 at most
unfoldable pub magnitude : List ℕ → Option ℕ
magnitude text =
    let parts = split_unit text in
    if is_decimal parts.0 && nat_le (digits_value 10 parts.0 * parts.1) (2 ^ 63)
    then Some (digits_value 10 parts.0 * parts.1) else None

-- a number that fits
abbrev pub positive : ℕ → Option ℤ
positive n = if nat_lt n (2 ^ 63) then Some (pos n) else None

-- a number below zero
abbrev pub negative : ℕ → Option ℤ
negative n = Some (neg_ℤ (pos n))

-- an optional sign, digits, and an optional unit, within 64 bits
unfoldable pub integer_in : List ℕ → Option ℤ
integer_in [] = None
integer_in (c ∷ cs) =
    if c == 45 then magnitude cs >>= negative
    else if c == 43 then magnitude cs >>= positive
    else magnitude (c ∷ cs) >>= positive

-- whether a number is zero
abbrev pub is_zero : ℤ → Bool
is_zero (pos n) = n == 0
is_zero (negsuc n) = false

-- whether a text says yes
unfoldable pub is_yes : List ℕ → Bool
is_yes text = bytes_eq text (codes "true") || bytes_eq text (codes "yes") || bytes_eq text (codes "on")

-- whether a text says no
unfoldable pub is_no : List ℕ → Bool
is_no text = bytes_eq text (codes "false") || bytes_eq text (codes "no") || bytes_eq text (codes "off") || length text == 0

-- An implicit entry is true. A number is true unless it is 0.
abbrev pub truth_of : Option (List ℕ) → Option Bool
truth_of None = Some true
truth_of (Some text) =
    if is_yes text then Some true
    else if is_no text then Some false
    else option_map (λ n. not (is_zero n)) (integer_in text)

-- An implicit entry is no number.
abbrev pub number_of : Option (List ℕ) → Option ℤ
number_of None = None
number_of (Some text) = integer_in text
