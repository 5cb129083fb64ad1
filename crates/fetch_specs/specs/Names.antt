-- Which texts are names.
use Rattle.std.specs.Prelude.{◌≡◌, ℕ, zero, suc, ◌<◌, ◌≤◌, ◌==◌, nat_lt, nat_le, nat_eq, Bool, true, false, not, ◌&&◌, ◌||◌, if◌then◌else◌}
use Rattle.std.specs.Prelude.{List, [], ◌∷◌, ◌++◌, length, take, codes, Option, Some, None, IsTrue}
use Rattle.std.specs.List.{list_all, slice_split, starts_with, ends_with}
use Rattle.std.specs.Str.{bytes_eq}
use Rattle.fetch_specs.specs.Categories.{refs}

-- whether a text begins with a byte
abbrev pub first_is : ℕ → List ℕ → Bool
first_is x [] = false
first_is x (a ∷ others) = a == x

-- whether a text ends with a byte
abbrev pub last_is : ℕ → List ℕ → Bool
last_is x [] = false
last_is x (a ∷ []) = a == x
last_is x (a ∷ b ∷ bs) = last_is x (b ∷ bs)

-- whether somewhere y stands after x
abbrev pub has_pair : ℕ → ℕ → List ℕ → Bool
has_pair x y [] = false
has_pair x y (a ∷ []) = false
has_pair x y (a ∷ b ∷ bs) = (a == x && b == y) || has_pair x y (b ∷ bs)

-- whether a text has no byte
abbrev pub is_empty : List ℕ → Bool
is_empty [] = true
is_empty (a ∷ others) = false

-- `~`, `^`, `:`, `?`, `[` and a backslash
abbrev pub is_special : ℕ → Bool
is_special b = b == 126 || b == 94 || b == 58 || b == 63 || b == 91 || b == 92

-- neither a control byte, a space, nor special; a pattern may have a star
abbrev pub may_stand : Bool → ℕ → Bool
may_stand star b = nat_lt 32 b && not (b == 127) && not (is_special b) && (star || not (b == 42))

-- what no part of a name ends with
unfoldable pub lock : List ℕ
lock = codes ".lock"

-- a part of a name: its bytes may stand, it has no `..` and no `@{`, doesn't begin with a dot or end with `.lock`, and isn't empty
abbrev pub is_component : Bool → List ℕ → Bool
is_component star c =
    list_all (may_stand star) c && not (has_pair 46 46 c) && not (has_pair 64 123 c)
    && not (first_is 46 c) && not (ends_with nat_eq c lock) && not (is_empty c)

-- what stands between the slashes
abbrev pub components : List ℕ → List (List ℕ)
components text = slice_split (λ b. b == 47) text

-- a name: each part is one, there is no dot at the end, and it isn't `@`
unfoldable pub is_name : Bool → List ℕ → Bool
is_name star text = list_all (is_component star) (components text) && not (last_is 46 text) && not (bytes_eq text (64 ∷ []))

-- a capital or `_`
abbrev pub is_capital : ℕ → Bool
is_capital b = (nat_le 65 b && nat_le b 90) || b == 95

-- a full name: a name that begins with `refs/`, or one of capitals
unfoldable pub is_full_name : List ℕ → Bool
is_full_name text = is_name false text && (starts_with nat_eq text refs || list_all is_capital text)

-- the greatest number up to n that passes, or 0
abbrev pub greatest : (ℕ → Bool) → ℕ → ℕ
greatest passes zero = zero
greatest passes (suc n) = if passes (suc n) then suc n else greatest passes n

-- the length of the longest prefix that a letter makes a name
unfoldable pub name_place : Bool → List ℕ → ℕ
name_place star text = greatest (λ k. is_name star (take k text ++ 97 ∷ [])) (length text)

-- whether a prefix goes on as a full name: by a small letter, by a capital, or as `refs/` does
abbrev pub goes_on : List ℕ → Bool
goes_on front = is_full_name (front ++ 97 ∷ []) || is_full_name (front ++ 65 ∷ []) || starts_with nat_eq refs front

-- the length of the longest prefix that goes on to a full name
unfoldable pub full_name_place : List ℕ → ℕ
full_name_place text = greatest (λ k. goes_on (take k text)) (length text)

-- the place is the length of the longest prefix that begins some valid text
pub record IsLongestBeginning (valid : List ℕ → Bool) (text : List ℕ) (place : ℕ) : Type 0 where
  pub within : place ≤ length text
  pub begins : (rest : List ℕ) × IsTrue (valid (take place text ++ rest))
  pub longest : (k : ℕ) → place < k → k ≤ length text → (rest : List ℕ) → valid (take k text ++ rest) ≡ false

-- the place of a text that is no name
abbrev pub name_trouble : Bool → List ℕ → Option ℕ
name_trouble star text = if is_name star text then None else Some (name_place star text)

-- where a text stops being a full name
abbrev pub full_name_trouble : List ℕ → Option ℕ
full_name_trouble text = if is_full_name text then None else Some (full_name_place text)
