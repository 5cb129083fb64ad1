-- Pieces of a line.
use Rattle.std.specs.Prelude.{◌≡◌, ℕ, ◌-◌, Bool, true, false, not, ◌&&◌, ◌||◌, ◌==◌, if◌then◌else◌, List, [], ◌∷◌, length, take, drop, map}
use Rattle.std.specs.Prelude.{Option, Some, None}
use Rattle.std.specs.List.{prefix_len, suffix_len, list_all}
use Rattle.std.specs.Char.{is_ascii_alphabetic, is_ascii_alphanumeric, to_ascii_lowercase}
use Rattle.std.specs.Str.{bytes_eq}

-- a space or a tab
abbrev pub is_blank : ℕ → Bool
is_blank c = c == 32 || c == 9

-- `#` or `;`
abbrev pub is_comment_sign : ℕ → Bool
is_comment_sign c = c == 35 || c == 59

-- a letter, a digit or `-`
abbrev pub is_name_byte : ℕ → Bool
is_name_byte c = is_ascii_alphanumeric c || c == 45

-- what follows the blanks at the front
abbrev pub skip_blanks : List ℕ → List ℕ
skip_blanks text = drop (prefix_len is_blank text) text

-- the text without the blanks at its end
abbrev pub trim_end : List ℕ → List ℕ
trim_end text = take (length text - suffix_len is_blank text) text

-- whether a text ends here or begins a comment
abbrev pub is_end_or_comment : List ℕ → Bool
is_end_or_comment [] = true
is_end_or_comment (c ∷ cs) = is_comment_sign c

-- Only blanks and a comment stand here.
abbrev pub is_nothing : List ℕ → Bool
is_nothing text = is_end_or_comment (skip_blanks text)

-- a section's name: letters, digits and `-`, at least one
abbrev pub is_name : List ℕ → Bool
is_name text = not (length text == 0) && list_all is_name_byte text

-- an entry's key: a letter, and then letters, digits and `-`
abbrev pub is_key : List ℕ → Bool
is_key [] = false
is_key (c ∷ cs) = is_ascii_alphabetic c && list_all is_name_byte cs

-- what stands after the byte c, where it comes first
abbrev pub behind : ℕ → List ℕ → Option (List ℕ)
behind c [] = None
behind c (x ∷ xs) = if x == c then Some xs else None

-- The case of letters doesn't count.
abbrev pub is_same_name : List ℕ → List ℕ → Bool
is_same_name a b = bytes_eq (map to_ascii_lowercase a) (map to_ascii_lowercase b)

-- The byte c stands nowhere in the text.
abbrev pub IsWithout : ℕ → List ℕ → Type 0
IsWithout c text = list_all (λ b. not (b == c)) text ≡ true
