-- The words of requests, as a server reads them.
use Rattle.std.specs.Prelude.{ℕ, ◌^◌, Bool, true, false, not, ◌&&◌, ◌==◌, nat_lt, List, [], ◌∷◌, ◌++◌, length, slice_index_or, codes}
use Rattle.std.specs.Prelude.{Option, Some, None, if◌then◌else◌}
use Rattle.std.specs.List.{list_any}
use Rattle.std.specs.Option.{option_and_then, option_map_or}
use Rattle.std.specs.Str.{all_ascii_digits}
use Rattle.std.specs.Str.Parse.{digits_value}
use Rattle.fetch_specs.specs.Names.{is_name}
use Rattle.fetch_base.specs.Scan.{after, split_first}

-- what a conversation begins with
unfoldable pub upload_word : List ℕ
upload_word = codes "git-upload-pack "

-- what stands behind the address and its NUL
unfoldable pub version_mark : List ℕ
version_mark = 0 ∷ codes "version=2" ++ 0 ∷ []

-- whether a byte stands in a text
abbrev pub has_byte : ℕ → List ℕ → Bool
has_byte byte text = list_any (λ b. b == byte) text

-- whether a text is empty, or ends with a NUL
abbrev pub ends_with_nul : List ℕ → Bool
ends_with_nul [] = true
ends_with_nul (b ∷ bytes) = slice_index_or (b ∷ bytes) (length bytes) 1 == 0

-- parameters: texts without a line feed, each with a NUL behind it
abbrev pub are_parameters : List ℕ → Bool
are_parameters text = ends_with_nul text && not (has_byte 10 text)

-- an address without a line feed, and behind its NUL the version and the parameters
abbrev pub is_address_with : List ℕ × List ℕ → Bool
is_address_with parts = not (has_byte 10 parts.0) && option_map_or are_parameters (after version_mark parts.1) false

-- Whether a payload is the first line of a conversation: the word, an address without a NUL, a NUL, and what stands behind it.
unfoldable pub is_first_line : List ℕ → Bool
is_first_line payload = option_map_or (λ rest. option_map_or is_address_with (split_first 0 rest) false) (after upload_word payload) false

-- a word that asks for references that name others
unfoldable pub symrefs_word : List ℕ
symrefs_word = codes "symrefs"

-- a word that asks for what tags peel to
unfoldable pub peel_word : List ℕ
peel_word = codes "peel"

-- a word that asks for an unborn reference
unfoldable pub unborn_word : List ℕ
unborn_word = codes "unborn"

-- what stands before a prefix
unfoldable pub prefix_word : List ℕ
prefix_word = codes "ref-prefix "

-- ---- numbers and names

-- one decimal digit or more, with no zero before others
abbrev pub is_number : List ℕ → Bool
is_number [] = false
is_number (c ∷ []) = all_ascii_digits (c ∷ [])
is_number (c ∷ d ∷ cs) = not (c == 48) && all_ascii_digits (c ∷ d ∷ cs)

-- a number, where it is below this bound
abbrev pub if_below : ℕ → ℕ → Option ℕ
if_below bound n = if nat_lt n bound then Some n else None

-- the number that a text writes, where it has no more than 64 bits
unfoldable pub number_in : List ℕ → Option ℕ
number_in text = if is_number text then if_below (2 ^ 64) (digits_value 10 text) else None

-- and where it has no more than 32
unfoldable pub small_number_in : List ℕ → Option ℕ
small_number_in text = option_and_then (if_below (2 ^ 32)) (number_in text)

-- a text, where it is a name, whole or short
abbrev pub if_name : List ℕ → Option (List ℕ)
if_name text = if is_name false text then Some text else None
