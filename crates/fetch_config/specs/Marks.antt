-- The characters of a value, and quotes that group them.
use Rattle.std.specs.Prelude.{◌≡◌, ℕ, Bool, true, false, not, ◌&&◌, ◌==◌, List, [], ◌∷◌, ◌++◌, map}
use Rattle.std.specs.List.{list_all, flat_map}
use Rattle.fetch_config.specs.Pieces.{is_blank, is_comment_sign, skip_blanks, trim_end, is_end_or_comment}

-- a byte that stands for itself, or one of the five escapes
pub data Mark : Type 0 where
  Byte : ℕ → Mark
  Quote : Mark
  Backslash : Mark
  Feed : Mark
  Tab : Mark
  Backspace : Mark

-- `\"`, `\\`, `\n`, `\t` and `\b`
abbrev pub mark_text : Mark → List ℕ
mark_text (Byte c) = c ∷ []
mark_text Quote = 92 ∷ 34 ∷ []
mark_text Backslash = 92 ∷ 92 ∷ []
mark_text Feed = 92 ∷ 110 ∷ []
mark_text Tab = 92 ∷ 116 ∷ []
mark_text Backspace = 92 ∷ 98 ∷ []

-- the byte that it stands for
abbrev pub mark_byte : Mark → ℕ
mark_byte (Byte c) = c
mark_byte Quote = 34
mark_byte Backslash = 92
mark_byte Feed = 10
mark_byte Tab = 9
mark_byte Backspace = 8

-- A byte that stands for itself is no quote and no backslash.
abbrev pub is_mark : Mark → Bool
is_mark (Byte c) = not (c == 34) && not (c == 92)
is_mark _ = true

-- a character outside quotes, or characters between two quotes
pub data Part : Type 0 where
  Bare : Mark → Part
  Quoted : List Mark → Part

-- a part of a value as it is written
abbrev pub part_text : Part → List ℕ
part_text (Bare mark) = mark_text mark
part_text (Quoted marks) = 34 ∷ (flat_map mark_text marks ++ 34 ∷ [])

-- what a part of a value stands for
abbrev pub part_value : Part → List ℕ
part_value (Bare mark) = mark_byte mark ∷ []
part_value (Quoted marks) = map mark_byte marks

-- whether a part is one of the grammar
abbrev pub is_part : Part → Bool
is_part (Bare mark) = is_mark mark
is_part (Quoted marks) = list_all is_mark marks

-- The text is parts one after the other, and the value is what they stand for.
pub record IsInParts (text value : List ℕ) : Type 0 where
  pub parts : List Part
  pub well : list_all is_part parts ≡ true
  pub text_is : text ≡ flat_map part_text parts
  pub value_is : value ≡ flat_map part_value parts

-- whether a mark begins a comment
abbrev pub is_sign : Mark → Bool
is_sign (Byte c) = is_comment_sign c
is_sign _ = false

-- No comment begins in it.
abbrev pub is_free : Part → Bool
is_free (Bare mark) = not (is_sign mark)
is_free (Quoted marks) = true

-- The text is a value's parts, with blanks round them and maybe a comment after.
pub record SaysValue (text value : List ℕ) : Type 0 where
  pub front : List ℕ
  pub parts : List Part
  pub back : List ℕ
  pub comment : List ℕ
  pub text_is : text ≡ front ++ flat_map part_text parts ++ back ++ comment
  pub value_is : value ≡ flat_map part_value parts
  pub well : list_all is_part parts ≡ true
  pub free : list_all is_free parts ≡ true
  pub front_is_blank : list_all is_blank front ≡ true
  pub back_is_blank : list_all is_blank back ≡ true
  pub none_in_front : skip_blanks (flat_map part_text parts) ≡ flat_map part_text parts
  pub none_behind : trim_end (flat_map part_text parts) ≡ flat_map part_text parts
  pub ends : is_end_or_comment comment ≡ true
