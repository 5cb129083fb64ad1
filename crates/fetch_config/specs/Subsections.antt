-- The characters of a subsection's name.
use Rattle.std.specs.Prelude.{◌≡◌, ℕ, Bool, true, not, ◌&&◌, ◌==◌, List, [], ◌∷◌, ◌++◌, map}
use Rattle.std.specs.List.{list_all, flat_map}

-- a byte that stands for itself, or one after a backslash
pub data Letter : Type 0 where
  Plain : ℕ → Letter
  Escaped : ℕ → Letter

-- a letter of a subsection as it is written
abbrev pub letter_text : Letter → List ℕ
letter_text (Plain c) = c ∷ []
letter_text (Escaped c) = 92 ∷ c ∷ []

-- the byte that it stands for
abbrev pub letter_byte : Letter → ℕ
letter_byte (Plain c) = c
letter_byte (Escaped c) = c

-- A byte that stands for itself is no quote and no backslash; after a backslash each byte may stand.
abbrev pub is_letter : Letter → Bool
is_letter (Plain c) = not (c == 34) && not (c == 92)
is_letter (Escaped c) = true

-- The text is the letters of the name, a quote, and the rest.
pub record IsQuotedName (text name rest : List ℕ) : Type 0 where
  pub letters : List Letter
  pub well : list_all is_letter letters ≡ true
  pub text_is : text ≡ flat_map letter_text letters ++ 34 ∷ rest
  pub name_is : name ≡ map letter_byte letters
