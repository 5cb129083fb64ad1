-- What a header's and an entry's line are made of.
use Rattle.std.specs.Prelude.{◌≡◌, ℕ, true, false, List, [], ◌∷◌, ◌++◌, map, Option, Some, None}
use Rattle.std.specs.List.{list_all, flat_map}
use Rattle.fetch_config.specs.Pieces.{is_blank, is_name, is_key, is_nothing}
use Rattle.fetch_config.specs.Lines.{has_nul}
use Rattle.fetch_config.specs.Marks.{SaysValue}
use Rattle.fetch_config.specs.Subsections.{Letter, letter_text, letter_byte, is_letter}

-- blanks, at least one, and a subsection between two quotes
pub record IsQuoted (text sub : List ℕ) : Type 0 where
  pub blank : ℕ
  pub blanks : List ℕ
  pub letters : List Letter
  pub text_is : text ≡ blank ∷ (blanks ++ 34 ∷ (flat_map letter_text letters ++ 34 ∷ []))
  pub are_blank : list_all is_blank (blank ∷ blanks) ≡ true
  pub well : list_all is_letter letters ≡ true
  pub sub_is : sub ≡ map letter_byte letters

-- what stands between a header's name and its bracket
abbrev pub SaysSub : List ℕ → Option (List ℕ) → Type 0
SaysSub text None = text ≡ []
SaysSub text (Some sub) = IsQuoted text sub

-- Blanks, a bracket, the name, maybe a subsection, a bracket, and then nothing or a comment.
pub record SaysHeader (text name : List ℕ) (sub : Option (List ℕ)) : Type 0 where
  pub front : List ℕ
  pub inner : List ℕ
  pub tail : List ℕ
  pub text_is : text ≡ front ++ 91 ∷ (name ++ (inner ++ 93 ∷ tail))
  pub front_is_blank : list_all is_blank front ≡ true
  pub named : is_name name ≡ true
  pub sub_is : SaysSub inner sub
  pub nothing : is_nothing tail ≡ true
  pub no_nul : has_nul text ≡ false

-- after the `=` a value, where there is one
pub record IsAssigned (text value : List ℕ) : Type 0 where
  pub rest : List ℕ
  pub text_is : text ≡ 61 ∷ rest
  pub value_is : SaysValue rest value

-- What follows a key: nothing, or a value after an equals sign.
abbrev pub SaysAssigned : List ℕ → Option (List ℕ) → Type 0
SaysAssigned text None = text ≡ []
SaysAssigned text (Some value) = IsAssigned text value

-- Blanks, the key, blanks, and then `=` and the value, or nothing.
pub record SaysEntry (text key : List ℕ) (value : Option (List ℕ)) : Type 0 where
  pub front : List ℕ
  pub blanks : List ℕ
  pub back : List ℕ
  pub text_is : text ≡ front ++ (key ++ (blanks ++ back))
  pub front_is_blank : list_all is_blank front ≡ true
  pub blanks_are_blank : list_all is_blank blanks ≡ true
  pub keyed : is_key key ≡ true
  pub value_is : SaysAssigned back value
  pub no_nul : has_nul text ≡ false
