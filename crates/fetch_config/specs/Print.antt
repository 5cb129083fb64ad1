-- The text of sections.
use Rattle.std.specs.Prelude.{ℕ, ◌-◌, Bool, true, false, ◌||◌, ◌==◌, if◌then◌else◌, List, [], ◌∷◌, ◌++◌, length, Option, Some, None}
use Rattle.std.specs.List.{slice_get, list_any, filter, flat_map}
use Rattle.fetch_config.specs.declared.meta.Origin.{Origin}
use Rattle.fetch_config.specs.declared.meta.Origin.TheVariants as origins
use Rattle.fetch_config.specs.declared.section.Section.{Section}
use Rattle.fetch_config.specs.Pieces.{is_blank, is_comment_sign}

-- how a byte of a value is written
abbrev pub value_byte : ℕ → List ℕ
value_byte c =
    if c == 92 then 92 ∷ 92 ∷ []
    else if c == 34 then 92 ∷ 34 ∷ []
    else if c == 10 then 92 ∷ 110 ∷ []
    else if c == 9 then 92 ∷ 116 ∷ []
    else if c == 8 then 92 ∷ 98 ∷ []
    else c ∷ []

-- a blank or a carriage return
abbrev pub is_blank_or_return : ℕ → Bool
is_blank_or_return c = is_blank c || c == 13

-- whether a byte at a value's edge would be trimmed, or there is none
abbrev pub is_edge : Option ℕ → Bool
is_edge None = true
is_edge (Some c) = is_blank_or_return c

-- A value is quoted where it is empty, begins or ends with a blank or a carriage return, or has a comment sign.
abbrev pub needs_quotes : List ℕ → Bool
needs_quotes text = is_edge (slice_get text 0) || is_edge (slice_get text (length text - 1)) || list_any is_comment_sign text

-- a value with its escapes
abbrev pub escaped : List ℕ → List ℕ
escaped text = flat_map value_byte text

-- a value as it is written, in quotes where it needs them
unfoldable pub value_text : List ℕ → List ℕ
value_text text = if needs_quotes text then 34 ∷ (escaped text ++ 34 ∷ []) else escaped text

-- ` = ` and the value; nothing where an entry is implicit
abbrev pub equals_text : Option (List ℕ) → List ℕ
equals_text None = []
equals_text (Some value) = 32 ∷ 61 ∷ 32 ∷ value_text value

-- TAB, the key and the value
abbrev pub entry_text : List ℕ × Option (List ℕ) → List ℕ
entry_text entry = 9 ∷ (entry.0 ++ equals_text entry.1 ++ 10 ∷ [])

-- how a byte of a subsection is written
abbrev pub sub_byte : ℕ → List ℕ
sub_byte c = if c == 92 || c == 34 then 92 ∷ c ∷ [] else c ∷ []

-- a subsection as it is written
abbrev pub sub_text : Option (List ℕ) → List ℕ
sub_text None = []
sub_text (Some text) = 32 ∷ 34 ∷ (flat_map sub_byte text ++ 34 ∷ [])

-- a header as it is written
abbrev pub header_text : Section → List ℕ
header_text s = 91 ∷ (s.name ++ sub_text s.sub ++ 93 ∷ 10 ∷ [])

-- a section as it is written
abbrev pub section_text : Section → List ℕ
section_text s = header_text s ++ flat_map entry_text s.entries

-- sections as they are written
unfoldable pub text_of : List Section → List ℕ
text_of sections = flat_map section_text sections

-- whether two origins are one
abbrev pub is_same_origin : Origin → Origin → Bool
is_same_origin origins.System origins.System = true
is_same_origin origins.Global origins.Global = true
is_same_origin origins.Local origins.Local = true
is_same_origin origins.Api origins.Api = true
is_same_origin _ _ = false

-- a section of this source, or any section
abbrev pub is_of : Option Origin → Section → Bool
is_of None s = true
is_of (Some origin) s = is_same_origin s.meta.source origin

-- the sections of an origin, or all
abbrev pub of_origin : Option Origin → List Section → List Section
of_origin origin sections = filter (is_of origin) sections

-- the text of a section of this source
abbrev pub text_if_of : Option Origin → Section → List ℕ
text_if_of origin s = if is_of origin s then section_text s else []
