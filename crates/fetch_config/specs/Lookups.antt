-- What a look-up finds.
use Rattle.std.specs.Prelude.{ℕ, ◌-◌, ◌^◌, min, Bool, true, false, not, ◌&&◌, ◌||◌, if◌then◌else◌, List, [], ◌∷◌, length, Option, Some}
use Rattle.std.specs.Prelude.{None, Result, Ok, Err, ℤ}
use Rattle.std.specs.List.{filter_map, flat_map}
use Rattle.std.specs.Option.{option_map}
use Rattle.std.specs.Str.{bytes_eq}
use Rattle.fetch_config.specs.declared.error.Unreadable.{Unreadable}
use Rattle.fetch_config.specs.declared.section.Section.{Section}
use Rattle.fetch_config.specs.Pieces.{is_same_name}
use Rattle.fetch_config.specs.Numbers.{truth_of, number_of}

-- Subsections are compared exactly.
abbrev pub is_same_sub : Option (List ℕ) → Option (List ℕ) → Bool
is_same_sub None None = true
is_same_sub (Some a) (Some b) = bytes_eq a b
is_same_sub None (Some b) = false
is_same_sub (Some a) None = false

-- A section is looked at where it has this name and this subsection, and is trusted where that is asked.
abbrev pub is_meant : List ℕ → Option (List ℕ) → Bool → Section → Bool
is_meant name sub trusted_only s = is_same_name s.name name && is_same_sub s.sub sub && (s.meta.trusted || not trusted_only)

-- the value of an entry of this key
abbrev pub values_at : List ℕ → List ℕ × Option (List ℕ) → List (Option (List ℕ))
values_at key e = if is_same_name e.0 key then e.1 ∷ [] else []

-- the values that a look-up looks at in a section
abbrev pub values_in : List ℕ → Option (List ℕ) → List ℕ → Bool → Section → List (Option (List ℕ))
values_in name sub key trusted_only s = if is_meant name sub trusted_only s then flat_map (values_at key) s.entries else []

-- the values of all entries that a look-up looks at, in order; None is an implicit entry
unfoldable pub values_of : List ℕ → Option (List ℕ) → List ℕ → Bool → List Section → List (Option (List ℕ))
values_of name sub key trusted_only sections = flat_map (values_in name sub key trusted_only) sections

-- the values of entries that aren't implicit
unfoldable pub explicit : List (Option (List ℕ)) → List (List ℕ)
explicit values = filter_map (λ v. v) values

-- the last of a list, or else this one
unfoldable pub last_or : {A : Type 0} → Option A → List A → Option A
last_or found [] = found
last_or found (x ∷ xs) = last_or (Some x) xs

-- the last of a list
abbrev pub last_of : {A : Type 0} → List A → Option A
last_of xs = last_or None xs

-- the number, from 0, of the last entry, or the greatest place that can be told
abbrev pub last_place : List (Option (List ℕ)) → Unreadable
last_place values = record { place = min (length values) (2 ^ 64 - 1) - 1 }

-- a value that was read, or why not
abbrev pub readable : {A : Type 0} → Option A → Unreadable → Result A Unreadable
readable None refusal = Err refusal
readable (Some x) refusal = Ok x

-- The last entry counts.
unfoldable pub boolean_of : List (Option (List ℕ)) → Option (Result Bool Unreadable)
boolean_of values = option_map (λ v. readable (truth_of v) (last_place values)) (last_of values)

-- the last of these values as a number
unfoldable pub integer_of : List (Option (List ℕ)) → Option (Result ℤ Unreadable)
integer_of values = option_map (λ v. readable (number_of v) (last_place values)) (last_of values)
