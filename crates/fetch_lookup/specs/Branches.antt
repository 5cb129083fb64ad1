-- What a configuration and refspecs say of a branch.
use Rattle.std.specs.Prelude.{◌≡◌, ℕ, Bool, true, false, if◌then◌else◌, List, [], ◌∷◌, ◌++◌, nat_eq, codes, slice_get, Option, Some, None}
use Rattle.std.specs.Prelude.{Result, Ok, Err}
use Rattle.std.specs.List.{starts_with, filter_map}
use Rattle.std.specs.Option.{option_map, option_and_then}
use Rattle.std.specs.Str.{bytes_eq}
use Rattle.fetch_base.specs.declared.id.Kind.TheVariants as kinds
use Rattle.fetch_specs.specs.Categories.{refs, heads, shortened}
use Rattle.fetch_specs.specs.Matches.{mappings_of}
use Rattle.fetch_specs.specs.Names.{full_name_trouble}
use Rattle.fetch_specs.specs.declared.error.NameError.{NameError}
use Rattle.fetch_specs.specs.declared.error.NameError.TheVariants as errors
use Rattle.fetch_specs.specs.Specs.{Spec}
use Rattle.fetch_specs.specs.declared.found.Match.{Match}
use Rattle.fetch_config.specs.declared.section.Section.{Section}
use Rattle.fetch_lookup.specs.declared.push.Default.{Default}
use Rattle.fetch_lookup.specs.declared.push.Default.TheVariants.{Nothing, Current, Upstream, Simple, Matching}
use Rattle.fetch_lookup.specs.declared.push.Error.{Error}
use Rattle.fetch_lookup.specs.declared.push.Error.TheVariants.{Unknown, NoMemory}
use Rattle.fetch_lookup.specs.Names.{branch_string_of, string_of}

-- a name in full: one that doesn't begin with `refs/` stands below `refs/heads/`
abbrev pub in_full : List ℕ → List ℕ
in_full text = if starts_with nat_eq text refs then text else heads ++ text

-- what a branch is fetched from: its `merge`, in full
unfoldable pub merge_of : List Section → List ℕ → Option (List ℕ)
merge_of sections name = option_map in_full (branch_string_of sections (shortened name) (codes "merge"))

-- the destination of a match of the one name
abbrev pub destination_of : Match → Option (List ℕ)
destination_of m = option_and_then (λ _. m.rhs) m.item_index

-- the first destination that refspecs give to a name
unfoldable pub destination_in : List Spec → List ℕ → Option (List ℕ)
destination_in specs name = slice_get (filter_map destination_of (mappings_of specs (name ∷ []) kinds.Sha1)) 0

-- what a value of `push.default` says
abbrev pub default_said : List ℕ → Option Default
default_said text =
    if bytes_eq text (codes "nothing") then Some Nothing
    else if bytes_eq text (codes "current") then Some Current
    else if bytes_eq text (codes "upstream") then Some Upstream
    else if bytes_eq text (codes "simple") then Some Simple
    else if bytes_eq text (codes "matching") then Some Matching
    else None

-- out of memory
abbrev pub is_memory : Error → Bool
is_memory (Unknown value) = false
is_memory NoMemory = true

-- an unknown value is refused, unless that is passed over
abbrev pub default_or : Bool → List ℕ → Option Default → Result Default Error
default_or lenient text (Some choice) = Ok choice
default_or true text None = Ok Simple
default_or false text None = Err (Unknown text)

-- the choice of a value, or the one that stands without it
abbrev pub default_at : Bool → Option (List ℕ) → Result Default Error
default_at lenient None = Ok Simple
default_at lenient (Some text) = default_or lenient text (default_said text)

-- What is pushed where no refspec says it.
unfoldable pub push_default_in : List Section → Bool → Result Default Error
push_default_in sections lenient = default_at lenient (string_of sections (codes "push") None (codes "default") false)

-- The name is this text, where that is a full name; else its place is told; or memory ran out.
abbrev pub IsNameOf : List ℕ → Result (List ℕ) NameError → Type 0
IsNameOf text (Ok name) = (name ≡ text) × (full_name_trouble text ≡ None)
IsNameOf text (Err (errors.Invalid place)) = full_name_trouble text ≡ Some place
IsNameOf text (Err errors.NoMemory) = Unit {0}

-- Where there is a destination, it is the name; where there is none, nothing is answered, or memory ran out.
abbrev pub IsDestination : Option (List ℕ) → Option (Result (List ℕ) NameError) → Type 0
IsDestination None None = Unit {0}
IsDestination None (Some result) = result ≡ Err errors.NoMemory
IsDestination (Some text) None = ⊥
IsDestination (Some text) (Some result) = IsNameOf text result
