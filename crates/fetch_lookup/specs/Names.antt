-- How remotes and branches are named.
use Rattle.std.specs.Prelude.{◌≡◌, ℕ, ◌==◌, Bool, true, false, ◌&&◌, ◌||◌, if◌then◌else◌, List, [], ◌∷◌, ◌++◌, codes, filter}
use Rattle.std.specs.Prelude.{option_to_list, option_and_then, Option, Some, None, Result, Ok, Err}
use Rattle.std.specs.List.{list_any, flat_map, find}
use Rattle.std.specs.Option.{option_map, option_or}
use Rattle.std.specs.declared.cmp.Ordering.{Ordering}
use Rattle.std.specs.Ordering.{nat_cmp}
use Rattle.std.specs.Cmp.Lexicographic.{slice_cmp}
use Rattle.std.specs.Str.{bytes_eq, is_utf8}
use Rattle.std.specs.Str.Lossy.{utf8_valid_len}
use Rattle.fetch_specs.specs.Parses.{parsed}
use Rattle.fetch_specs.specs.Specs.{Spec}
use Rattle.fetch_specs.specs.declared.error.SpecError.{SpecError}
use Rattle.fetch_specs.specs.declared.error.SpecError.TheVariants.{InvalidName}
use Rattle.fetch_specs.specs.declared.operation.Operation.TheVariants as operations
use Rattle.fetch_config.specs.Lookups.{values_of, explicit, last_of}
use Rattle.fetch_config.specs.Pieces.{is_same_name}
use Rattle.fetch_config.specs.declared.section.Section.{Section}
use Rattle.fetch_lookup.specs.declared.direction.Direction.{Direction}
use Rattle.fetch_lookup.specs.declared.direction.Direction.TheVariants.{Push, Fetch}
use Rattle.fetch_lookup.specs.declared.name.Error.{Error}
use Rattle.fetch_lookup.specs.declared.name.Error.TheVariants.{Invalid, NoMemory}
use Rattle.fetch_lookup.specs.declared.name.Name.{Name}
use Rattle.fetch_lookup.specs.declared.name.Name.TheVariants.{Symbol, Url}
use Rattle.fetch_lookup.specs.Ordered.{ascending}

-- a text that has a slash, or is a dot
abbrev pub is_place : List ℕ → Bool
is_place text = list_any (λ b. b == 47) text || bytes_eq text (46 ∷ [])

-- a text where it is UTF-8
abbrev pub if_utf8 : List ℕ → Option (List ℕ)
if_utf8 text = if is_utf8 text then Some text else None

-- where the first ill-formed sequence begins of a text that isn't UTF-8
abbrev pub ill_formed_place : List ℕ → Option ℕ
ill_formed_place text = if is_utf8 text then None else Some (utf8_valid_len text)

-- What a text names: a place, or where it is UTF-8 a symbol.
abbrev pub name_of : List ℕ → Option Name
name_of text = if is_place text then Some (Url text) else if is_utf8 text then Some (Symbol text) else None

-- the text of a name
abbrev pub text_of : Name → List ℕ
text_of (Symbol text) = text
text_of (Url text) = text

-- a symbol's text, where it is UTF-8
abbrev pub symbol_of : Name → Option (List ℕ)
symbol_of (Symbol text) = if_utf8 text
symbol_of (Url text) = None

-- the text of a name that is a place
abbrev pub url_of : Name → Option (List ℕ)
url_of (Symbol text) = None
url_of (Url text) = Some text

-- a refspec that has a remote's name in its destination
unfoldable pub tracking_text : List ℕ → List ℕ
tracking_text name = codes "refs/heads/test:refs/remotes/" ++ (name ++ codes "/test")

-- why a refspec is refused where its text has to be UTF-8 too
abbrev pub refusal_in : List ℕ → Result Spec SpecError → Option SpecError
refusal_in text (Err e) = Some e
refusal_in text (Ok spec) = option_map InvalidName (ill_formed_place text)

-- Why a text is no name of a remote: with it, a refspec is refused.
abbrev pub name_refusal : List ℕ → Option SpecError
name_refusal name = refusal_in (tracking_text name) (parsed operations.Fetch (tracking_text name))

-- A refusal tells that reason and the name; or memory ran out.
abbrev pub IsNameRefusal : List ℕ → Error → Type 0
IsNameRefusal name (Invalid source told) = (name_refusal name ≡ Some source) × (told ≡ name)
IsNameRefusal name NoMemory = Unit {0}

-- the order of texts, byte by byte
abbrev pub text_cmp : List ℕ → List ℕ → Ordering
text_cmp = slice_cmp nat_cmp

-- the subsection of a trusted section of this name
abbrev pub subsection_in : List ℕ → Section → List (List ℕ)
subsection_in name s = if is_same_name s.name name && s.meta.trusted then option_to_list s.sub else []

-- the subsections of trusted sections of this name
abbrev pub subsections_of : List ℕ → List Section → List (List ℕ)
subsections_of name sections = flat_map (subsection_in name) sections

-- the name of a remote's sections
unfoldable pub remote : List ℕ
remote = codes "remote"

-- the name of a branch's sections
unfoldable pub branch : List ℕ
branch = codes "branch"

-- the remotes that trusted sections name, in ascending order
unfoldable pub remote_names_of : List Section → List (List ℕ)
remote_names_of sections = ascending text_cmp (subsections_of remote sections)

-- the branches that trusted sections name in UTF-8, in ascending order
unfoldable pub branch_names_of : List Section → List (List ℕ)
branch_names_of sections = filter is_utf8 (ascending text_cmp (subsections_of branch sections))

-- the last value of a key that isn't implicit
abbrev pub string_of : List Section → List ℕ → Option (List ℕ) → List ℕ → Bool → Option (List ℕ)
string_of sections name sub key trusted_only = last_of (explicit (values_of name sub key trusted_only sections))

-- the remote that is meant among several
unfoldable pub origin : List ℕ
origin = codes "origin"

-- the only name, or `origin` among several
abbrev pub only_or_origin : List (List ℕ) → Option (List ℕ)
only_or_origin [] = None
only_or_origin (name ∷ []) = Some name
only_or_origin (a ∷ b ∷ names) = find (λ name. bytes_eq name origin) (a ∷ b ∷ names)

-- where is pushed to by default, among trusted sections alone or among all
abbrev pub push_default_of : List Section → Bool → Option (List ℕ)
push_default_of sections trusted_only = string_of sections remote None (codes "pushDefault") trusted_only

-- The remote that is meant where none is named.
unfoldable pub default_name_of : List Section → Direction → Option (List ℕ)
default_name_of sections Push = option_or (push_default_of sections true) (only_or_origin (remote_names_of sections))
default_name_of sections Fetch = only_or_origin (remote_names_of sections)

-- a key of a branch
abbrev pub branch_string_of : List Section → List ℕ → List ℕ → Option (List ℕ)
branch_string_of sections short key = string_of sections branch (Some short) key false

-- the text that says which remote a branch has
unfoldable pub branch_text_of : List Section → List ℕ → Direction → Option (List ℕ)
branch_text_of sections short Push = option_or (branch_string_of sections short (codes "pushRemote"))
    (option_or (push_default_of sections false) (branch_string_of sections short (codes "remote")))
branch_text_of sections short Fetch = branch_string_of sections short (codes "remote")

-- Which remote a branch has, where the text is a name.
abbrev pub branch_name_of : List Section → List ℕ → Direction → Option Name
branch_name_of sections short direction = option_and_then name_of (branch_text_of sections short direction)
