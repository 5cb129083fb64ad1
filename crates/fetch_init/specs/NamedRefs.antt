-- Which reference a name means among those that are mapped.
use Rattle.std.specs.Prelude.{ℕ, Bool, true, false, ◌&&◌, if◌then◌else◌, List, [], ◌∷◌, ◌++◌, map, find, codes, nat_eq}
use Rattle.std.specs.Prelude.{Option, Some, None, is_some, Result, Ok, Err}
use Rattle.std.specs.List.{list_any, filter_map, starts_with}
use Rattle.std.specs.Option.{option_map, option_or, option_and_then}
use Rattle.std.specs.Str.{bytes_eq}
use Rattle.fetch_base.specs.declared.id.ObjectId.{ObjectId}
use Rattle.fetch_specs.specs.Matches.{once, taken}
use Rattle.fetch_lines.specs.References.{source_id, source_name}
use Rattle.fetch_map.specs.declared.mapping.Mapping.{Mapping}
use Rattle.fetch_init.specs.declared.named_ref.NamedRef.{NamedRef}
use Rattle.fetch_init.specs.declared.named_ref.RefNameError.{RefNameError}
use Rattle.fetch_init.specs.declared.named_ref.RefNameError.TheVariants.{Missing, Ambiguous, NoMemory}

-- whether a reference has this name
abbrev pub is_called : List ℕ → Option (List ℕ) → Bool
is_called name None = false
is_called name (Some own) = bytes_eq own name

-- whether a mapping is of a reference of this name that has an id
abbrev pub has_id_of : List ℕ → Mapping → Bool
has_id_of name m = is_called name (source_name m.remote) && is_some (source_id m.remote)

-- the id that a mapped name has, if it has one
abbrev pub id_of : List Mapping → List ℕ → Option ObjectId
id_of mappings name = option_and_then (λ m. source_id m.remote) (find (has_id_of name) mappings)

-- the reference of this name that is mapped
abbrev pub named : List Mapping → List ℕ → Option NamedRef
named mappings name = option_map (λ id. record { name = name; id = id }) (id_of mappings name)

-- a branch of this name, or else a tag
abbrev pub branch_or_tag : List Mapping → List ℕ → Option NamedRef
branch_or_tag mappings wanted = option_or (named mappings (codes "refs/heads/" ++ wanted)) (named mappings (codes "refs/tags/" ++ wanted))

-- the name itself; outside `refs/` also a branch, or else a tag
abbrev pub written_out : List Mapping → List ℕ → Option NamedRef
written_out mappings wanted = option_or (named mappings wanted) (if starts_with nat_eq wanted (codes "refs/") then None
    else branch_or_tag mappings wanted)

-- this reference, where it has a name that a refspec with this source takes, and an id
abbrev pub taken_as : List ℕ → Option (List ℕ) → Option ObjectId → Option NamedRef
taken_as wanted None id = None
taken_as wanted (Some name) None = None
taken_as wanted (Some name) (Some id) = if is_some (taken wanted name) then Some (record { name = name; id = id }) else None

-- the reference that a mapping is of, where such a refspec takes it
abbrev pub taken_at : List ℕ → Mapping → Option NamedRef
taken_at wanted m = taken_as wanted (source_name m.remote) (source_id m.remote)

-- whether two have one name
abbrev pub is_same : NamedRef → NamedRef → Bool
is_same a b = bytes_eq a.name b.name

-- what such a refspec takes, in the order of the mappings, each name once
abbrev pub taken_of : List Mapping → List ℕ → List NamedRef
taken_of mappings wanted = once is_same (filter_map (taken_at wanted) mappings)

-- one more, unless there is one of that name
abbrev pub with_new : List NamedRef → Option NamedRef → List NamedRef
with_new found None = found
with_new found (Some m) = if list_any (λ x. is_same x m) found then found else found ++ m ∷ []

-- the name of a reference
abbrev pub name_of : NamedRef → List ℕ
name_of m = m.name

-- There has to be one.
abbrev pub only_one : List NamedRef → Result NamedRef RefNameError
only_one [] = Err Missing
only_one (m ∷ []) = Ok m
only_one (m ∷ n ∷ ms) = Err (Ambiguous (map name_of (m ∷ n ∷ ms)))

-- the reference, or else the only one that is taken
abbrev pub or_taken : Option NamedRef → List NamedRef → Result NamedRef RefNameError
or_taken (Some m) ms = Ok m
or_taken None ms = only_one ms

-- the reference that a name means, full or short
unfoldable pub ref_named_in : List Mapping → List ℕ → Result NamedRef RefNameError
ref_named_in mappings wanted = or_taken (written_out mappings wanted) (taken_of mappings wanted)

-- out of memory
abbrev pub is_memory : RefNameError → Bool
is_memory NoMemory = true
is_memory Missing = false
is_memory (Ambiguous candidates) = false
