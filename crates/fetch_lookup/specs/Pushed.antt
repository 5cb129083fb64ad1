-- What a branch is called on its remote.
use Rattle.std.specs.Prelude.{ℕ, Bool, true, false, if◌then◌else◌, List, [], ◌∷◌, Option, Some, None, Result, Ok, Err}
use Rattle.std.specs.Option.{option_map}
use Rattle.std.specs.Str.{bytes_eq}
use Rattle.fetch_specs.specs.Names.{full_name_trouble}
use Rattle.fetch_specs.specs.Specs.{Spec}
use Rattle.fetch_config.specs.declared.section.Section.{Section}
use Rattle.fetch_lookup.specs.declared.branch.Error.{Error}
use Rattle.fetch_lookup.specs.declared.branch.Error.TheVariants.{Name, PushDefault, NoMemory}
use Rattle.fetch_lookup.specs.declared.direction.Direction.{Direction}
use Rattle.fetch_lookup.specs.declared.direction.Direction.TheVariants.{Push, Fetch}
use Rattle.fetch_lookup.specs.declared.push.Default.{Default}
use Rattle.fetch_lookup.specs.declared.push.Default.TheVariants.{Nothing, Current, Upstream, Simple, Matching}
use Rattle.fetch_lookup.specs.declared.push.Error.{Error as DefaultError}
use Rattle.fetch_lookup.specs.declared.push.Error.TheVariants as defaults
use Rattle.fetch_lookup.specs.declared.remote.RemoteParts.{RemoteParts}
use Rattle.fetch_lookup.specs.Branches.{merge_of, destination_in, push_default_in}

-- out of memory
abbrev pub is_memory : Error → Bool
is_memory NoMemory = true
is_memory _ = false

-- a text, unless it is no full name
abbrev pub unless_trouble : List ℕ → Option ℕ → Result (List ℕ) Error
unless_trouble text None = Ok text
unless_trouble text (Some place) = Err (Name place)

-- a text as a full name, or its place where it is none
abbrev pub named : List ℕ → Result (List ℕ) Error
named text = unless_trouble text (full_name_trouble text)

-- an answer where there is a text, or why there is none
abbrev pub told : Result (Option (List ℕ)) Error → Option (Result (List ℕ) Error)
told (Err e) = Some (Err e)
told (Ok text) = option_map named text

-- a name, where it is this one
abbrev pub where_same : List ℕ → Option (List ℕ) → Option (List ℕ)
where_same name None = None
where_same name (Some text) = if bytes_eq text name then Some text else None

-- what a branch is pushed to by `push.default`, where it is fetched from `merge`
abbrev pub target_by : Default → List ℕ → Option (List ℕ) → Option (List ℕ)
target_by Nothing name merge = None
target_by Current name merge = Some name
target_by Upstream name merge = merge
target_by Simple name merge = where_same name merge
target_by Matching name merge = Some name

-- where a branch is pushed by this choice, or why the choice can't be read
abbrev pub target_or : Result Default DefaultError → List ℕ → Option (List ℕ) → Result (Option (List ℕ)) Error
target_or (Ok choice) name merge = Ok (target_by choice name merge)
target_or (Err (defaults.Unknown value)) name merge = Err (PushDefault value)
target_or (Err defaults.NoMemory) name merge = Err NoMemory

-- what a branch is pushed to: by refspecs where there are some, and else by `push.default`
unfoldable pub pushed_in : List Section → List Spec → List ℕ → Bool → Result (Option (List ℕ)) Error
pushed_in sections [] name lenient = target_or (push_default_in sections lenient) name (merge_of sections name)
pushed_in sections (spec ∷ specs) name lenient = Ok (destination_in (spec ∷ specs) name)

-- what a branch is fetched from, or pushed to where it has a remote
unfoldable pub counterpart_in : List Section → Option RemoteParts → List ℕ → Direction → Bool → Result (Option (List ℕ)) Error
counterpart_in sections remote name Fetch lenient = Ok (merge_of sections name)
counterpart_in sections None name Push lenient = Ok None
counterpart_in sections (Some remote) name Push lenient = pushed_in sections remote.push_specs name lenient

-- What a branch is called on its remote.
abbrev pub remote_name_in : List Section → Option RemoteParts → List ℕ → Direction → Bool → Option (Result (List ℕ) Error)
remote_name_in sections remote name direction lenient = told (counterpart_in sections remote name direction lenient)
