-- Which remotes a repository finds.
use Rattle.std.specs.Prelude.{ℕ, Bool, true, false, ◌==◌, ◌||◌, if◌then◌else◌, List, [], ◌∷◌, codes, length, option_and_then, Option, Some}
use Rattle.std.specs.Prelude.{None, Result, Ok, Err}
use Rattle.std.specs.FinMap as map
use Rattle.std.specs.List.{list_any}
use Rattle.std.specs.Option.{option_map, option_or}
use Rattle.std.specs.Result.{result_map_both}
use Rattle.fetch_specs.specs.Categories.{category_of, shortened}
use Rattle.fetch_specs.specs.declared.category.Category.{Category}
use Rattle.fetch_specs.specs.declared.category.Category.TheVariants as categories
use Rattle.fetch_specs.specs.declared.tags.Tags.TheVariants as choices
use Rattle.fetch_config.specs.declared.section.Section.{Section}
use Rattle.fetch_refs.specs.declared.target.Target.{Target}
use Rattle.fetch_refs.specs.declared.target.Target.TheVariants.{Object, Symbolic}
use Rattle.fetch_lookup.specs.Names.{branch_name_of, default_name_of}
use Rattle.fetch_lookup.specs.Remotes.{found_in, is_remote}
use Rattle.fetch_lookup.specs.declared.direction.Direction.{Direction}
use Rattle.fetch_lookup.specs.declared.direction.Direction.TheVariants.{Fetch}
use Rattle.fetch_lookup.specs.declared.find.Error.{Error as FindError}
use Rattle.fetch_lookup.specs.declared.find.Error.TheVariants as find
use Rattle.fetch_lookup.specs.declared.name.Name.{Name}
use Rattle.fetch_lookup.specs.declared.name.Name.TheVariants.{Symbol, Url}
use Rattle.fetch_remote.specs.Remotes.{RemoteValue, nameless, value_of}
use Rattle.fetch_remote.specs.RepositoryValues.{RepositoryValue, State}
use Rattle.fetch_remote.specs.declared.find.existing.Error.{Error as ExistingError}
use Rattle.fetch_remote.specs.declared.find.existing.Error.TheVariants as existing
use Rattle.fetch_remote.specs.declared.find.for_fetch.Error.{Error as FetchError}
use Rattle.fetch_remote.specs.declared.find.for_fetch.Error.TheVariants as for_fetch
use Rattle.fetch_remote.specs.declared.remote.init.Error.{Error as InitError}
use Rattle.fetch_remote.specs.declared.remote.init.Error.TheVariants as init

-- ---- refusals

-- out of memory
abbrev pub is_init_memory : InitError → Bool
is_init_memory init.NoMemory = true
is_init_memory init.Url = false

-- out of memory
abbrev pub is_existing_memory : ExistingError → Bool
is_existing_memory existing.NoMemory = true
is_existing_memory _ = false

-- out of memory
abbrev pub is_fetch_memory : FetchError → Bool
is_fetch_memory for_fetch.NoMemory = true
is_fetch_memory _ = false

-- out of memory stays what it is
abbrev pub existing_refusal : FindError → ExistingError
existing_refusal find.NoMemory = existing.NoMemory
existing_refusal e = existing.Find e

-- a remote that isn't found, as a refusal of the remote to fetch from
abbrev pub fetch_refusal : ExistingError → FetchError
fetch_refusal existing.NoMemory = for_fetch.NoMemory
fetch_refusal e = for_fetch.FindExisting e

-- a text that is no address, as a refusal of the remote to fetch from
abbrev pub init_refusal : InitError → FetchError
init_refusal init.NoMemory = for_fetch.NoMemory
init_refusal init.Url = for_fetch.Init init.Url

-- a place that a branch has as its remote
abbrev pub place_refusal : InitError → ExistingError
place_refusal init.NoMemory = existing.NoMemory
place_refusal init.Url = existing.UrlParse

-- ---- by a text

-- the sections of the configuration in force
abbrev pub sections_of : RepositoryValue → List Section
sections_of repo = repo.setup.settings.config.sections

-- a text that is empty, or has a NUL or a line feed
abbrev pub is_no_address : List ℕ → Bool
is_no_address text = length text == 0 || (list_any (λ b. b == 0) text || list_any (λ b. b == 10) text)

-- the nameless remote at an address
unfoldable pub remote_at : List ℕ → Result RemoteValue InitError
remote_at address = if is_no_address address then Err init.Url else Ok (nameless (address ∷ []) [] choices.Included)

-- what trusted sections say of a remote
abbrev pub remote_in : List Section → List ℕ → Result RemoteValue FindError
remote_in sections name = result_map_both value_of (λ e. e) (found_in sections name)

-- a remote that trusted sections name
abbrev pub named_in : List Section → List ℕ → Result RemoteValue ExistingError
named_in sections name = result_map_both value_of existing_refusal (found_in sections name)

-- a remote that has to be there
unfoldable pub existing_in : List Section → List ℕ → Result RemoteValue ExistingError
existing_in sections name = if is_remote sections name then named_in sections name else Err (existing.NotFound name)

-- the remote that is meant where none is named
unfoldable pub default_in : List Section → Direction → Option (Result RemoteValue ExistingError)
default_in sections direction = option_map (existing_in sections) (default_name_of sections direction)

-- ---- of a branch

-- a place: the remote of that name, or else one at that address
unfoldable pub placed_in : List Section → List ℕ → Result RemoteValue ExistingError
placed_in sections text = if is_remote sections text then named_in sections text
    else result_map_both (λ r. r) place_refusal (remote_at text)

-- a symbol that names no remote is none
unfoldable pub of_name : List Section → Name → Option (Result RemoteValue ExistingError)
of_name sections (Symbol text) = if is_remote sections text then Some (named_in sections text) else None
of_name sections (Url text) = Some (placed_in sections text)

-- the remote of a branch
unfoldable pub branch_remote_in : List Section → List ℕ → Direction → Option (Result RemoteValue ExistingError)
branch_remote_in sections short direction = option_and_then (of_name sections) (branch_name_of sections short direction)

-- ---- to fetch from

-- whether a category is that of branches
abbrev pub is_branch : Option Category → Bool
is_branch (Some categories.LocalBranch) = true
is_branch _ = false

-- the short name of the branch that a symbolic reference names
abbrev pub branch_at : Option Target → Option (List ℕ)
branch_at (Some (Symbolic name)) = if is_branch (category_of name) then Some (shortened name) else None
branch_at (Some (Object id)) = None
branch_at None = None

-- the name `HEAD`
unfoldable pub head : List ℕ
head = codes "HEAD"

-- the branch that is checked out
unfoldable pub head_branch : State → Option (List ℕ)
head_branch s = branch_at (map.get s.refs.names head)

-- the remote of the branch that is checked out, or else the default one
unfoldable pub meant_in : Option (List ℕ) → List Section → Option (Result RemoteValue ExistingError)
meant_in branch sections = option_or (option_and_then (λ short. branch_remote_in sections short Fetch) branch) (default_in sections Fetch)

-- the remote that is meant, or that there is none
abbrev pub or_refused : Option (Result RemoteValue ExistingError) → Result RemoteValue FetchError
or_refused None = Err for_fetch.ExactlyOneRemoteNotAvailable
or_refused (Some answer) = result_map_both (λ r. r) fetch_refusal answer

-- the remote of that name, or else one at that address
unfoldable pub named_or_at : List Section → List ℕ → Result RemoteValue FetchError
named_or_at sections text =
    if is_remote sections text then result_map_both (λ r. r) fetch_refusal (named_in sections text)
    else result_map_both (λ r. r) init_refusal (remote_at text)

-- The remote to fetch from: of a text, or where there is none the one that is meant.
abbrev pub fetch_remote_of : RepositoryValue → Option (List ℕ) → Result RemoteValue FetchError
fetch_remote_of repo (Some text) = named_or_at (sections_of repo) text
fetch_remote_of repo None = or_refused (meant_in (head_branch repo.state) (sections_of repo))
