-- What a branch is called on its remote, where that is tracked, and which branch a tracking branch follows.
use Rattle.std.specs.Prelude.{ℕ, Bool, true, false, List, Option, Some, None, Result, Ok, Err}
use Rattle.std.specs.Option.{option_map}
use Rattle.std.specs.Result.{result_map_both}
use Rattle.fetch_specs.specs.Categories.{shortened}
use Rattle.fetch_config.specs.declared.section.Section.{Section}
use Rattle.fetch_lookup.specs.Branches.{destination_in}
use Rattle.fetch_lookup.specs.Pushed as pushed
use Rattle.fetch_lookup.specs.Upstreams as upstreams
use Rattle.fetch_lookup.specs.declared.branch.Error.{Error as LookupError}
use Rattle.fetch_lookup.specs.declared.branch.Error.TheVariants as lookup
use Rattle.fetch_lookup.specs.declared.direction.Direction.{Direction}
use Rattle.fetch_lookup.specs.declared.direction.Direction.TheVariants.{Push, Fetch}
use Rattle.fetch_lookup.specs.declared.remote.RemoteParts.{RemoteParts}
use Rattle.fetch_lookup.specs.declared.upstream.Error.{Error as LookupUpstreamError}
use Rattle.fetch_lookup.specs.declared.upstream.Error.TheVariants as lookup_upstream
use Rattle.fetch_remote.specs.Finding.{branch_remote_in, existing_refusal}
use Rattle.fetch_remote.specs.Remotes.{RemoteValue, parts_of, value_of}
use Rattle.fetch_remote.specs.declared.branch.Error.{Error}
use Rattle.fetch_remote.specs.declared.branch.Error.TheVariants.{Name, Remote, PushDefault, NoMemory}
use Rattle.fetch_remote.specs.declared.find.existing.Error.{Error as ExistingError}
use Rattle.fetch_remote.specs.declared.find.existing.Error.TheVariants as existing
use Rattle.fetch_remote.specs.declared.upstream.Error.{Error as UpstreamError}
use Rattle.fetch_remote.specs.declared.upstream.Error.TheVariants as upstream

-- out of memory
abbrev pub is_memory : Error → Bool
is_memory NoMemory = true
is_memory _ = false

-- out of memory
abbrev pub is_upstream_memory : UpstreamError → Bool
is_upstream_memory upstream.NoMemory = true
is_upstream_memory _ = false

-- ---- refusals of the configuration, told by the repository

-- a refusal of a name
abbrev pub name_refusal : LookupError → Error
name_refusal (lookup.Name place) = Name place
name_refusal (lookup.PushDefault value) = PushDefault value
name_refusal lookup.NoMemory = NoMemory

-- out of memory stays what it is
abbrev pub remote_refusal : ExistingError → Error
remote_refusal existing.NoMemory = NoMemory
remote_refusal e = Remote e

-- a refusal of an upstream
abbrev pub upstream_refusal : LookupUpstreamError → UpstreamError
upstream_refusal (lookup_upstream.BranchCategory name) = upstream.BranchCategory name
upstream_refusal (lookup_upstream.FindRemote e) = upstream.FindRemote (existing_refusal e)
upstream_refusal (lookup_upstream.AmbiguousRemotes remotes) = upstream.AmbiguousRemotes remotes
upstream_refusal (lookup_upstream.ValidateUpstreamBranch place) = upstream.ValidateUpstreamBranch place
upstream_refusal lookup_upstream.NoMemory = upstream.NoMemory

-- ---- what is told of a branch

-- a name, with its refusals
abbrev pub named : Option (Result (List ℕ) LookupError) → Option (Result (List ℕ) Error)
named answer = option_map (result_map_both (λ name. name) name_refusal) answer

-- what is told with a remote, where there is one and it isn't refused
abbrev pub with_remote : Option (Result RemoteValue ExistingError) → (RemoteValue → Option (Result (List ℕ) Error))
    → Option (Result (List ℕ) Error)
with_remote None f = None
with_remote (Some (Err e)) f = Some (Err (remote_refusal e))
with_remote (Some (Ok remote)) f = f remote

-- what is told with a name, where there is one
abbrev pub with_name : Option (Result (List ℕ) Error) → (List ℕ → Option (Result (List ℕ) Error)) → Option (Result (List ℕ) Error)
with_name None f = None
with_name (Some (Err e)) f = Some (Err e)
with_name (Some (Ok name)) f = f name

-- what a branch is pushed to on a remote
unfoldable pub pushed_by : List Section → List ℕ → Bool → RemoteValue → Option (Result (List ℕ) Error)
pushed_by sections name lenient remote = named (pushed.remote_name_in sections (Some (parts_of remote)) name Push lenient)

-- What a branch is called on its remote: to fetch, as the configuration says; to push, as it says of the branch's remote.
unfoldable pub remote_name_in : List Section → List ℕ → Direction → Bool → Option (Result (List ℕ) Error)
remote_name_in sections name Fetch lenient = named (pushed.remote_name_in sections None name Fetch lenient)
remote_name_in sections name Push lenient = with_remote (branch_remote_in sections (shortened name) Push) (pushed_by sections name lenient)

-- the first destination that a remote's refspecs to fetch by give to a name, where that is a full name
unfoldable pub tracked_by : RemoteValue → List ℕ → Option (Result (List ℕ) Error)
tracked_by remote there = named (option_map pushed.named (destination_in remote.fetch_specs there))

-- where the branch's remote tracks a name
unfoldable pub tracked_there : List Section → List ℕ → Direction → List ℕ → Option (Result (List ℕ) Error)
tracked_there sections name direction there =
    with_remote (branch_remote_in sections (shortened name) direction) (λ remote. tracked_by remote there)

-- Where what a branch is called on its remote is tracked.
unfoldable pub tracked_in : List Section → List ℕ → Direction → Bool → Option (Result (List ℕ) Error)
tracked_in sections name direction lenient = with_name (remote_name_in sections name direction lenient)
    (tracked_there sections name direction)

-- The branch that a tracking branch follows, and its remote.
abbrev pub followed : List ℕ × RemoteParts → List ℕ × RemoteValue
followed p = (p.0, value_of p.1)

-- the branch that a tracking branch follows, and its remote
abbrev pub upstream_in : List Section → List ℕ → Result (Option (List ℕ × RemoteValue)) UpstreamError
upstream_in sections tracking = result_map_both (option_map followed) upstream_refusal (upstreams.upstream_in sections tracking)
