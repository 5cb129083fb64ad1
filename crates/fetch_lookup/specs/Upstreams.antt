-- The branch of a remote that a tracking branch follows.
use Rattle.std.specs.Prelude.{◌≡◌, ℕ, ◌==◌, nat_lt, Bool, true, false, ◌||◌, if◌then◌else◌, List, [], ◌∷◌, ◌++◌, length, Option, Some, None}
use Rattle.std.specs.Prelude.{Result, Ok, Err}
use Rattle.std.specs.List.{Contains, list_any, flat_map, find}
use Rattle.std.specs.Result.{result_map_both}
use Rattle.fetch_specs.specs.Categories.{category_of}
use Rattle.fetch_specs.specs.Leads.{mapped_to}
use Rattle.fetch_specs.specs.Matches.{is_exclusion, sources_of}
use Rattle.fetch_specs.specs.Names.{full_name_trouble}
use Rattle.fetch_specs.specs.Specs.{Spec}
use Rattle.fetch_specs.specs.declared.category.Category.{Category}
use Rattle.fetch_specs.specs.declared.category.Category.TheVariants as categories
use Rattle.fetch_specs.specs.declared.found.SourceRef.{SourceRef}
use Rattle.fetch_specs.specs.declared.found.SourceRef.TheVariants as sources
use Rattle.fetch_config.specs.declared.section.Section.{Section}
use Rattle.fetch_lookup.specs.declared.find.Error.{Error as FindError}
use Rattle.fetch_lookup.specs.declared.find.Error.TheVariants as finding
use Rattle.fetch_lookup.specs.declared.leading.Leading.{Leading}
use Rattle.fetch_lookup.specs.declared.remote.RemoteParts.{RemoteParts}
use Rattle.fetch_lookup.specs.declared.upstream.Error.{Error}
use Rattle.fetch_lookup.specs.declared.upstream.Error.TheVariants.{BranchCategory, FindRemote, AmbiguousRemotes, ValidateUpstreamBranch}
use Rattle.fetch_lookup.specs.declared.upstream.Error.TheVariants.{NoMemory}
use Rattle.fetch_lookup.specs.Names.{remote_names_of}
use Rattle.fetch_lookup.specs.Remotes.{found_in}
use Rattle.fetch_lookup.specs.Results.{and_then, all_of}
use Rattle.fetch_lookup.specs.Saved.{first_or_empty}

-- out of memory
abbrev pub is_memory : Error → Bool
is_memory NoMemory = true
is_memory _ = false

-- a name below `refs/remotes/`
abbrev pub is_tracking_category : Option Category → Bool
is_tracking_category (Some categories.RemoteBranch) = true
is_tracking_category _ = false

-- the name of a source that isn't an id
abbrev pub names_of_source : SourceRef → List (List ℕ)
names_of_source (sources.FullName name) = name ∷ []
names_of_source (sources.ObjectId id) = []

-- the names that refspecs lead to a name from
unfoldable pub names_leading : List Spec → List ℕ → List (List ℕ)
names_leading specs tracking = flat_map (λ m. names_of_source m.lhs) (sources_of specs (tracking ∷ []))

-- out of memory is told as such
abbrev pub find_refusal : FindError → Error
find_refusal (finding.TagOpt value) = FindRemote (finding.TagOpt value)
find_refusal (finding.Url kind name) = FindRemote (finding.Url kind name)
find_refusal (finding.RefSpec kind name source) = FindRemote (finding.RefSpec kind name source)
find_refusal finding.NoMemory = NoMemory

-- a remote, and what its refspecs lead to a tracking branch from
abbrev pub leading_by : List ℕ → List ℕ → RemoteParts → Leading
leading_by tracking name remote = record { name = name; sources = names_leading remote.fetch_specs tracking; remote = remote }

-- the branches of a remote that lead to a tracking branch
unfoldable pub leading_in : List Section → List ℕ → List ℕ → Result Leading Error
leading_in sections tracking name = result_map_both (leading_by tracking name) find_refusal (found_in sections name)

-- whether several branches lead there
abbrev pub is_ambiguous : Leading → Bool
is_ambiguous l = nat_lt 1 (length l.sources)

-- whether one branch alone leads there
abbrev pub is_single : Leading → Bool
is_single l = length l.sources == 1

-- the name of a remote for which this holds
abbrev pub name_where : (Leading → Bool) → Leading → List (List ℕ)
name_where p l = if p l then l.name ∷ [] else []

-- the remotes that several branches lead from, and then those that one leads from
unfoldable pub names_told : List Leading → List (List ℕ)
names_told found = flat_map (name_where is_ambiguous) found ++ flat_map (name_where is_single) found

-- the branch that leads there, where it is a full name
abbrev pub validated_by : Leading → Option ℕ → Result (Option (List ℕ × RemoteParts)) Error
validated_by l None = Ok (Some (first_or_empty l.sources, l.remote))
validated_by l (Some place) = Err (ValidateUpstreamBranch place)

-- the branch that leads there, and its remote
abbrev pub upstream_at : Option Leading → Result (Option (List ℕ × RemoteParts)) Error
upstream_at None = Ok None
upstream_at (Some l) = validated_by l (full_name_trouble (first_or_empty l.sources))

-- Several branches are refused, of one remote or of several.
unfoldable pub upstream_among : List Leading → Result (Option (List ℕ × RemoteParts)) Error
upstream_among found =
    if nat_lt 1 (length (names_told found)) || list_any is_ambiguous found then Err (AmbiguousRemotes (names_told found))
    else upstream_at (find is_single found)

-- The branch that a tracking branch follows, and its remote.
unfoldable pub upstream_in : List Section → List ℕ → Result (Option (List ℕ × RemoteParts)) Error
upstream_in sections tracking =
    if is_tracking_category (category_of tracking)
    then and_then (all_of (leading_in sections tracking) (remote_names_of sections)) upstream_among
    else Err (BranchCategory tracking)

-- A refspec of these, which is no exclusion, maps the branch to the tracking branch.
pub record IsFollowed (specs : List Spec) (upstream tracking : List ℕ) : Type 0 where
  pub spec : Spec
  pub there : Contains specs spec
  pub positive : is_exclusion spec.mode ≡ false
  pub maps : mapped_to specs spec upstream ≡ Some tracking
