-- Local branches that are deleted: what is tested before, and what goes. The names of a deletion are in ascending order, each once.
use Rattle.std.specs.Prelude.{◌≡◌, ◌⊎◌, ℕ, Bool, true, false, not, List, [], find, map as each, Option, Some, None, IfSome, ⊤, nat_eq}
use Rattle.std.specs.Prelude.{codes}
use Rattle.std.specs.FinMap as finmap
use Rattle.std.specs.List.{starts_with}
use Rattle.std.specs.Option.{option_and_then}
use Rattle.fetch_files.specs.FileCalls.{IsRefused as IsCallRefused}
use Rattle.fetch_files.specs.Paths.{parts_of}
use Rattle.fetch_files.specs.Trees.{Tree, read_in, written, renamed}
use Rattle.fetch_specs.specs.Categories.{heads, shortened}
use Rattle.fetch_config.specs.Contents.{Contents}
use Rattle.fetch_config.specs.Lines.{broken_line, sections_of}
use Rattle.fetch_config.specs.Print.{text_of}
use Rattle.fetch_config.specs.declared.meta.Meta.{Meta}
use Rattle.fetch_config.specs.declared.meta.Origin.TheVariants.{Local}
use Rattle.fetch_config.specs.declared.section.Section.{Section}
use Rattle.fetch_lookup.specs.Ordered.{ascending, is_among}
use Rattle.fetch_lookup.specs.Removed.{has_branches, without_branches}
use Rattle.fetch_refs.specs.Names.{RefsValue, name_cmp}
use Rattle.fetch_update.specs.Trees.{is_checked_out, directories_of}
use Rattle.fetch_update.specs.declared.worktrees.Worktree.{Worktree}
use Rattle.fetch_remote.specs.Judging.{IsTold}
use Rattle.fetch_remote.specs.Keeping.{AreFiles}
use Rattle.fetch_remote.specs.Paths.{in_directory, config_path}
use Rattle.fetch_remote.specs.Reloads.{Reads, HasBrokenLine}
use Rattle.fetch_remote.specs.Repositories.{State, Setup, RepositoryValue, reopened, with_refs}
use Rattle.fetch_remote.specs.declared.delete.CleanupError.{CleanupError}
use Rattle.fetch_remote.specs.declared.delete.CleanupError.TheVariants as cleaning
use Rattle.fetch_remote.specs.declared.delete.Error.{Error}
use Rattle.fetch_remote.specs.declared.delete.Error.TheVariants as errors
use Rattle.fetch_remote.specs.declared.repository.open_error.OpenError.{OpenError}
use Rattle.fetch_remote.specs.declared.repository.open_error.OpenError.TheVariants as causes

-- ---- the names

-- names in ascending order, each once
abbrev pub in_order : List (List ℕ) → List (List ℕ)
in_order names = ascending name_cmp names

-- a name that isn't below `refs/heads/`
abbrev pub is_foreign : List ℕ → Bool
is_foreign name = not (starts_with nat_eq name heads)

-- what branches are called for short
abbrev pub short_names : List (List ℕ) → List (List ℕ)
short_names names = in_order (each shortened names)

-- ---- the configuration file

-- the file that the new configuration is written to first
abbrev pub lock_path : List ℕ → List ℕ
lock_path git_dir = in_directory git_dir (codes "config.lock")

-- it is the repository's own
abbrev pub file_meta : Meta
file_meta = record { source = Local; level = 0; path = None; trusted = true }

-- the sections that its text says: none where there is no file
abbrev pub sections_in : Option (List ℕ) → List Section
sections_in None = []
sections_in (Some text) = sections_of file_meta text

-- the first line that breaks the grammar
abbrev pub broken_in : Option (List ℕ) → Option ℕ
broken_in text = option_and_then broken_line text

-- the file without the sections of these branches
abbrev pub file_without : List (List ℕ) → Option (List ℕ) → Contents
file_without names text = without_branches (short_names names) (record { meta = file_meta; sections = sections_in text })

-- whether it has a section of one of these branches
abbrev pub has_sections : List (List ℕ) → Option (List ℕ) → Bool
has_sections names text = has_branches (short_names names) (sections_in text)

-- ---- what goes

-- a map without what stands at these names
abbrev pub without : {X : Type 0} → List (List ℕ) → finmap.FinMap name_cmp X → finmap.FinMap name_cmp X
without names m = finmap.retain_keys m (λ key. not (is_among name_cmp names key))

-- The references of these names go, with their reflogs and packed ids.
abbrev pub refs_without : List (List ℕ) → RefsValue → RefsValue
refs_without names r = record { hash = r.hash; names = without names r.names; logs = without names r.logs; packed = without names r.packed }

-- the state without these references
abbrev pub state_without : List (List ℕ) → State → State
state_without names s = with_refs s (refs_without names s.refs)

-- The local sections of these branches go, and configuration, settings and logging are resolved anew.
abbrev pub setup_without : List (List ℕ) → Setup → Option Setup
setup_without names s = reopened s (without_branches (short_names names) s.local)

-- the new text is written beside the file, and then put in its place
abbrev pub replaced : List ℕ → List ℕ → Tree → Option Tree
replaced git_dir text t = option_and_then (λ u. renamed u (parts_of (lock_path git_dir)) (parts_of (config_path git_dir)))
    (written t (parts_of (lock_path git_dir)) text)

-- Where the file has sections of these branches, they go from the file and from memory.
pub record IsCleaned (names : List (List ℕ)) (text : Option (List ℕ)) (told now : Option Tree) (before after : Setup) : Type 0 where
  pub setup : setup_without names before ≡ Some after
  pub tree : IfSome told (λ t. replaced before.settings.git_dir (text_of (file_without names text).sections) t ≡ now)

-- Where it has none, nothing else changes.
pub record IsLeft (told now : Option Tree) (before after : Setup) : Type 0 where
  pub setup : after ≡ before
  pub tree : now ≡ told

-- What a deletion did to configuration and files, where there are sections to clean up, and where there are none.
abbrev pub Cleans : Bool → List (List ℕ) → Option (List ℕ) → Option Tree → Option Tree → Setup → Setup → Type 0
Cleans true names text told now before after = IsCleaned names text told now before after
Cleans false names text told now before after = IsLeft told now before after

-- ---- what is tested

-- No name is outside `refs/heads/`, and none is checked out in a list of work trees, which is the one that they tell.
pub record AreFree (told : Option (List Worktree)) (names : List (List ℕ)) : Type 0 where
  pub local : find is_foreign names ≡ None
  pub trees : List Worktree
  pub listed_trees : IsTold told trees
  pub none_checked_out : find (is_checked_out trees) names ≡ None

-- This is the first name that is checked out, and there.
pub record IsCheckedOut (told : Option (List Worktree)) (names : List (List ℕ)) (name : List ℕ) (directories : List (List ℕ)) : Type 0 where
  pub local : find is_foreign names ≡ None
  pub trees : List Worktree
  pub listed_trees : IsTold told trees
  pub first : find (is_checked_out trees) names ≡ Some name
  pub all_directories : directories ≡ directories_of trees name

-- The branches were deleted, once no test stood against it.
pub record IsDeleted (trees : Option (List Worktree)) (told now : Option Tree) (names : List (List ℕ))
    (before after : RepositoryValue) : Type 0 where
  pub free : AreFree trees names
  pub text : Option (List ℕ)
  pub read : Reads told (config_path before.setup.settings.git_dir) text
  pub grammar : broken_in text ≡ None
  pub state : after.state ≡ state_without names before.state
  pub cleaned : Cleans (has_sections names text) names text told now before.setup after.setup

-- ---- refusals

-- out of memory stays what it is
abbrev pub config_refusal : OpenError → Error
config_refusal causes.NoMemory = errors.NoMemory
config_refusal cause = errors.ConfigRead cause

-- the text has sections of the branches
pub record HasSections (told : Option Tree) (git_dir : List ℕ) (names : List (List ℕ)) : Type 0 where
  pub text : Option (List ℕ)
  pub read : Reads told (config_path git_dir) text
  pub grammar : broken_in text ≡ None
  pub sections : has_sections names text ≡ true

-- Why the file isn't read. A failed call has its count.
abbrev pub IsUnread : Option Tree → List ℕ → OpenError → Type 0
IsUnread told git_dir (causes.Config line) = HasBrokenLine told (config_path git_dir) line
IsUnread told git_dir causes.Io = ⊤
IsUnread told git_dir e = ⊥

-- Why branches aren't deleted, or not cleaned up after. Each test stands after those before it. A failed call has its
-- count, and out of memory is free.
abbrev pub IsRefused : Option (List Worktree) → Option Tree → List ℕ → List (List ℕ) → Error → Type 0
IsRefused trees told git_dir names (errors.NotLocal name) = find is_foreign names ≡ Some name
IsRefused trees told git_dir names errors.WorktreeListing = find is_foreign names ≡ None
IsRefused trees told git_dir names errors.OpenWorktreeRepo = find is_foreign names ≡ None
IsRefused trees told git_dir names errors.FollowSymref = find is_foreign names ≡ None
IsRefused trees told git_dir names (errors.CheckedOut name directories) = IsCheckedOut trees names name directories
IsRefused trees told git_dir names (errors.ConfigRead cause) = AreFree trees names × IsUnread told git_dir cause
IsRefused trees told git_dir names (errors.Cleanup references source) = (references ≡ names)
    × (AreFree trees names × HasSections told git_dir names)
IsRefused trees told git_dir names errors.NoMemory = ⊤

-- The new text stands beside the file, which is the one found.
pub record IsBeside (told now : Option Tree) (git_dir : List ℕ) (names : List (List ℕ)) : Type 0 where
  pub text : Option (List ℕ)
  pub read : Reads told (config_path git_dir) text
  pub tree : AreFiles told now (λ t. written t (parts_of (lock_path git_dir)) (text_of (file_without names text).sections))

-- What a failed clean-up leaves of the files: those found, or with the new text beside the file.
abbrev pub LeavesFiles : Option Tree → Option Tree → List ℕ → List (List ℕ) → CleanupError → Type 0
LeavesFiles told now git_dir names cleaning.Write = now ≡ told
LeavesFiles told now git_dir names cleaning.Commit = IsBeside told now git_dir names

-- Out of memory leaves all as found, or else, where there are sections to clean up, the references are gone.
pub record IsForgotten (told now : Option Tree) (git_dir : List ℕ) (names : List (List ℕ)) (before after : State) : Type 0 where
  pub gone : after ≡ state_without names before
  pub sections : HasSections told git_dir names
  pub files : (now ≡ told) ⊎ IsBeside told now git_dir names

-- What a refusal leaves of references, reflogs and files. After the clean-up references are gone, and after out of memory
-- they may be; else all is as found.
abbrev pub Leaves : Option Tree → Option Tree → List ℕ → List (List ℕ) → State → State → Error → Type 0
Leaves told now git_dir names before after (errors.NotLocal name) = (after ≡ before) × (now ≡ told)
Leaves told now git_dir names before after errors.WorktreeListing = (after ≡ before) × (now ≡ told)
Leaves told now git_dir names before after errors.OpenWorktreeRepo = (after ≡ before) × (now ≡ told)
Leaves told now git_dir names before after errors.FollowSymref = (after ≡ before) × (now ≡ told)
Leaves told now git_dir names before after (errors.CheckedOut name directories) = (after ≡ before) × (now ≡ told)
Leaves told now git_dir names before after (errors.ConfigRead cause) = (after ≡ before) × (now ≡ told)
Leaves told now git_dir names before after (errors.Cleanup references source) = (after ≡ state_without names before)
    × LeavesFiles told now git_dir names source
Leaves told now git_dir names before after errors.NoMemory = ((after ≡ before) × (now ≡ told))
    ⊎ IsForgotten told now git_dir names before after

-- A failed file call.
abbrev pub is_file_fault : Error → Bool
is_file_fault (errors.ConfigRead causes.Io) = true
is_file_fault (errors.Cleanup references source) = true
is_file_fault e = false

-- Where files that fail at nothing by themselves refused to write the text, or to put it in its place, something was in the
-- way: of the tree found, or of the one that is left, which has the text beside the file.
abbrev pub IsUnwritten : Bool → Option Tree → Option Tree → List ℕ → List ℕ → List ℕ → CleanupError → Type 0
IsUnwritten may_fail told now lock path text cleaning.Write = IsCallRefused may_fail told (λ t. written t (parts_of lock) text)
IsUnwritten may_fail told now lock path text cleaning.Commit = IsCallRefused may_fail now (λ t. renamed t (parts_of lock) (parts_of path))

-- The same of a deletion: of its reading, and of its new text.
abbrev pub IsInTheWay : Bool → Option Tree → Option Tree → List ℕ → Error → Type 0
IsInTheWay may_fail told now git_dir (errors.ConfigRead causes.Io) =
    IsCallRefused may_fail told (λ t. read_in t (parts_of (config_path git_dir)))
IsInTheWay may_fail told now git_dir (errors.Cleanup references source) = (text : List ℕ)
    × IsUnwritten may_fail told now (lock_path git_dir) (config_path git_dir) text source
IsInTheWay may_fail told now git_dir e = ⊤

-- What is told before the work trees are asked, and before the files are.
abbrev pub is_unlocal : Error → Bool
is_unlocal (errors.NotLocal name) = true
is_unlocal e = false

-- whether a refusal comes before the files are asked
abbrev pub is_before_files : Error → Bool
is_before_files (errors.NotLocal name) = true
is_before_files errors.WorktreeListing = true
is_before_files errors.OpenWorktreeRepo = true
is_before_files errors.FollowSymref = true
is_before_files (errors.CheckedOut name directories) = true
is_before_files e = false
