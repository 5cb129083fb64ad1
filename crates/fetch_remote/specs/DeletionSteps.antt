-- What the steps of a deletion say.
use Rattle.std.specs.Prelude.{◌≡◌, ◌⊎◌, ℕ, Bool, true, false, List, [], ◌∷◌, find, Option, Some, None, ⊤, if◌then◌else◌}
use Rattle.std.specs.BTreeSet.{BTreeSet, contains}
use Rattle.std.specs.Str.{bytes_eq}
use Rattle.fetch_files.specs.Paths.{parts_of}
use Rattle.fetch_files.specs.Trees.{Tree, written}
use Rattle.fetch_files.specs.declared.file_error.FileError.{FileError}
use Rattle.fetch_files.specs.declared.file_error.FileError.TheVariants as calls
use Rattle.fetch_config.specs.Contents.{Contents}
use Rattle.fetch_config.specs.Print.{text_of}
use Rattle.fetch_lookup.specs.Removed.{has_branches, without_branches}
use Rattle.fetch_refs.specs.Names.{name_cmp}
use Rattle.fetch_refs.specs.declared.edit.Change.TheVariants.{Delete}
use Rattle.fetch_refs.specs.declared.edit.PreviousValue.TheVariants.{Any}
use Rattle.fetch_refs.specs.declared.edit.RefEdit.{RefEdit}
use Rattle.fetch_refs.specs.declared.edit.RefLog.TheVariants.{AndReference}
use Rattle.fetch_update.specs.Trees.{is_checked_out, directories_of}
use Rattle.fetch_update.specs.declared.worktrees.Worktree.{Worktree}
use Rattle.fetch_update.specs.declared.worktrees.WorktreeFault.{WorktreeFault}
use Rattle.fetch_update.specs.declared.worktrees.WorktreeFault.TheVariants as faults
use Rattle.fetch_remote.specs.Deleting as spec
use Rattle.fetch_remote.specs.Deleting.{Cleans, HasSections, broken_in, file_meta, has_sections, lock_path, sections_in, setup_without}
use Rattle.fetch_remote.specs.Deleting.{short_names, state_without}
use Rattle.fetch_remote.specs.Judging.{IsTold}
use Rattle.fetch_remote.specs.Keeping.{AreFiles}
use Rattle.fetch_remote.specs.Paths.{config_path}
use Rattle.fetch_remote.specs.Reloads.{Reads, HasBrokenLine}
use Rattle.fetch_remote.specs.Repositories.{RepositoryValue, Setup, in_force}
use Rattle.fetch_remote.specs.declared.delete.CleanupError.{CleanupError}
use Rattle.fetch_remote.specs.declared.delete.CleanupError.TheVariants as cleaning
use Rattle.fetch_remote.specs.declared.delete.Error.{Error}
use Rattle.fetch_remote.specs.declared.delete.Error.TheVariants as errors
use Rattle.fetch_remote.specs.declared.deleting.ConfigChange.{ConfigChange}
use Rattle.fetch_remote.specs.declared.repository.open_error.OpenError.{OpenError}
use Rattle.fetch_remote.specs.declared.repository.open_error.OpenError.TheVariants as causes

-- a work tree's directory, where it has this branch
abbrev pub directory_of : List ℕ → Worktree → List (List ℕ)
directory_of name w = if bytes_eq w.branch name then w.directory ∷ [] else []

-- the reference goes with its reflog, whatever it was
abbrev pub deletion : List ℕ → RefEdit
deletion name = record { change = Delete Any AndReference; name = name }

-- the first name outside `refs/heads/`
abbrev pub IsUnlocal : Option (List ℕ) → Error → Type 0
IsUnlocal found (errors.NotLocal name) = found ≡ Some name
IsUnlocal found errors.NoMemory = ⊤
IsUnlocal found e = ⊥

-- A set has the branches that these work trees have checked out, and no other name.
abbrev pub AreBranches : List Worktree → BTreeSet (List ℕ) → Type 0
AreBranches trees branches = (name : List ℕ) → contains name_cmp branches name ≡ is_checked_out trees name

-- None of the names is checked out.
pub record AreUnheld (told : Option (List Worktree)) (names : List (List ℕ)) : Type 0 where
  pub trees : List Worktree
  pub listed_trees : IsTold told trees
  pub none_checked_out : find (is_checked_out trees) names ≡ None

-- the first name that is checked out
pub record IsFirstHeld (told : Option (List Worktree)) (names : List (List ℕ)) (name : List ℕ) (directories : List (List ℕ)) : Type 0 where
  pub trees : List Worktree
  pub listed_trees : IsTold told trees
  pub first : find (is_checked_out trees) names ≡ Some name
  pub all_directories : directories ≡ directories_of trees name

-- why the work trees weren't listed, as a refusal of the deletion
abbrev pub listing_refusal : WorktreeFault → Error
listing_refusal faults.Listing = errors.WorktreeListing
listing_refusal faults.OpenRepo = errors.OpenWorktreeRepo
listing_refusal faults.FollowSymref = errors.FollowSymref
listing_refusal faults.NoMemory = errors.NoMemory

-- The first branch that these work trees have checked out is told, or memory ran out.
abbrev pub IsHeldIn : List Worktree → List (List ℕ) → Error → Type 0
IsHeldIn trees names (errors.CheckedOut name directories) = (find (is_checked_out trees) names ≡ Some name)
    × (directories ≡ directories_of trees name)
IsHeldIn trees names errors.NoMemory = ⊤
IsHeldIn trees names e = ⊥

-- Why branches aren't deleted, by what the work trees tell.
abbrev pub IsHeld : Option (List Worktree) → List (List ℕ) → Error → Type 0
IsHeld told names errors.WorktreeListing = ⊤
IsHeld told names errors.OpenWorktreeRepo = ⊤
IsHeld told names errors.FollowSymref = ⊤
IsHeld told names (errors.CheckedOut name directories) = IsFirstHeld told names name directories
IsHeld told names errors.NoMemory = ⊤
IsHeld told names e = ⊥

-- The file was read.
pub record IsRead (told : Option Tree) (path : List ℕ) (file : Contents) : Type 0 where
  pub text : Option (List ℕ)
  pub read : Reads told path text
  pub grammar : broken_in text ≡ None
  pub contents : file ≡ record { meta = file_meta; sections = sections_in text }

-- a refusal to read it, or out of memory
abbrev pub IsUnread : Option Tree → List ℕ → OpenError → Type 0
IsUnread told path (causes.Config line) = HasBrokenLine told path line
IsUnread told path causes.Io = ⊤
IsUnread told path causes.NoMemory = ⊤
IsUnread told path e = ⊥

-- The sections are to go from the file and from memory.
pub record IsPlanned (names : List (List ℕ)) (file : Contents) (setup : Setup) (change : ConfigChange) : Type 0 where
  pub sections : has_branches (short_names names) file.sections ≡ true
  pub lock : change.lock ≡ lock_path setup.settings.git_dir
  pub text : change.text ≡ text_of (without_branches (short_names names) file).sections
  pub local : setup_without names setup ≡ Some (in_force setup change.local.file change.local.config)

-- The change of the configuration that the file asks for, or none.
abbrev pub Plans : List (List ℕ) → Contents → Setup → Option ConfigChange → Type 0
Plans names file setup None = has_branches (short_names names) file.sections ≡ false
Plans names file setup (Some change) = IsPlanned names file setup change

-- The references are gone, and the sections.
pub record IsGone (told now : Option Tree) (names : List (List ℕ)) (before after : RepositoryValue) : Type 0 where
  pub text : Option (List ℕ)
  pub read : Reads told (config_path before.setup.settings.git_dir) text
  pub grammar : broken_in text ≡ None
  pub state : after.state ≡ state_without names before.state
  pub cleaned : Cleans (has_sections names text) names text told now before.setup after.setup

-- Why branches aren't deleted, or not cleaned up, once the work trees were asked.
abbrev pub IsNotGone : Option Tree → List ℕ → List (List ℕ) → Error → Type 0
IsNotGone told git_dir names (errors.ConfigRead cause) = spec.IsUnread told git_dir cause
IsNotGone told git_dir names (errors.Cleanup references source) = (references ≡ names) × HasSections told git_dir names
IsNotGone told git_dir names errors.NoMemory = ⊤
IsNotGone told git_dir names e = ⊥

-- a failed file call is told with the names
abbrev pub cleanup : List (List ℕ) → CleanupError → FileError → Error
cleanup names source calls.Failed = errors.Cleanup names source
cleanup names source calls.NoMemory = errors.NoMemory

-- Only the sections are left to clean up, or memory ran out.
abbrev pub IsCleanup : List (List ℕ) → Error → Type 0
IsCleanup names (errors.Cleanup references source) = references ≡ names
IsCleanup names errors.NoMemory = ⊤
IsCleanup names e = ⊥

-- What is left of the files where the new text wasn't put into its place: those found, or with the text in the other file.
abbrev pub LeavesTree : Option Tree → Option Tree → List ℕ → List ℕ → Error → Type 0
LeavesTree told now lock text (errors.Cleanup references cleaning.Write) = now ≡ told
LeavesTree told now lock text (errors.Cleanup references cleaning.Commit) = AreFiles told now (λ t. written t (parts_of lock) text)
LeavesTree told now lock text errors.NoMemory = (now ≡ told) ⊎ AreFiles told now (λ t. written t (parts_of lock) text)
LeavesTree told now lock text e = ⊥

-- what was in the way of a file call that failed, once the branches are gone
abbrev pub IsBarred : Bool → Option Tree → Option Tree → List ℕ → List ℕ → List ℕ → Error → Type 0
IsBarred may_fail told now lock path text (errors.Cleanup references source) = spec.IsUnwritten may_fail told now lock path text source
IsBarred may_fail told now lock path text e = ⊤
