-- Who is blamed for a refusal of a fetch: files or work trees that are lent, and only where their own count rose.
use Rattle.std.specs.Prelude.{◌≡◌, ℕ, Bool, true, false, List, Option, Some, None, is_some, Result, Ok, Err, IfOk, IfErr}
use Rattle.fetch_base.specs.Faults.{Faults, Rose, Counts}
use Rattle.fetch_files.specs.FileCalls.{IsRefused as IsBlocked}
use Rattle.fetch_files.specs.Trees.{Tree}
use Rattle.fetch_update.specs.declared.update.Error.{Error as UpdateError}
use Rattle.fetch_update.specs.declared.update.Error.TheVariants as update
use Rattle.fetch_update.specs.declared.worktrees.Worktree.{Worktree}
use Rattle.fetch_update.specs.declared.worktrees.WorktreeFault.{WorktreeFault}
use Rattle.fetch_update.specs.declared.worktrees.WorktreeFault.TheVariants.{Listing, OpenRepo, FollowSymref}
use Rattle.fetch_conversation.specs.declared.fetch.Error.{Error as ReceiveError}
use Rattle.fetch_conversation.specs.declared.fetch.Error.TheVariants as receive
use Rattle.fetch_remote.specs.declared.delete.Error.{Error as DeleteError}
use Rattle.fetch_remote.specs.declared.delete.Error.TheVariants as delete
use Rattle.fetch_remote.specs.declared.fetching.fetch_error.FetchError.{FetchError}
use Rattle.fetch_remote.specs.declared.fetching.fetch_error.FetchError.TheVariants as errors
use Rattle.fetch_remote.specs.declared.fetching.outcome.Status.{Status}
use Rattle.fetch_remote.specs.Judging.{IsOnce}
use Rattle.fetch_remote.specs.Keeping.{with_keep, made_in}

-- what a refusal tells, if it tells something of this kind
abbrev pub told_by : {T E X : Type 0} → (E → Option X) → Result T E → Option X
told_by says (Ok x) = None
told_by says (Err e) = says e

-- ---- files

-- what is told of files that are lent: whether a call may fail by itself, their tree, and how often they failed
pub record LentFiles : Type 0 where
  pub may_fail : Bool
  pub told : Option Tree
  pub faults : Faults

-- the same, of files that are seen so
abbrev pub lent_files : {F : Type 0} → (F → Bool) → (F → Option Tree) → (F → Faults) → F → LentFiles
lent_files may_fail told faults files = record { may_fail = may_fail files; told = told files; faults = faults files }

-- what a refusal tells of a keep file: that it wasn't made at this path, or that it wasn't removed
pub data KeepFault : Type 0 where
  Unmade : List ℕ → KeepFault
  Unremoved : KeepFault

-- Files that are lent: their count of faults never falls, and it rose where a keep file is told.
pub record BlamesFiles (old new : LentFiles) (blamed : Option KeepFault) : Type 0 where
  pub may_fail : new.may_fail ≡ old.may_fail
  pub counts : Counts old.faults new.faults
  pub cause : is_some blamed ≡ true → Rose old.faults new.faults
  -- Where no call may fail by itself, something was in the way of one that couldn't be made.
  pub in_the_way : (path : List ℕ) → blamed ≡ Some (Unmade path) → IsBlocked old.may_fail old.told (with_keep (Some path))
  -- What was made can be removed: files that tell a tree refuse that only where a call may fail by itself.
  pub removable : blamed ≡ Some Unremoved → old.may_fail ≡ false → old.told ≡ None

-- the keep file that a refusal from the fetch request on tells
abbrev pub keep_fault_in : ReceiveError → Option KeepFault
keep_fault_in (receive.KeepFile path) = Some (Unmade path)
keep_fault_in (receive.RemovePackKeepFile path) = Some Unremoved
keep_fault_in e = None

-- the same, as a fetch tells it
abbrev pub keep_fault_told : FetchError → Option KeepFault
keep_fault_told (errors.Prepare e) = None
keep_fault_told (errors.Receive e) = keep_fault_in e
keep_fault_told errors.NoMemory = None

-- The files are as found in a dry run, where no keep file was made, and after a refusal that came before the making.
pub record SparesFiles {T E : Type 0} (result : Result T E) (status : T → Status) (is_early : E → Bool) (dry_run : Bool) (git_dir : List ℕ)
    (same : Type 0) : Type 0 where
  pub dry : dry_run ≡ true → same
  pub unread : IfOk result (λ value. made_in git_dir (status value) ≡ None → same)
  pub early : IfErr result (λ e. is_early e ≡ true → same)

-- ---- work trees

-- what is told of work trees that are lent: their list, how often it was asked for, and how often it failed, by the phase
pub record LentTrees : Type 0 where
  pub told : Option (List Worktree)
  pub asked : ℕ
  pub listing : Faults
  pub open_repo : Faults
  pub follow_symref : Faults

-- the same, of work trees that are seen so
abbrev pub lent_trees : {W : Type 0} → (W → Option (List Worktree)) → (W → ℕ) → (W → Faults) → (W → Faults) → (W → Faults) → W → LentTrees
lent_trees told asked listing open_repo follow_symref trees = record {
  told = told trees;
  asked = asked trees;
  listing = listing trees;
  open_repo = open_repo trees;
  follow_symref = follow_symref trees;
}

-- Work trees that are lent: they are asked once at most, no count of faults falls, and that of the fault that is told rose.
pub record BlamesWorktrees (old new : LentTrees) (blamed : Option WorktreeFault) : Type 0 where
  pub told : new.told ≡ old.told
  pub asked_once : IsOnce old.asked new.asked
  pub listing_counts : Counts old.listing new.listing
  pub open_repo_counts : Counts old.open_repo new.open_repo
  pub follow_symref_counts : Counts old.follow_symref new.follow_symref
  pub listing : blamed ≡ Some Listing → Rose old.listing new.listing
  pub open_repo : blamed ≡ Some OpenRepo → Rose old.open_repo new.open_repo
  pub follow_symref : blamed ≡ Some FollowSymref → Rose old.follow_symref new.follow_symref

-- the fault of the work trees that the policy tells
abbrev pub fault_of : UpdateError → Option WorktreeFault
fault_of update.WorktreeListing = Some Listing
fault_of update.OpenWorktreeRepo = Some OpenRepo
fault_of update.FollowSymref = Some FollowSymref
fault_of e = None

-- the same, as a refusal from the fetch request on tells it
abbrev pub fault_in : ReceiveError → Option WorktreeFault
fault_in (receive.UpdateRefs e) = fault_of e
fault_in e = None

-- the same, as a fetch tells it
abbrev pub fault_told : FetchError → Option WorktreeFault
fault_told (errors.Prepare e) = None
fault_told (errors.Receive e) = fault_in e
fault_told errors.NoMemory = None

-- the same, as a deletion tells it
abbrev pub fault_deleting : DeleteError → Option WorktreeFault
fault_deleting delete.WorktreeListing = Some Listing
fault_deleting delete.OpenWorktreeRepo = Some OpenRepo
fault_deleting delete.FollowSymref = Some FollowSymref
fault_deleting e = None
