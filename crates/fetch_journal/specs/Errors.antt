-- How an inner refusal is told, and whom a refusal blames.
use Rattle.std.specs.Prelude.{Bool, false, Option, None}
use Rattle.fetch_update.specs.declared.worktrees.WorktreeFault.{WorktreeFault}
use Rattle.fetch_remote.specs.Blame.{KeepFault, keep_fault_told, fault_told, fault_deleting}
use Rattle.fetch_remote.specs.Errors as remote
use Rattle.fetch_remote.specs.declared.delete.Error.{Error as DeleteError}
use Rattle.fetch_remote.specs.declared.delete.Error.TheVariants as delete
use Rattle.fetch_remote.specs.declared.fetching.fetch_error.FetchError.{FetchError}
use Rattle.fetch_remote.specs.declared.fetching.fetch_error.FetchError.TheVariants as fetch
use Rattle.fetch_journal.specs.declared.error.SharedError.{SharedError}
use Rattle.fetch_journal.specs.declared.error.SharedError.TheVariants as errors

-- out of memory stays what it is
abbrev pub fetching : FetchError → SharedError
fetching fetch.NoMemory = errors.NoMemory
fetching e = errors.Fetch e

-- why branches weren't deleted, as a refusal of a shared repository
abbrev pub deleting : DeleteError → SharedError
deleting delete.NoMemory = errors.NoMemory
deleting e = errors.Delete e

-- the peer's fault
abbrev pub is_of_peer : SharedError → Bool
is_of_peer (errors.Fetch e) = remote.is_of_peer e
is_of_peer e = false

-- a yes of the interrupt
abbrev pub is_yes : SharedError → Bool
is_yes (errors.Fetch e) = remote.is_yes e
is_yes e = false

-- the keep file that is told
abbrev pub keep_fault : SharedError → Option KeepFault
keep_fault (errors.Fetch e) = keep_fault_told e
keep_fault e = None

-- the fault of the work trees that a fetch tells
abbrev pub tree_fault : SharedError → Option WorktreeFault
tree_fault (errors.Fetch e) = fault_told e
tree_fault e = None

-- the one that a deletion tells
abbrev pub tree_fault_deleting : SharedError → Option WorktreeFault
tree_fault_deleting (errors.Delete e) = fault_deleting e
tree_fault_deleting e = None
