-- What kind of failure the errors of a shared repository tell of.
use Rattle.fetch_remote.specs.declared.delete.Error.{Error as DeleteError}
use Rattle.fetch_remote.specs.declared.delete.Error.TheVariants as delete
use Rattle.fetch_remote.specs.declared.repository.open_error.OpenError.{OpenError}
use Rattle.fetch_remote.specs.declared.repository.open_error.OpenError.TheVariants as opening
use Rattle.fetch_journal.specs.declared.error.SharedError.{SharedError}
use Rattle.fetch_journal.specs.declared.error.SharedError.TheVariants as errors
use Rattle.fetch_host.specs.FetchFailures.{fetch_kind}
use Rattle.fetch_host.specs.declared.failure.FailureKind.{FailureKind}
use Rattle.fetch_host.specs.declared.failure.FailureKind.TheVariants.{Others, Local, Server, Caller, Memory}

-- of a configuration: the file is here, and an override the caller's
abbrev pub opening_kind : OpenError → FailureKind
opening_kind opening.Io = Local
opening_kind (opening.Missing path) = Local
opening_kind (opening.Config line) = Local
opening_kind (opening.Override text) = Caller
opening_kind opening.NoMemory = Memory

-- of a deletion
abbrev pub deleting_kind : DeleteError → FailureKind
deleting_kind (delete.NotLocal name) = Caller
deleting_kind delete.WorktreeListing = Local
deleting_kind delete.OpenWorktreeRepo = Local
deleting_kind delete.FollowSymref = Local
deleting_kind (delete.CheckedOut name directories) = Caller
deleting_kind (delete.ConfigRead cause) = opening_kind cause
deleting_kind (delete.Cleanup references cause) = Local
deleting_kind delete.NoMemory = Memory

-- Of an event, a fetch or a deletion: what is missing or expected otherwise may be so by what others entered.
abbrev pub shared_kind : SharedError → FailureKind
shared_kind (errors.NotClosed link) = Local
shared_kind (errors.Disconnected link) = Others
shared_kind (errors.Collision id) = Server
shared_kind (errors.EditReferences name found) = Others
shared_kind (errors.Fetch e) = fetch_kind e
shared_kind (errors.Delete e) = deleting_kind e
shared_kind errors.NoMemory = Memory
