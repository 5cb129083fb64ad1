-- A repository without ids takes the hash of what was listed.
use Rattle.std.specs.Prelude.{◌≡◌, ◌≢◌, ◌⊎◌, Bool, Option, Some, None, ⊤}
use Rattle.fetch_base.specs.declared.id.Kind.{Kind}
use Rattle.fetch_files.specs.FileCalls.{IsRefused}
use Rattle.fetch_files.specs.Paths.{parts_of}
use Rattle.fetch_files.specs.Trees.{Tree, read_in, written}
use Rattle.fetch_config.specs.Contents.{Contents}
use Rattle.fetch_config.specs.Print.{text_of}
use Rattle.fetch_remote.specs.Hashing.{HasNoIds, of_hash, with_kind}
use Rattle.fetch_remote.specs.Reloads.{HasRead, IsRefusedAt}
use Rattle.fetch_remote.specs.Repositories.{state_of, setup_of}
use Rattle.fetch_remote.specs.RepositoryValues.{RepositoryValue, Setup, State, resolved_of}
use Rattle.fetch_remote.specs.declared.repository.Resolved.{Resolved}
use Rattle.fetch_remote.specs.declared.repository.open_error.OpenError.TheVariants as opening
use Rattle.fetch_init.specs.HeadUpdates.{IsWritten}
use Rattle.fetch_init.specs.RemoteSections.{path_of}
use Rattle.fetch_create.specs.Versioned.{versioned}
use Rattle.fetch_init.specs.declared.clone.fetch.Error.{Error}
use Rattle.fetch_init.specs.declared.clone.fetch.Error.TheVariants as errors

-- The hash is another, and nothing has an id.
abbrev pub IsRehashed : Kind → State → Type 0
IsRehashed kind found = (found.hash ≢ kind) × HasNoIds found

-- The hash is the same, or something has an id.
abbrev pub IsKept : Kind → State → Type 0
IsKept kind found = (found.hash ≡ kind) ⊎ (HasNoIds found → ⊥)

-- This is what the file `config` says.
abbrev pub IsLocal : Option Tree → Setup → Contents → Type 0
IsLocal told setup local = HasRead told (path_of setup) setup.local.meta local

-- The file `config` was read, and written anew with the version of this hash. What it says now was resolved.
pub record IsReread (told now : Option Tree) (kind : Kind) (setup : Setup) (reread : Resolved) : Type 0 where
  pub local : Contents
  pub read : IsLocal told setup local
  pub written : IsWritten told setup.settings.git_dir (versioned kind local) now
  pub file : reread.file ≡ versioned kind local
  pub config : resolved_of setup.base reread.file setup.overrides ≡ Some reread.config

-- The repository has the hash, and the file `config` its version, which isn't in force yet.
pub record HasTurned (told now : Option Tree) (kind : Kind) (found asked : RepositoryValue) (reread : Resolved) : Type 0 where
  pub due : IsRehashed kind (state_of found)
  pub config : IsReread told now kind (setup_of found) reread
  pub state : state_of asked ≡ of_hash kind (state_of found)
  pub setup : setup_of asked ≡ with_kind kind (setup_of found)

-- All is as before; or the repository has turned to the hash.
abbrev pub IsHashed : Option Tree → Option Tree → Kind → RepositoryValue → RepositoryValue → Option Resolved → Type 0
IsHashed told now kind found asked None = IsKept kind (state_of found) × (asked ≡ found) × (now ≡ told)
IsHashed told now kind found asked (Some reread) = HasTurned told now kind found asked reread

-- Why the file wasn't read: it is missing, can't be read, or breaks the grammar.
abbrev pub IsUnread : Bool → Option Tree → Setup → Error → Type 0
IsUnread may_fail told setup errors.NoMemory = ⊤
IsUnread may_fail told setup (errors.ReopenWithObjectHash opening.Io) = IsRefused may_fail told (λ t. read_in t (parts_of (path_of setup)))
IsUnread may_fail told setup (errors.ReopenWithObjectHash opening.NoMemory) = ⊥
IsUnread may_fail told setup (errors.ReopenWithObjectHash e) = IsRefusedAt told (path_of setup) e
IsUnread may_fail told setup e = ⊥

-- The file was read, and couldn't be written.
pub record IsUnversioned (may_fail : Bool) (told now : Option Tree) (kind : Kind) (setup : Setup) (e : Error) : Type 0 where
  pub local : Contents
  pub read : IsLocal told setup local
  pub tree : now ≡ told
  pub refused : IsRefused may_fail told (λ t. written t (parts_of (path_of setup)) (text_of (versioned kind local).sections))
  pub cause : e ≡ errors.ReopenWithObjectHash opening.Io

-- The file wasn't read, or couldn't be written, and stays as it is.
abbrev pub IsUnreread : Bool → Option Tree → Option Tree → Kind → Setup → Error → Type 0
IsUnreread may_fail told now kind setup errors.NoMemory = now ≡ told
IsUnreread may_fail told now kind setup e = ((now ≡ told) × IsUnread may_fail told setup e) ⊎ IsUnversioned may_fail told now kind setup e

-- The hash is another, nothing has an id, and the file `config` wasn't read and written.
abbrev pub IsUnhashed : Bool → Option Tree → Option Tree → Kind → RepositoryValue → Error → Type 0
IsUnhashed may_fail told now kind found e = IsRehashed kind (state_of found) × IsUnreread may_fail told now kind (setup_of found) e
