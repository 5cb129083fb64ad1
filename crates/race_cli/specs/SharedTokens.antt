-- How the report of a race tells a refusal: the variant's name, and what it keeps, each after a space. A refused fetch or
-- deletion is told as what it wraps.
use Rattle.std.specs.Prelude.{ℕ, List, ◌++◌, codes, decimal, Option}
use Rattle.std.specs.List.{flat_map}
use Rattle.fetch_refs.specs.declared.target.Target.{Target}
use Rattle.fetch_remote.specs.declared.delete.CleanupError.{CleanupError}
use Rattle.fetch_remote.specs.declared.delete.CleanupError.TheVariants.{Write, Commit}
use Rattle.fetch_remote.specs.declared.delete.Error.{Error as DeleteError}
use Rattle.fetch_remote.specs.declared.delete.Error.TheVariants as delete
use Rattle.fetch_remote.specs.declared.repository.open_error.OpenError.{OpenError}
use Rattle.fetch_remote.specs.declared.repository.open_error.OpenError.TheVariants as open_errors
use Rattle.fetch_journal.specs.declared.error.SharedError.{SharedError}
use Rattle.fetch_journal.specs.declared.error.SharedError.TheVariants as shared
use Rattle.fetch_base.specs.Digits.{hex_of}
use Rattle.fetch_cli.specs.Tokens.{keeping, found_text, token}

-- why a configuration can't be read
unfoldable pub open_token : OpenError → List ℕ
open_token open_errors.Io = codes "Io"
open_token (open_errors.Missing path) = keeping (codes "Missing") path
open_token (open_errors.Config line) = keeping (codes "Config") (decimal line)
open_token (open_errors.Override text) = keeping (codes "Override") text
open_token open_errors.NoMemory = codes "NoMemory"

-- why sections stand
abbrev pub cleanup_token : CleanupError → List ℕ
cleanup_token Write = codes "Write"
cleanup_token Commit = codes "Commit"

-- a text after a space
unfoldable pub spaced : List ℕ → List ℕ
spaced text = codes " " ++ text

-- a branch, and the directories where it is checked out
unfoldable pub checked_out_token : List ℕ → List (List ℕ) → List ℕ
checked_out_token name directories = keeping (codes "CheckedOut") name ++ flat_map spaced directories

-- the branches whose sections stand, and why
unfoldable pub left_token : List (List ℕ) → CleanupError → List ℕ
left_token names cause = codes "Cleanup" ++ flat_map spaced names ++ codes " " ++ cleanup_token cause

-- why branches weren't deleted
unfoldable pub delete_token : DeleteError → List ℕ
delete_token (delete.NotLocal name) = keeping (codes "NotLocal") name
delete_token delete.WorktreeListing = codes "WorktreeListing"
delete_token delete.OpenWorktreeRepo = codes "OpenWorktreeRepo"
delete_token delete.FollowSymref = codes "FollowSymref"
delete_token (delete.CheckedOut name directories) = checked_out_token name directories
delete_token (delete.ConfigRead cause) = open_token cause
delete_token (delete.Cleanup references cause) = left_token references cause
delete_token delete.NoMemory = codes "NoMemory"

-- the name of an edit, and what stands there, as in a line of references, or `none`
unfoldable pub edit_token : List ℕ → Option Target → List ℕ
edit_token name found = keeping (codes "EditReferences") name ++ codes " " ++ found_text found

-- what a shared repository refuses by itself, and what it wraps
unfoldable pub shared_token : SharedError → List ℕ
shared_token (shared.NotClosed link) = keeping (keeping (codes "NotClosed") (hex_of link.from)) (hex_of link.to)
shared_token (shared.Disconnected link) = keeping (keeping (codes "Disconnected") (hex_of link.from)) (hex_of link.to)
shared_token (shared.Collision id) = keeping (codes "Collision") (hex_of id)
shared_token (shared.EditReferences name found) = edit_token name found
shared_token (shared.Fetch e) = token e
shared_token (shared.Delete e) = delete_token e
shared_token shared.NoMemory = codes "NoMemory"
