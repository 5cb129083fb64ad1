-- Why branches can't be deleted, before their configuration is read.
use Rattle.std.specs.Prelude.{◌≡◌, ℕ, List, find, Option, Some, None, ⊤}
use Rattle.fetch_update.specs.declared.worktrees.Worktree.{Worktree}
use Rattle.fetch_remote.specs.Deleting.{is_foreign, IsCheckedOut}
use Rattle.fetch_remote.specs.declared.delete.Error.{Error}
use Rattle.fetch_remote.specs.declared.delete.Error.TheVariants as errors

-- The first name that is no local branch, or a fault of the work trees, or the first name that is checked out; each test
-- stands after those before it. A fault has its count, and out of memory is free.
abbrev pub IsUndeletable : Option (List Worktree) → List (List ℕ) → Error → Type 0
IsUndeletable trees names (errors.NotLocal name) = find is_foreign names ≡ Some name
IsUndeletable trees names errors.WorktreeListing = find is_foreign names ≡ None
IsUndeletable trees names errors.OpenWorktreeRepo = find is_foreign names ≡ None
IsUndeletable trees names errors.FollowSymref = find is_foreign names ≡ None
IsUndeletable trees names (errors.CheckedOut name directories) = IsCheckedOut trees names name directories
IsUndeletable trees names errors.NoMemory = ⊤
IsUndeletable trees names e = ⊥
