-- The branch that `HEAD` of a new repository leads to.
use Rattle.std.specs.Prelude.{ℕ, Bool, false, not, ◌&&◌, if◌then◌else◌, List, ◌++◌, Option, Some, None, is_none, unwrap_or, codes}
use Rattle.std.specs.Str.{bytes_eq}
use Rattle.fetch_config.specs.Contents.{Contents}
use Rattle.fetch_config.specs.Lookups.{values_of, explicit, last_of}
use Rattle.fetch_specs.specs.Names.{first_is, full_name_trouble}

-- `init.defaultBranch`, where an entry has a value, or else `main`
unfoldable pub default_branch_of : Contents → List ℕ
default_branch_of config = unwrap_or (last_of (explicit (values_of (codes "init") None (codes "defaultBranch") false config.sections)))
    (codes "main")

-- the full name of a branch
abbrev pub full_branch : List ℕ → List ℕ
full_branch name = codes "refs/heads/" ++ name

-- A branch isn't called `HEAD` and doesn't begin with a dash, and its full name is one.
abbrev pub is_branch_name : List ℕ → Bool
is_branch_name name = not (bytes_eq name (codes "HEAD")) && (not (first_is 45 name) && is_none (full_name_trouble (full_branch name)))

-- the full name of a branch, where it may be called so
abbrev pub branch_of : List ℕ → Option (List ℕ)
branch_of name = if is_branch_name name then Some (full_branch name) else None
