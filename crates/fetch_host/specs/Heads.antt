-- The main work tree of a repository, by what its `HEAD` leads to.
use Rattle.std.specs.Prelude.{ℕ, List, [], ◌∷◌, Option, Some, None, codes}
use Rattle.std.specs.FinMap as map
use Rattle.fetch_refs.specs.Names.{RefsValue}
use Rattle.fetch_refs.specs.declared.target.Target.{Target}
use Rattle.fetch_refs.specs.declared.target.Target.TheVariants.{Object, Symbolic}
use Rattle.fetch_update.specs.declared.worktrees.Worktree.{Worktree}
use Rattle.fetch_remote.specs.Repositories.{RepositoryValue, state_of, setup_of}

-- the name `HEAD`
unfoldable pub head : List ℕ
head = codes "HEAD"

-- what stands at `HEAD`
abbrev pub head_target : RefsValue → Option Target
head_target refs = map.get refs.names head

-- A directory has checked out the name that its `HEAD` leads to. With an id at `HEAD`, or nothing, it has checked out no name.
abbrev pub worktrees_at : List ℕ → Option Target → List Worktree
worktrees_at directory (Some (Symbolic name)) = record { branch = name; directory = directory } ∷ []
worktrees_at directory (Some (Object id)) = []
worktrees_at directory None = []

-- the same, where there is a directory
abbrev pub worktrees_in : Option (List ℕ) → Option Target → List Worktree
worktrees_in (Some directory) target = worktrees_at directory target
worktrees_in None target = []

-- the main work tree of a repository, if it has one that has checked out a name
unfoldable pub main_worktrees : RepositoryValue → List Worktree
main_worktrees repo = worktrees_in (setup_of repo).workdir (head_target (state_of repo).refs)
