-- Where a new repository stands, and the steps by which it is created.
use Rattle.std.specs.Prelude.{ℕ, Bool, true, false, List, [], ◌∷◌, ◌++◌, Option, Some, None, unwrap_or, codes}
use Rattle.fetch_base.specs.declared.id.Kind.TheVariants as hashes
use Rattle.fetch_create.specs.declared.create.Capabilities.{Capabilities}
use Rattle.fetch_create.specs.declared.create.Kind.{Kind as Layout}
use Rattle.fetch_create.specs.declared.create.Kind.TheVariants as kinds
use Rattle.fetch_create.specs.declared.create.Options.{Options}
use Rattle.fetch_create.specs.declared.create.Path.{Path}
use Rattle.fetch_create.specs.declared.create.step.Step.{Step}
use Rattle.fetch_create.specs.declared.create.step.Step.TheVariants.{Clear, Vacant, Directory, File}
use Rattle.fetch_create.specs.Configuration.{line, configuration_of}

-- what has this name in the directory
abbrev pub below : List ℕ → List ℕ → List ℕ
below directory name = directory ++ 47 ∷ name

-- the directory itself, or `.git` in it beside a work tree
abbrev pub path_of : List ℕ → Layout → Path
path_of directory kinds.Bare = record { git_dir = directory; workdir = None }
path_of directory kinds.WithWorktree = record { git_dir = below directory (codes ".git"); workdir = Some directory }

-- executable bits and symbolic links, and nothing else
abbrev pub usual : Capabilities
usual = record { executable_bit = true; symlink = true; ignore_case = false; precompose_unicode = false }

-- The directory has to be empty for a bare repository, and where the options say so.
abbrev pub must_be_empty : Layout → Option Bool → Bool
must_be_empty kinds.Bare asked = true
must_be_empty kinds.WithWorktree asked = unwrap_or asked false

-- the step that asks for an empty directory, where it is asked
abbrev pub cleared : Bool → List ℕ → List Step
cleared true directory = Clear directory ∷ []
cleared false directory = []

-- The git directory must not be there beside a work tree.
abbrev pub vacated : Layout → List ℕ → List Step
vacated kinds.Bare git_dir = []
vacated kinds.WithWorktree git_dir = Vacant git_dir ∷ []

-- what is written into the git directory, in this order
abbrev pub contents_of : List ℕ → List ℕ → List Step
contents_of git_dir configuration =
    File (below git_dir (codes "info/exclude")) []
    ∷ Directory (below git_dir (codes "hooks"))
    ∷ Directory (below git_dir (codes "objects/info"))
    ∷ Directory (below git_dir (codes "objects/pack"))
    ∷ Directory (below git_dir (codes "refs/heads"))
    ∷ Directory (below git_dir (codes "refs/tags"))
    ∷ File (below git_dir (codes "HEAD")) (line (codes "ref: refs/heads/main"))
    ∷ File (below git_dir (codes "description")) []
    ∷ File (below git_dir (codes "config")) configuration
    ∷ []

-- the configuration that these options give
abbrev pub configuration_in : Layout → Options → List ℕ
configuration_in kind options = configuration_of kind (unwrap_or options.fs_capabilities usual) (unwrap_or options.object_hash hashes.Sha1)

-- first what must be empty and what mustn't be there, then what is written
unfoldable pub steps_of : List ℕ → Layout → Options → List Step
steps_of directory kind options =
    cleared (must_be_empty kind options.destination_must_be_empty) directory
    ++ vacated kind (path_of directory kind).git_dir
    ++ contents_of (path_of directory kind).git_dir (configuration_in kind options)
