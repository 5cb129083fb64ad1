-- A repository whose local configuration file is read again.
use Rattle.std.specs.Prelude.{◌≡◌, ℕ, List, Option, Some, None, IfSome, ⊤}
use Rattle.fetch_files.specs.Paths.{parts_of}
use Rattle.fetch_files.specs.Trees.{Tree, read_in}
use Rattle.fetch_config.specs.Contents.{Contents}
use Rattle.fetch_config.specs.Lines.{broken_line, sections_of}
use Rattle.fetch_config.specs.declared.meta.Meta.{Meta}
use Rattle.fetch_remote.specs.declared.repository.open_error.OpenError.{OpenError}
use Rattle.fetch_remote.specs.declared.repository.open_error.OpenError.TheVariants as errors
use Rattle.fetch_remote.specs.Paths.{config_path}
use Rattle.fetch_remote.specs.Repositories.{reopened}
use Rattle.fetch_remote.specs.RepositoryValues.{Setup}

-- Where the files tell their tree, this stands at the path: a file's bytes, or nothing.
abbrev pub Reads : Option Tree → List ℕ → Option (List ℕ) → Type 0
Reads told path found = IfSome told (λ t. read_in t (parts_of path) ≡ Some found)

-- a configuration read from a text
abbrev pub file_of : Meta → List ℕ → Contents
file_of meta text = record { meta = meta; sections = sections_of meta text }

-- The file was read, its text obeys the grammar, and this is what it says.
pub record HasRead (told : Option Tree) (path : List ℕ) (meta : Meta) (file : Contents) : Type 0 where
  pub text : List ℕ
  pub read : Reads told path (Some text)
  pub grammar : broken_line text ≡ None
  pub says : file ≡ file_of meta text

-- The file was read, and its text obeys the grammar. It is in force in place of the old local file, under that file's
-- metadata.
pub record HasReloaded (told : Option Tree) (before after : Setup) : Type 0 where
  pub text : List ℕ
  pub read : Reads told (config_path before.settings.git_dir) (Some text)
  pub grammar : broken_line text ≡ None
  pub in_force : reopened before (file_of before.local.meta text) ≡ Some after

-- a file that has to be there: it is missing, or can't be read
abbrev pub IsReadRefusal : Option Tree → List ℕ → OpenError → Type 0
IsReadRefusal told path (errors.Missing name) = (name ≡ path) × Reads told path None
IsReadRefusal told path errors.Io = ⊤
IsReadRefusal told path errors.NoMemory = ⊤
IsReadRefusal told path e = ⊥

-- a text that breaks the grammar
abbrev pub IsBroken : Option ℕ → OpenError → Type 0
IsBroken broken (errors.Config line) = broken ≡ Some line
IsBroken broken errors.NoMemory = ⊤
IsBroken broken e = ⊥

-- a file with a line that breaks the grammar, which is its first
abbrev pub HasBrokenLine : Option Tree → List ℕ → ℕ → Type 0
HasBrokenLine told path line = (text : List ℕ) × Reads told path (Some text) × (broken_line text ≡ Some line)

-- Why the repository wasn't opened again: there is no such file, or its text breaks the grammar. A failed read has its
-- count, and out of memory is free.
abbrev pub IsRefusedAt : Option Tree → List ℕ → OpenError → Type 0
IsRefusedAt told path (errors.Missing name) = (name ≡ path) × Reads told path None
IsRefusedAt told path (errors.Config line) = HasBrokenLine told path line
IsRefusedAt told path errors.Io = ⊤
IsRefusedAt told path errors.NoMemory = ⊤
IsRefusedAt told path (errors.Override text) = ⊥

-- Why a repository wasn't opened again.
abbrev pub IsReloadRefusal : Option Tree → Setup → OpenError → Type 0
IsReloadRefusal told setup e = IsRefusedAt told (config_path setup.settings.git_dir) e
