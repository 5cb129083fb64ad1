-- The keep file that stands in a git directory.
use Rattle.std.specs.Prelude.{ℕ, List, Option, codes, slice_get}
use Rattle.std.specs.Option.{option_map, option_and_then}
use Rattle.fetch_files.specs.Paths.{parts_of}
use Rattle.fetch_files.specs.Trees.{Tree, names_in}
use Rattle.fetch_remote.specs.Paths.{in_directory}

-- where packs and their keep files stand
abbrev pub packs_of : List ℕ → List ℕ
packs_of git_dir = in_directory git_dir (codes "objects/pack")

-- the first name in a directory
abbrev pub first_in : Tree → List ℕ → Option (List ℕ)
first_in t directory = option_and_then (λ names. slice_get names 0) (names_in t (parts_of directory))

-- the first file that stands there
unfoldable pub first_kept : List ℕ → Tree → Option (List ℕ)
first_kept git_dir t = option_map (in_directory (packs_of git_dir)) (first_in t (packs_of git_dir))
