-- Files of a repository: the directory's path, a slash, and the file's name.
use Rattle.std.specs.Prelude.{ℕ, true, List, ◌++◌, Option, Some, codes}
use Rattle.std.specs.Option.{unwrap_or}
use Rattle.hex.specs.Hex.{encode_lower}
use Rattle.fetch_base.specs.declared.id.ObjectId.{ObjectId}
use Rattle.fetch_base.specs.Id.{bytes_of}
use Rattle.fetch_config.specs.Contents.{Contents}
use Rattle.fetch_config.specs.Lookups.{values_of, explicit, last_of}

-- a name in a directory
abbrev pub in_directory : List ℕ → List ℕ → List ℕ
in_directory directory name = directory ++ codes "/" ++ name

-- the local configuration file
abbrev pub config_path : List ℕ → List ℕ
config_path git_dir = in_directory git_dir (codes "config")

-- `gitoxide.core.shallowFile`, of trusted sections alone
unfoldable pub shallow_files_in : Contents → List (Option (List ℕ))
shallow_files_in config = values_of (codes "gitoxide") (Some (codes "core")) (codes "shallowFile") true config.sections

-- where the border is written: the last value that isn't implicit, or else `shallow`, in the git directory
unfoldable pub shallow_file_of : Contents → List ℕ → List ℕ
shallow_file_of config git_dir = in_directory git_dir (unwrap_or (last_of (explicit (shallow_files_in config))) (codes "shallow"))

-- the file that keeps the pack of a digest
unfoldable pub keep_path : List ℕ → ObjectId → List ℕ
keep_path git_dir digest = in_directory git_dir (codes "objects/pack/pack-" ++ encode_lower (bytes_of digest) ++ codes ".keep")
