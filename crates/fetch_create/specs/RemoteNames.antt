-- What a clone's remote is called, and by which refspec it is fetched.
use Rattle.std.specs.Prelude.{ℕ, false, if◌then◌else◌, List, ◌∷◌, ◌++◌, length, drop, Option, Some, None, codes, nat_eq}
use Rattle.std.specs.List.{starts_with}
use Rattle.fetch_config.specs.Contents.{Contents}
use Rattle.fetch_config.specs.Lookups.{values_of, explicit, last_of}

-- `clone.defaultRemoteName`, where an entry has a value
unfoldable pub default_remote_of : Contents → Option (List ℕ)
default_remote_of config = last_of (explicit (values_of (codes "clone") None (codes "defaultRemoteName") false config.sections))

-- what names of branches begin with
abbrev pub heads : List ℕ
heads = codes "refs/heads/"

-- where the remote's branches are kept
abbrev pub tracking_of : List ℕ → List ℕ → List ℕ
tracking_of remote short = codes "refs/remotes/" ++ remote ++ 47 ∷ short

-- A branch goes to the remote's own, and any other reference is called as it is there.
abbrev pub destination_of : List ℕ → List ℕ → List ℕ
destination_of remote target = if starts_with nat_eq target heads then tracking_of remote (drop (length heads) target) else target

-- the refspec of one reference
abbrev pub spec_of_one : List ℕ → List ℕ → List ℕ
spec_of_one remote target = 43 ∷ target ++ 58 ∷ destination_of remote target

-- the refspec of one reference, or else of all branches
abbrev pub spec_text : List ℕ → Option (List ℕ) → List ℕ
spec_text remote (Some target) = spec_of_one remote target
spec_text remote None = codes "+refs/heads/*:" ++ tracking_of remote (codes "*")
