-- The configuration that a new repository begins with.
use Rattle.std.specs.Prelude.{ℕ, Bool, true, false, not, List, [], ◌∷◌, ◌++◌, codes}
use Rattle.fetch_base.specs.declared.id.Kind.{Kind}
use Rattle.fetch_base.specs.declared.id.Kind.TheVariants as hashes
use Rattle.fetch_create.specs.declared.create.Capabilities.{Capabilities}
use Rattle.fetch_create.specs.declared.create.Kind.TheVariants as kinds
use Rattle.fetch_create.specs.declared.create.Kind.{Kind as Layout}

-- a text with its line feed
abbrev pub line : List ℕ → List ℕ
line text = text ++ 10 ∷ []

-- a truth value as it is written
abbrev pub truth : Bool → List ℕ
truth true = codes "true"
truth false = codes "false"

-- a tab, the key, and its value
abbrev pub entry : List ℕ → List ℕ → List ℕ
entry key value = line (9 ∷ key ++ codes " = " ++ value)

-- whether there is no work tree
abbrev pub is_bare : Layout → Bool
is_bare kinds.Bare = true
is_bare kinds.WithWorktree = false

-- what is said of symbolic links where there are none, and nothing else
abbrev pub symlinks_in : Bool → List ℕ
symlinks_in true = []
symlinks_in false = entry (codes "symlinks") (codes "false")

-- SHA-1 is what the first version of the format means, and any other hash is an extension of the next.
abbrev pub version_in : Kind → List ℕ
version_in hashes.Sha1 = entry (codes "repositoryformatversion") (codes "0")
version_in hashes.Sha256 = entry (codes "repositoryformatversion") (codes "1") ++ line (codes "[extensions]")
    ++ entry (codes "objectformat") (codes "sha256")

-- the configuration of a new repository
unfoldable pub configuration_of : Layout → Capabilities → Kind → List ℕ
configuration_of kind can hash =
    line (codes "[core]")
    ++ entry (codes "filemode") (truth can.executable_bit)
    ++ entry (codes "bare") (truth (is_bare kind))
    ++ entry (codes "logallrefupdates") (truth (not (is_bare kind)))
    ++ symlinks_in can.symlink
    ++ entry (codes "ignorecase") (truth can.ignore_case)
    ++ entry (codes "precomposeunicode") (truth can.precompose_unicode)
    ++ version_in hash
