-- What an object's id is.
use Rattle.std.specs.Prelude.{ℕ, List, [], ◌∷◌, ◌++◌, length, codes, decimal}
use Rattle.sha1.specs.Sha1.{sha1}
use Rattle.sha2.specs.Sha256.{sha256}
use Rattle.fetch_base.specs.declared.id.Kind.{Kind}
use Rattle.fetch_base.specs.declared.id.Kind.TheVariants as kinds
use Rattle.fetch_base.specs.declared.id.ObjectId.{ObjectId}
use Rattle.fetch_base.specs.declared.id.ObjectId.TheVariants as ids
use Rattle.fetch_base.specs.declared.object_kind.ObjectKind.{ObjectKind}
use Rattle.fetch_base.specs.declared.object_kind.ObjectKind.TheVariants.{Commit, Tree, Blob, Tag}

-- Git's name of a kind
abbrev pub name_of : ObjectKind → List ℕ
name_of Commit = codes "commit"
name_of Tree = codes "tree"
name_of Blob = codes "blob"
name_of Tag = codes "tag"

-- the digest of a message, as an id
abbrev pub digest : Kind → List ℕ → ObjectId
digest kinds.Sha1 message = ids.Sha1 (sha1 message)
digest kinds.Sha256 message = ids.Sha256 (sha256 message)

-- `<kind> SP <length> NUL`
abbrev pub header : ObjectKind → ℕ → List ℕ
header kind len = name_of kind ++ codes " " ++ decimal len ++ 0 ∷ []

-- the id of an object
abbrev pub id_of : Kind → ObjectKind → List ℕ → ObjectId
id_of hash kind bytes = digest hash (header kind (length bytes) ++ bytes)
