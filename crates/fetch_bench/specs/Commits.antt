-- A line of commits over the empty tree, one after the other. They are told by how many stand before them.
use Rattle.std.specs.Prelude.{ℕ, zero, suc, ◌+◌, List, [], ◌∷◌, ◌++◌, map, codes, decimal, Option, Some, None, option_to_list, option_map}
use Rattle.std.specs.List.{range_with_len}
use Rattle.fetch_objects.specs.CommitTexts.{CommitParts, commit_text}
use Rattle.fetch_base.specs.Hashing.{id_of}
use Rattle.fetch_base.specs.Digits.{hex_of}
use Rattle.fetch_objects.specs.Objects.{Stored}
use Rattle.fetch_store.specs.Stores.{Entries}
use Rattle.fetch_base.specs.declared.id.Kind.TheVariants.{Sha1}
use Rattle.fetch_base.specs.declared.id.ObjectId.{ObjectId}
use Rattle.fetch_base.specs.declared.object_kind.ObjectKind.TheVariants.{Commit, Tree}

-- an object under its id
abbrev pub under_its_id : Stored → ObjectId × Stored
under_its_id o = (id_of o.hash o.kind o.bytes, o)

-- the tree that has no entry
abbrev pub empty_tree : Stored
empty_tree = record { hash = Sha1; kind = Tree; bytes = [] }

-- the id of the empty tree
abbrev pub tree_id : ObjectId
tree_id = id_of Sha1 Tree []

-- who wrote the commit of a number, and when: that many seconds after 1970
unfoldable pub signature : ℕ → List ℕ
signature number = codes "A <a@x> " ++ decimal number ++ codes " +0000"

-- The commit of a number has the empty tree and this parent, and its number as its message.
abbrev pub parts : Option ObjectId → ℕ → CommitParts
parts parent number = record {
  tree = hex_of tree_id;
  parents = option_to_list (option_map hex_of parent);
  author = signature number;
  committer = codes "A <a@x>";
  seconds = decimal number;
  offset = codes "+0000";
  rest = 10 ∷ (decimal number ++ 10 ∷ []);
}

-- the text of a commit
unfoldable pub text_of : Option ObjectId → ℕ → List ℕ
text_of parent number = commit_text (parts parent number)

-- a commit with this parent and number
abbrev pub commit_of : Option ObjectId → ℕ → Stored
commit_of parent number = record { hash = Sha1; kind = Commit; bytes = text_of parent number }

-- the id of the last of the first n commits, where there is one
abbrev pub tip : ℕ → Option ObjectId
tip zero = None
tip (suc n) = Some (id_of Sha1 Commit (text_of (tip n) (n + 1)))

-- The commit after n others: the last of them is its parent, and its number is n + 1.
abbrev pub commit_after : ℕ → Stored
commit_after n = commit_of (tip n) (n + 1)

-- count commits, of which the first stands after n others
abbrev pub commits_after : ℕ → ℕ → List Stored
commits_after n count = map commit_after (range_with_len n count)

-- the empty tree, and the first n commits after it
abbrev pub line_of : ℕ → Entries
line_of n = map under_its_id (empty_tree ∷ commits_after 0 n)
