-- The grammar of commits in the words of the format: a commit is the lines of its head, and then anything.
use Rattle.std.specs.Prelude.{◌≡◌, ℕ, ◌^◌, ◌<◌, ◌≤◌, List, ◌∷◌, ◌++◌, length, map, codes, All, Some, IsTrue}
use Rattle.std.specs.List.{flat_map}
use Rattle.std.specs.Str.Parse.{digits_value}
use Rattle.fetch_base.specs.declared.id.Kind.{Kind}
use Rattle.fetch_base.specs.declared.object_kind.ObjectKind.TheVariants.{Commit}
use Rattle.fetch_base.specs.Id.{id_in_hex}
use Rattle.fetch_base.specs.Scan.{is_decimal, is_offset}
use Rattle.fetch_base.specs.Lines.{IsWithout}
use Rattle.fetch_objects.specs.Objects.{IsObject, links_of, parents_of, seconds_of}
use Rattle.fetch_objects.specs.Texts.{IsHexId, line}

-- the tree and the parents in hex digits, the author, the committer's name and email, when, and what follows
pub record CommitParts : Type 0 where
  pub tree : List ℕ
  pub parents : List (List ℕ)
  pub author : List ℕ
  pub committer : List ℕ
  pub seconds : List ℕ
  pub offset : List ℕ
  pub rest : List ℕ

-- The author and the committer are any text with no line feed.
pub record IsCommit (hash : Kind) (c : CommitParts) : Type 0 where
  pub tree : IsHexId hash c.tree
  pub parents : All (IsHexId hash) c.parents
  pub author : IsWithout 10 c.author
  pub committer : IsWithout 10 c.committer
  pub decimal : IsTrue (is_decimal c.seconds)
  pub few : length c.seconds ≤ 19
  pub fits : digits_value 10 c.seconds < 2 ^ 63
  pub offset : IsTrue (is_offset c.offset)

-- the line of a parent
abbrev pub parent_line : List ℕ → List ℕ
parent_line id = line (codes "parent " ++ id)

-- `<name and email> SP <seconds> SP <offset>`
abbrev pub signature : CommitParts → List ℕ
signature c = c.committer ++ 32 ∷ (c.seconds ++ 32 ∷ c.offset)

-- `tree <hex>` LF, `parent <hex>` LF for each parent, `author <text>` LF, `committer <signature>` LF, and then anything
unfoldable pub commit_text : CommitParts → List ℕ
commit_text c =
    line (codes "tree " ++ c.tree)
    ++ (flat_map parent_line c.parents
    ++ (line (codes "author " ++ c.author)
    ++ (line (codes "committer " ++ signature c)
    ++ c.rest)))

-- A commit says what its parts say.
pub record SaysParts (hash : Kind) (bytes : List ℕ) (c : CommitParts) : Type 0 where
  pub links : map Some (links_of hash Commit bytes) ≡ map (id_in_hex hash) (c.tree ∷ c.parents)
  pub parents : map Some (parents_of hash Commit bytes) ≡ map (id_in_hex hash) c.parents
  pub seconds : seconds_of hash Commit bytes ≡ Some (digits_value 10 c.seconds)

-- A commit is a text of that form, and each such text is a commit that says what its parts say.
pub record CommitsAreTexts (hash : Kind) (bytes : List ℕ) : Type 0 where
  pub text : IsObject hash Commit bytes → (c : CommitParts) × IsCommit hash c × (bytes ≡ commit_text c)
  pub commit : (c : CommitParts) → IsCommit hash c → bytes ≡ commit_text c → IsObject hash Commit bytes
  pub says : (c : CommitParts) → IsCommit hash c → bytes ≡ commit_text c → SaysParts hash bytes c
