-- The grammar of objects. A text is parts, one after the other: the lines at the head of a commit or a tag,
-- or the entries of a tree. After the last line of a head any bytes may follow.
use Rattle.std.specs.Prelude.{ℕ, Bool, ◌&&◌, nat_le, nat_eq, if◌then◌else◌, List, length, take, drop, codes, Option, Some, None}
use Rattle.std.specs.List.{list_all, starts_with}
use Rattle.std.specs.Option.{option_map}
use Rattle.std.specs.Str.{bytes_eq}
use Rattle.std.specs.Int.{is_in_range}
use Rattle.fetch_base.specs.declared.id.Kind.{Kind}
use Rattle.fetch_base.specs.declared.id.ObjectId.{ObjectId}
use Rattle.fetch_base.specs.declared.object_kind.ObjectKind.{ObjectKind}
use Rattle.fetch_base.specs.declared.object_kind.ObjectKind.TheVariants as objects
use Rattle.fetch_objects.specs.declared.grammar.Part.{Part}
use Rattle.fetch_objects.specs.declared.grammar.Part.TheVariants.{Tree, Parent, Author, Committer, Entry, Submodule, Tagged, TaggedKind}
use Rattle.fetch_objects.specs.declared.grammar.Expected.{Expected}
use Rattle.fetch_objects.specs.declared.grammar.Expected.TheVariants as expect
use Rattle.fetch_base.specs.Id.{byte_len, id_of_bytes, id_in_hex}
use Rattle.fetch_base.specs.Scan.{◌>>=◌, split_first, split_last, after, seconds_in, is_offset}

-- a part, what is expected after it, and the bytes there
pub record Step : Type 0 where
  pub part : Part
  pub expected : Expected
  pub rest : List ℕ

-- `<word> <hex>`
abbrev pub id_after : Kind → List ℕ → List ℕ → Option ObjectId
id_after hash word line = after word line >>= id_in_hex hash

-- `committer <text> SP <seconds> SP <offset>`
abbrev pub committed : List ℕ → Option ℕ
committed line = do
  text ← after (codes "committer ") line
  zone ← split_last 32 text
  time ← split_last 32 zone.0
  if is_offset zone.1 then seconds_in time.1 else None

-- `parent <hex>` or `author <text>`
abbrev pub parent_or_author : Kind → List ℕ → List ℕ → Option Step
parent_or_author hash line rest =
    if starts_with nat_eq line (codes "author ")
    then Some (record { part = Author; expected = expect.CommitterLine; rest = rest })
    else option_map (λ id. record { part = Parent id; expected = expect.ParentOrAuthor; rest = rest })
    (id_after hash (codes "parent ") line)

-- the kind that has this name
abbrev pub kind_named : List ℕ → Option ObjectKind
kind_named name =
    if bytes_eq name (codes "commit") then Some objects.Commit
    else if bytes_eq name (codes "tree") then Some objects.Tree
    else if bytes_eq name (codes "blob") then Some objects.Blob
    else if bytes_eq name (codes "tag") then Some objects.Tag
    else None

-- `type <kind>`
abbrev pub kind_after : List ℕ → Option ObjectKind
kind_after line = after (codes "type ") line >>= kind_named

-- 1 to 6 octal digits
abbrev pub is_mode : List ℕ → Bool
is_mode mode = nat_le 1 (length mode) && nat_le (length mode) 6 && list_all (λ c. is_in_range 48 55 c) mode

-- A submodule's id is that of a commit in another repository.
abbrev pub entry : Kind → List ℕ → List ℕ → Part
entry hash mode id = if bytes_eq mode (codes "160000") then Submodule else Entry (id_of_bytes hash id)

-- a name that is not empty, and the raw id
abbrev pub entry_of : Kind → List ℕ → List ℕ → List ℕ → Option Step
entry_of hash mode name bytes =
    if is_mode mode && nat_le 1 (length name) && nat_le (byte_len hash) (length bytes)
    then Some (record { part = entry hash mode (take (byte_len hash) bytes); expected = expect.Entry; rest = drop (byte_len hash) bytes })
    else None

-- `<mode> SP <name> NUL <raw id>`
abbrev pub entry_at : Kind → List ℕ → Option Step
entry_at hash bytes = do
  mode ← split_first 32 bytes
  name ← split_first 0 mode.1
  entry_of hash mode.0 name.0 name.1

-- the part at the front
abbrev pub part_at : Kind → Expected → List ℕ → Option Step
part_at hash expect.TreeLine bytes = do
  line ← split_first 10 bytes
  id ← id_after hash (codes "tree ") line.0
  Some (record { part = Tree id; expected = expect.ParentOrAuthor; rest = line.1 })
part_at hash expect.ParentOrAuthor bytes = do
  line ← split_first 10 bytes
  parent_or_author hash line.0 line.1
part_at hash expect.CommitterLine bytes = do
  line ← split_first 10 bytes
  seconds ← committed line.0
  Some (record { part = Committer seconds; expected = expect.Anything; rest = line.1 })
part_at hash expect.TaggedLine bytes = do
  line ← split_first 10 bytes
  id ← id_after hash (codes "object ") line.0
  Some (record { part = Tagged id; expected = expect.TypeLine; rest = line.1 })
part_at hash expect.TypeLine bytes = do
  line ← split_first 10 bytes
  kind ← kind_after line.0
  Some (record { part = TaggedKind kind; expected = expect.Anything; rest = line.1 })
part_at hash expect.Entry bytes = entry_at hash bytes
part_at hash expect.Anything bytes = None
