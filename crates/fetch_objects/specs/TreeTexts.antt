-- The grammar of trees in the words of the format: a tree is its entries, one after the other.
use Rattle.std.specs.Prelude.{◌≡◌, ℕ, ◌≤◌, if◌then◌else◌, List, ◌∷◌, ◌++◌, length, codes, All, Option, Some, None}
use Rattle.std.specs.List.{AllPass, flat_map, filter_map}
use Rattle.std.specs.Str.{bytes_eq}
use Rattle.std.specs.Int.{is_in_range}
use Rattle.fetch_base.specs.declared.id.Kind.{Kind}
use Rattle.fetch_base.specs.declared.id.ObjectId.{ObjectId}
use Rattle.fetch_base.specs.declared.object_kind.ObjectKind.TheVariants.{Tree}
use Rattle.fetch_base.specs.Id.{byte_len, id_of_bytes}
use Rattle.fetch_base.specs.Lines.{IsWithout}
use Rattle.fetch_objects.specs.Objects.{IsObject, links_of}

-- what an entry says, byte by byte
pub record TreeEntry : Type 0 where
  pub mode : List ℕ
  pub name : List ℕ
  pub id : List ℕ

-- a mode of 1 to 6 octal digits, a name of one byte or more, none of them NUL, and a raw id
pub record IsEntry (hash : Kind) (e : TreeEntry) : Type 0 where
  pub digits : 1 ≤ length e.mode
  pub few : length e.mode ≤ 6
  pub octal : AllPass (is_in_range 48 55) e.mode
  pub named : 1 ≤ length e.name
  pub ends : IsWithout 0 e.name
  pub whole : length e.id ≡ byte_len hash

-- `<mode> SP <name> NUL <raw id>`
abbrev pub entry_text : TreeEntry → List ℕ
entry_text e = e.mode ++ 32 ∷ (e.name ++ 0 ∷ e.id)

-- The order of the entries is free.
unfoldable pub tree_text : List TreeEntry → List ℕ
tree_text entries = flat_map entry_text entries

-- A submodule is no link.
abbrev pub link_of : Kind → TreeEntry → Option ObjectId
link_of hash e = if bytes_eq e.mode (codes "160000") then None else Some (id_of_bytes hash e.id)

-- A tree is a text of that form, and each such text is a tree. It links to its entries' ids, in order.
pub record TreesAreTexts (hash : Kind) (bytes : List ℕ) : Type 0 where
  pub text : IsObject hash Tree bytes → (entries : List TreeEntry) × All (IsEntry hash) entries × (bytes ≡ tree_text entries)
  pub tree : (entries : List TreeEntry) → All (IsEntry hash) entries → bytes ≡ tree_text entries → IsObject hash Tree bytes
  pub links : (entries : List TreeEntry) → All (IsEntry hash) entries → bytes ≡ tree_text entries
      → links_of hash Tree bytes ≡ filter_map (link_of hash) entries
