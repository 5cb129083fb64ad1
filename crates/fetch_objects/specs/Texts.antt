-- The grammar of objects in the words of the format: a text is put together from its parts.
use Rattle.std.specs.Prelude.{◌≡◌, ℕ, ◌*◌, List, [], ◌∷◌, ◌++◌, length, map, codes, Some}
use Rattle.std.specs.List.{AllPass}
use Rattle.hex.specs.Hex.{is_hex_digit}
use Rattle.fetch_base.specs.declared.id.Kind.{Kind}
use Rattle.fetch_base.specs.declared.object_kind.ObjectKind.{ObjectKind}
use Rattle.fetch_base.specs.declared.object_kind.ObjectKind.TheVariants.{Tag}
use Rattle.fetch_base.specs.Hashing.{name_of}
use Rattle.fetch_objects.specs.Objects.{target_of, IsObject, links_of}
use Rattle.fetch_base.specs.Id.{byte_len, id_in_hex}

-- an id in hex digits of either case
abbrev pub IsHexId : Kind → List ℕ → Type 0
IsHexId hash digits = (length digits ≡ 2 * byte_len hash) × AllPass is_hex_digit digits

-- what a tag points at, in hex digits, the kind of that, and what follows
pub record TagParts : Type 0 where
  pub object : List ℕ
  pub kind : ObjectKind
  pub rest : List ℕ

-- a text with its line feed
abbrev pub line : List ℕ → List ℕ
line text = text ++ 10 ∷ []

-- `object <hex>` LF `type <kind>` LF, and then anything
unfoldable pub tag_text : TagParts → List ℕ
tag_text t = line (codes "object " ++ t.object) ++ (line (codes "type " ++ name_of t.kind) ++ t.rest)

-- A tag is a text of that form, and each such text is a tag. Its one link, which is its target, is the id in its first line.
pub record TagsAreTexts (hash : Kind) (bytes : List ℕ) : Type 0 where
  pub text : IsObject hash Tag bytes → (t : TagParts) × IsHexId hash t.object × (bytes ≡ tag_text t)
  pub tag : (t : TagParts) → IsHexId hash t.object → bytes ≡ tag_text t → IsObject hash Tag bytes
  pub links : (t : TagParts) → IsHexId hash t.object → bytes ≡ tag_text t
      → map Some (links_of hash Tag bytes) ≡ id_in_hex hash t.object ∷ []
  pub target : (t : TagParts) → IsHexId hash t.object → bytes ≡ tag_text t
      → target_of (record { hash = hash; kind = Tag; bytes = bytes }) ≡ id_in_hex hash t.object
