-- Bundles: one text for one repository.
use Rattle.std.specs.Prelude.{ℕ, ◌+◌, Bool, List, [], ◌∷◌, ◌++◌, map, filter, length, codes, nat_lt, Option, Some, None, slice_get}
use Rattle.std.specs.Prelude.{if◌then◌else◌}
use Rattle.std.specs.List.{filter_map}
use Rattle.std.specs.FinMap as finmap
use Rattle.fetch_base.specs.declared.id.Kind.{Kind}
use Rattle.fetch_base.specs.declared.id.Kind.TheVariants.{Sha1, Sha256}
use Rattle.fetch_base.specs.declared.id.ObjectId.{ObjectId}
use Rattle.fetch_store.specs.Borders.{IdSet, ids_of, set_of}
use Rattle.fetch_store.specs.Closed.{Holding}
use Rattle.fetch_base.specs.Digits.{hex_of}
use Rattle.fetch_store.specs.Stores.{Entries}
use Rattle.fetch_pack.specs.Records.{pack_text, payloads_of}
use Rattle.fetch_pack.specs.declared.version.PackVersion.TheVariants.{V2}
use Rattle.fetch_refs.specs.declared.target.Target.{Target}
use Rattle.fetch_refs.specs.declared.target.Target.TheVariants.{Object, Symbolic}
use Rattle.fetch_refs.specs.Names.{Names}
use Rattle.fetch_lines.specs.declared.lines.line.Line.{Line}
use Rattle.fetch_lines.specs.declared.lines.line.Line.TheVariants.{Payload, Flush, Delim}
use Rattle.fetch_lines.specs.Cutting.{in_pieces}
use Rattle.fetch_lines.specs.Requests.{sent, text_line}
use Rattle.fetch_lines.specs.Written.{lines_text}
use Rattle.fetch_reach.specs.Sets.{is_among}
use Rattle.fetch_reach.specs.Stored.{entries_at}

-- what a bundle tells: references, the commits whose parents are left out, and objects under their ids
pub record Bundled : Type 0 where
  pub hash : Kind
  pub names : Names
  pub border : IdSet
  pub objects : Entries

-- ---- its text

-- the word of a hash
abbrev pub hash_word : Kind → List ℕ
hash_word Sha1 = codes "sha1"
hash_word Sha256 = codes "sha256"

-- an id in lower-case digits, or `@` and a name
abbrev pub target_text : Target → List ℕ
target_text (Object id) = hex_of id
target_text (Symbolic name) = 64 ∷ name

-- `ref <target> <name>`
abbrev pub ref_text : List ℕ × Target → List ℕ
ref_text e = codes "ref " ++ target_text e.1 ++ 32 ∷ e.0

-- `border <id>`
abbrev pub border_text : ObjectId → List ℕ
border_text id = codes "border " ++ hex_of id

-- the texts of the first two lines
abbrev pub head_texts : Kind → List (List ℕ)
head_texts hash = codes "bundle 1" ∷ (codes "hash " ++ hash_word hash) ∷ []

-- the lines of references, by ascending name
abbrev pub ref_lines : Names → List Line
ref_lines names = sent (map ref_text (finmap.entries names))

-- the lines of a border, by ascending id
abbrev pub border_lines : List ObjectId → List Line
border_lines ids = sent (map border_text ids)

-- the pack of the objects, in pieces
abbrev pub piece_lines : List ℕ → List Line
piece_lines pack = map (λ piece. Payload piece) (in_pieces 65000 pack)

-- the pack of the objects
abbrev pub pack_of : Bundled → List ℕ
pack_of b = pack_text V2 b.hash (payloads_of (map (λ e. e.1) b.objects))

-- the line of a reference
abbrev pub ref_line : List ℕ × Target → Line
ref_line e = text_line (ref_text e)

-- the line of a commit of the border
abbrev pub border_line : ObjectId → Line
border_line id = text_line (border_text id)

-- what the lines of a bundle say: references, the commits whose parents are left out, and the bytes of a pack
pub record Said : Type 0 where
  pub hash : Kind
  pub names : Names
  pub border : IdSet
  pub pack : List ℕ

-- the lines before the pack
abbrev pub lines_before_pack : Said → List Line
lines_before_pack s = sent (head_texts s.hash) ++ ref_lines s.names ++ border_lines (ids_of s.border) ++ Delim ∷ []

-- the lines that say this
abbrev pub said_lines : Said → List Line
said_lines s = lines_before_pack s ++ piece_lines s.pack ++ Flush ∷ []

-- what a bundle says
abbrev pub said_in : Bundled → Said
said_in b = record { hash = b.hash; names = b.names; border = b.border; pack = pack_of b }

-- the lines of a bundle
abbrev pub bundle_lines : Bundled → List Line
bundle_lines b = said_lines (said_in b)

-- the one text of a bundle
abbrev pub bundle_text : Bundled → List ℕ
bundle_text b = lines_text (bundle_lines b)

-- ---- what is bundled of a repository

-- the references, the objects at these ids, and the border's commits among them
abbrev pub bundled : Kind → Names → Holding → List ObjectId → Bundled
bundled hash names h ids = record {
  hash = hash;
  names = names;
  border = set_of (filter (λ id. is_among id ids) (ids_of h.border));
  objects = entries_at h.objects ids;
}

-- whether the line of a reference would have a payload of more than 65,516 bytes
abbrev pub has_long_line : List ℕ × Target → Bool
has_long_line e = nat_lt 65516 (length (ref_text e) + 1)

-- its name, if it would
abbrev pub long_name : List ℕ × Target → Option (List ℕ)
long_name e = if has_long_line e then Some e.0 else None

-- the name of the first reference whose line would be too long
abbrev pub first_long : Names → Option (List ℕ)
first_long names = slice_get (filter_map long_name (finmap.entries names)) 0
