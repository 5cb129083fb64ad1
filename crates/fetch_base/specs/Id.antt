-- Object ids.
use Rattle.std.specs.Prelude.{ℕ, List, Option}
use Rattle.std.specs.Option.{option_map}
use Rattle.std.specs.Result.{result_ok}
use Rattle.hex.specs.Hex.{decode_sized}
use Rattle.fetch_base.specs.declared.id.Kind.{Kind}
use Rattle.fetch_base.specs.declared.id.Kind.TheVariants as kinds
use Rattle.fetch_base.specs.declared.id.ObjectId.{ObjectId}
use Rattle.fetch_base.specs.declared.id.ObjectId.TheVariants as ids
use Rattle.std.specs.Ordering.{nat_cmp}
use Rattle.std.specs.Cmp.Lexicographic.{slice_cmp}
use Rattle.std.specs.declared.cmp.Ordering.{Ordering}
use Rattle.std.specs.declared.cmp.Ordering.TheVariants.{Less, Greater}

-- how many bytes an id has
abbrev pub byte_len : Kind → ℕ
byte_len kinds.Sha1 = 20
byte_len kinds.Sha256 = 32

-- the hash of an id
abbrev pub kind_of : ObjectId → Kind
kind_of (ids.Sha1 bytes) = kinds.Sha1
kind_of (ids.Sha256 bytes) = kinds.Sha256

-- the bytes of an id
abbrev pub bytes_of : ObjectId → List ℕ
bytes_of (ids.Sha1 bytes) = bytes
bytes_of (ids.Sha256 bytes) = bytes

-- the id of a kind with these bytes
abbrev pub id_of_bytes : Kind → List ℕ → ObjectId
id_of_bytes kinds.Sha1 bytes = ids.Sha1 bytes
id_of_bytes kinds.Sha256 bytes = ids.Sha256 bytes

-- the id of a kind that hex digits of either case spell
abbrev pub id_in_hex : Kind → List ℕ → Option ObjectId
id_in_hex kind text = option_map (id_of_bytes kind) (result_ok (decode_sized text (byte_len kind)))

-- shorter hashes first, and then byte by byte
abbrev pub id_cmp : ObjectId → ObjectId → Ordering
id_cmp (ids.Sha1 a) (ids.Sha1 b) = slice_cmp nat_cmp a b
id_cmp (ids.Sha1 a) (ids.Sha256 b) = Less
id_cmp (ids.Sha256 a) (ids.Sha1 b) = Greater
id_cmp (ids.Sha256 a) (ids.Sha256 b) = slice_cmp nat_cmp a b
