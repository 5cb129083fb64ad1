-- The digits of an id.
use Rattle.std.specs.Prelude.{ℕ, List}
use Rattle.hex.specs.Hex.{encode_lower}
use Rattle.fetch_base.specs.Id.{bytes_of}
use Rattle.fetch_base.specs.declared.id.ObjectId.{ObjectId}

-- an id in hexadecimal digits of lower case
abbrev pub hex_of : ObjectId → List ℕ
hex_of id = encode_lower (bytes_of id)
