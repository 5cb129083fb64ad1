-- What a server of the line says.
use Rattle.std.specs.Prelude.{ℕ, List, [], ◌∷◌, ◌++◌, map, codes, Option, Some, option_to_list, option_map}
use Rattle.fetch_base.specs.declared.id.ObjectId.{ObjectId}
use Rattle.fetch_lines.specs.declared.greetings.handshake.Capability.{Capability}
use Rattle.fetch_lines.specs.declared.lines.line.Line.{Line}
use Rattle.fetch_lines.specs.declared.listings.reference.Ref.{Ref}
use Rattle.fetch_lines.specs.declared.listings.reference.Ref.TheVariants.{Direct}
use Rattle.fetch_lines.specs.Bands.{Piece, pack_lines}
use Rattle.fetch_lines.specs.Cutting.{in_pieces}
use Rattle.fetch_lines.specs.ServerLines.{greeting_lines, listing_lines_of}
use Rattle.fetch_lines.specs.Written.{lines_text}

-- a capability with a value
abbrev pub capability : List ℕ → List ℕ → Capability
capability name value = record { name = name; value = Some value }

-- what the server offers
unfoldable pub capabilities : List Capability
capabilities =
    capability (codes "ls-refs") (codes "unborn")
    ∷ capability (codes "fetch") (codes "shallow plain-pack")
    ∷ capability (codes "object-format") (codes "sha1") ∷ []

-- a reference that has an id, where there is one
abbrev pub listed : List ℕ → Option ObjectId → List Ref
listed name tip = option_to_list (option_map (Direct name) tip)

-- the server's two branches
unfoldable pub branches : Option ObjectId → Option ObjectId → List Ref
branches main old = listed (codes "refs/heads/main") main ++ listed (codes "refs/heads/old") old

-- The greeting, the listing, and the reply with a pack, in bands of 65,000 bytes, the last of which may be shorter.
abbrev pub said : List Ref → List ℕ → List Line
said refs pack = greeting_lines capabilities ++ listing_lines_of refs ++ pack_lines (map Piece (in_pieces 65000 pack))

-- and these lines as they are written
abbrev pub stream_of : List Ref → List ℕ → List ℕ
stream_of refs pack = lines_text (said refs pack)
