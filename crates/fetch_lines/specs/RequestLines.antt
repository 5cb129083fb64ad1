-- The lines that a fetch request is sent by.
use Rattle.std.specs.Prelude.{ℕ, Bool, ◌||◌, List, [], ◌∷◌, ◌++◌, length, take, drop, map, position, unwrap_or}
use Rattle.std.specs.Str.{bytes_eq}
use Rattle.hex.specs.Hex.{encode_lower}
use Rattle.fetch_base.specs.Id.{bytes_of}
use Rattle.fetch_base.specs.declared.id.ObjectId.{ObjectId}
use Rattle.fetch_lines.specs.declared.lines.line.Line.{Line}
use Rattle.fetch_lines.specs.declared.lines.line.Line.TheVariants.{Flush, Delim}
use Rattle.fetch_lines.specs.declared.requests.records.Request.{Request}
use Rattle.fetch_lines.specs.RequestWords.{plain_pack, plain_pack_2, have_word, done_word}
use Rattle.fetch_lines.specs.Requests.{sent, when}

-- a word and an id, for each id
abbrev pub id_lines : List ℕ → List ObjectId → List (List ℕ)
id_lines word ids = map (λ id. word ++ encode_lower (bytes_of id)) ids

-- whether a line is `plain-pack` or `plain-pack-2`
unfoldable pub is_plain_pack : List ℕ → Bool
is_plain_pack line = bytes_eq line plain_pack || bytes_eq line plain_pack_2

-- how many lines stand before the first that is one of these, or all where there is none
abbrev pub pack_place : List (List ℕ) → ℕ
pack_place lines = unwrap_or (position is_plain_pack lines) (length lines)

-- the delimiter before the line `plain-pack` or `plain-pack-2`, and the haves, `done` and the flush after all
unfoldable pub request_lines : Request → List Line
request_lines r =
    let place = pack_place r.lines in
    sent (take place r.lines) ++ Delim ∷ [] ++ sent (drop place r.lines ++ id_lines have_word r.haves ++ when r.done done_word)
    ++ Flush ∷ []
