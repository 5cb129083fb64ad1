-- A pack that is cut into bands, in whatever way.
use Rattle.std.specs.Prelude.{ℕ, List, [], ◌∷◌, ◌++◌, map, Some, codes}
use Rattle.std.specs.List.{concat}
use Rattle.fetch_lines.specs.declared.lines.line.Line.{Line}
use Rattle.fetch_lines.specs.declared.lines.line.Line.TheVariants.{Payload, Flush}
use Rattle.fetch_lines.specs.declared.requests.records.FetchReply.{FetchReply}
use Rattle.fetch_lines.specs.FetchRecords.{no_reply}

-- a part of the pack, or a text of progress
pub data Band : Type 0 where
  Piece : List ℕ → Band
  Progress : List ℕ → Band

-- a band as a line
abbrev pub band_line : Band → Line
band_line (Piece bytes) = Payload (1 ∷ bytes)
band_line (Progress text) = Payload (2 ∷ text)

-- the parts of the pack, in order
abbrev pub pieces_of : List Band → List (List ℕ)
pieces_of [] = []
pieces_of (Piece bytes ∷ bands) = bytes ∷ pieces_of bands
pieces_of (Progress text ∷ bands) = pieces_of bands

-- the texts of progress, in order
abbrev pub texts_of : List Band → List (List ℕ)
texts_of [] = []
texts_of (Piece bytes ∷ bands) = texts_of bands
texts_of (Progress text ∷ bands) = text ∷ texts_of bands

-- the line of a reply that has no acknowledgments and doesn't change the border, and its bands
abbrev pub pack_lines : List Band → List Line
pack_lines bands = Payload (codes "packfile" ++ 10 ∷ []) ∷ (map band_line bands ++ Flush ∷ [])

-- what that reply tells
abbrev pub packed : List Band → FetchReply
packed bands = record no_reply { pack = Some (concat (pieces_of bands)); progress = texts_of bands }
