-- Bytes that are cut into pieces.
use Rattle.std.specs.Prelude.{ℕ, zero, suc, List, [], ◌∷◌, length, take, drop}

-- at most that many pieces
unfoldable pub pieces_within : ℕ → ℕ → List ℕ → List (List ℕ)
pieces_within zero size bytes = []
pieces_within (suc n) size [] = []
pieces_within (suc n) size (b ∷ bytes) = take size (b ∷ bytes) ∷ pieces_within n size (drop size (b ∷ bytes))

-- The bytes in pieces of this size, one or more, of which the last may be shorter. No piece is empty.
abbrev pub in_pieces : ℕ → List ℕ → List (List ℕ)
in_pieces size bytes = pieces_within (length bytes) size bytes
