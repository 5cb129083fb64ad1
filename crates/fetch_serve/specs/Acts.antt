-- What is done with a server, one act after another.
use Rattle.std.specs.Prelude.{◌≡◌, ℕ, ◌≤◌, List, [], ◌∷◌, ◌++◌, length, take, drop, None}
use Rattle.fetch_serve.specs.Servings.{Serving, Takes}

-- a piece is fed, or so many bytes are sent
pub data Act : Type 0 where
  Feeds : List ℕ → Act
  Sends : ℕ → Act

-- an act that isn't refused, and what was sent by it
abbrev pub Does : Serving → Act → List ℕ → Serving → Type 0
Does s (Feeds piece) given now = (given ≡ []) × Takes s piece now None
Does s (Sends count) given now = (count ≤ length s.outgoing) × (given ≡ take count s.outgoing)
    × (now ≡ record s { outgoing = drop count s.outgoing })

-- acts one after another, and all that was sent
abbrev pub DoesAll : Serving → List Act → List ℕ → Serving → Type 0
DoesAll s [] given now = (given ≡ []) × (now ≡ s)
DoesAll s (act ∷ acts) given now =
    (mid : Serving) × (first : List ℕ) × (others : List ℕ) × (given ≡ first ++ others) × Does s act first mid × DoesAll mid acts others now

-- all that was fed
abbrev pub fed_by : List Act → List ℕ
fed_by [] = []
fed_by (Feeds piece ∷ acts) = piece ++ fed_by acts
fed_by (Sends count ∷ acts) = fed_by acts
