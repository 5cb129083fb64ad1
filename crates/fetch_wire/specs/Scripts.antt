-- Scripted objects: what they have still to do, and their calls.
use Rattle.std.specs.Prelude.{ℕ, ◌+◌, ◌-◌, ◌^◌, ◌<◌, List, ◌++◌, ◌∷◌, [], take, drop, slice_index_or, None, Contains, Bool, true, false}
use Rattle.std.specs.Prelude.{Result, Ok, Err}
use Rattle.std.specs.List.{concat}
use Rattle.fetch_base.specs.Calls.{CallList, one_more}
use Rattle.fetch_lines.specs.Talks.{Talk, Receive}
use Rattle.fetch_lines.specs.declared.peer.SendFault.{SendFault}
use Rattle.fetch_lines.specs.declared.peer.SendFault.TheVariants as sending

-- a scripted peer: what it heard and gave, the pieces that it has still to give, its receives, the calls that fail, and
-- how many failed
pub record Script : Type 0 where
  pub heard : List ℕ
  pub given : List ℕ
  pub pieces : List (List ℕ)
  pub receives : List Receive
  pub calls : CallList
  pub failed : ℕ

-- A script's talk. It gives by no rule: its pieces stand, whatever it hears.
abbrev pub talk_of : Script → Talk
talk_of s = record { heard = s.heard; given = s.given; to_come = concat s.pieces; receives = s.receives; rule = None }

-- the count of failures after a call that may fail or run out of memory: one more where it failed
abbrev pub sends_failed : {X : Type 0} → ℕ → Result X SendFault → ℕ
sends_failed failed (Ok value) = failed
sends_failed failed (Err sending.Failed) = one_more failed
sends_failed failed (Err sending.NoMemory) = failed

-- the count of answers after a question: one more where it was yes
abbrev pub said_after : ℕ → Bool → ℕ
said_after said_yes true = one_more said_yes
said_after said_yes false = said_yes

-- a scripted interrupt: the calls that are answered yes, and how many were
pub record Asking : Type 0 where
  pub calls : CallList
  pub said_yes : ℕ

-- The call is listed that comes that many calls after the next one.
abbrev pub IsListed : CallList → ℕ → Type 0
IsListed calls n = Contains calls.listed (calls.next + n) × (calls.next + n < 2 ^ 64 - 1)

-- the pieces without the empty ones at their front
abbrev pub from_first : List (List ℕ) → List (List ℕ)
from_first [] = []
from_first ([] ∷ pieces) = from_first pieces
from_first ((b ∷ bytes) ∷ pieces) = (b ∷ bytes) ∷ pieces

-- the first of some pieces
abbrev pub first_of : List (List ℕ) → List ℕ
first_of [] = []
first_of (piece ∷ pieces) = piece

-- the pieces without that many bytes at the front of the first
abbrev pub without : ℕ → List (List ℕ) → List (List ℕ)
without n [] = []
without n (piece ∷ pieces) = drop n piece ∷ pieces

-- the bytes of the pieces before this place
abbrev pub given_of : List (List ℕ) → ℕ → ℕ → List ℕ
given_of pieces piece offset = concat (take piece pieces) ++ take offset (slice_index_or pieces piece [])

-- the pieces from there on
abbrev pub pieces_from : List (List ℕ) → ℕ → ℕ → List (List ℕ)
pieces_from pieces piece offset = without offset (drop piece pieces)
