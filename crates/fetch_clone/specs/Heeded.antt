-- The interrupt is heeded while a clone talks to its peers.
use Rattle.std.specs.Prelude.{ℕ, ◌+◌, ◌<◌, ◌≤◌, Option}
use Rattle.fetch_lines.specs.Talks.{Talk}
use Rattle.fetch_conversation.specs.Receiving.{HasReceived}

-- The interrupt was asked so often, and said no each time. No yes was passed over that it was to say, and all later ones it has
-- still to say, so it was asked no oftener.
pub record SaysNo (will will' : ℕ → Type 0) : Type 0 where
  pub asked : ℕ
  pub no_yes : (n : ℕ) → n < asked → will n → ⊥
  pub later : (n : ℕ) → will (asked + n) → will' n

-- The same, and it was asked at least once for each receive of a peer that stood so before, and stands so.
pub record IsHeededOver (will will' : ℕ → Type 0) (old new : Option Talk) : Type 0 where
  pub asked : ℕ
  pub receives : ℕ
  pub made : HasReceived receives old new
  pub each : receives ≤ asked
  pub no_yes : (n : ℕ) → n < asked → will n → ⊥
  pub later : (n : ℕ) → will (asked + n) → will' n
