-- How often was received, and what was asked before.
use Rattle.std.specs.Prelude.{◌≡◌, ℕ, ◌+◌, ◌<◌, Bool, length, Option, Some, None, Result, Ok, Err, ⊤, if◌then◌else◌}
use Rattle.fetch_lines.specs.Talks.{Talk}

-- that many receives were made, where it is told
abbrev pub HasReceived : ℕ → Option Talk → Option Talk → Type 0
HasReceived n None now = ⊤
HasReceived n (Some a) None = ⊥
HasReceived n (Some a) (Some b) = length b.receives ≡ length a.receives + n

-- one question more, where a yes is told
abbrev pub last_question : {T E : Type 0} → (E → Bool) → Result T E → ℕ
last_question is_yes (Ok x) = 0
last_question is_yes (Err e) = if is_yes e then 1 else 0

-- The interrupt was asked once before each receive, and said no; and, where a yes is told, once more. No yes was passed
-- over that it was to say, and all later ones it has still to say, so it was asked no oftener.
pub record IsHeeded {T E : Type 0} (is_yes : E → Bool) (will will' : ℕ → Type 0) (old new : Option Talk)
    (result : Result T E) : Type 0 where
  pub receives : ℕ
  pub made : HasReceived receives old new
  pub no_yes : (n : ℕ) → n < receives → will n → ⊥
  pub later : (n : ℕ) → will ((receives + last_question is_yes result) + n) → will' n
