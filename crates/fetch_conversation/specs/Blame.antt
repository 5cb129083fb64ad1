-- Who is blamed for a refusal: one who is lent, and only where its own count rose.
use Rattle.std.specs.Prelude.{◌≡◌, ℕ, ◌+◌, ◌<◌, Bool, true, false, Option, Result, Ok, Err}
use Rattle.fetch_base.specs.Faults.{Faults, Rose, Counts}
use Rattle.fetch_lines.specs.Talks.{Talk}
use Rattle.fetch_conversation.specs.Receiving.{HasReceived}

-- whether the answer is a refusal of this kind
abbrev pub is_told : {T E : Type 0} → (E → Bool) → Result T E → Bool
is_told says (Ok x) = false
is_told says (Err e) = says e

-- A lent peer: its count of faults never falls, and where it is blamed it rose.
pub record BlamesPeer (old new : Faults) (blamed : Bool) : Type 0 where
  pub counts : Counts old new
  pub cause : blamed ≡ true → Rose old new

-- A lent interrupt: its count of yes answers never falls, and rose just where a yes is told. It was asked once before each
-- receive and said no; and, where a yes is told, once more.
pub record BlamesInterrupt (old new : Faults) (will will' : ℕ → Type 0) (told told' : Option Talk) (more : ℕ) : Type 0 where
  pub counts : Counts old new
  pub cause : more ≡ 1 → Rose old new
  pub quiet : more ≡ 0 → new.count ≡ old.count
  pub receives : ℕ
  pub made : HasReceived receives told told'
  pub no_yes : (n : ℕ) → n < receives → will n → ⊥
  pub later : (n : ℕ) → will ((receives + more) + n) → will' n
