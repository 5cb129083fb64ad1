-- What a run writes, and what blames its ends, by its status.
use Rattle.std.specs.Prelude.{◌≡◌, ◌≤◌, ◌⊎◌, ℕ, List, Option}
use Rattle.std.specs.Io.KnownBytes.{Appends}
use Rattle.fetch_base.specs.Faults.{Faults, Rose, Counts}
use Rattle.fetch_cli.specs.Io.{IsFront}

-- The statuses of answers: all was done, something was refused, or the words or the scene are malformed.
abbrev pub IsAnswered : ℕ → Type 0
IsAnswered status = (status ≤ 1) ⊎ (status ≡ 4)

-- An end that is lent, and how its failure is told: its count rose in a call that tells one, and in no other.
pub record BlamesEnd (old new : Faults) (is_told : Type 0) : Type 0 where
  pub counts : Counts old new
  pub rose : is_told → Rose old new
  pub quiet : (is_told → ⊥) → new.count ≡ old.count

-- An answer, with this status, was written whole.
pub record Writes (is : ℕ → List ℕ → Type 0) (old new : Option (List ℕ)) (status : ℕ) : Type 0 where
  pub text : List ℕ
  pub answer : is status text
  pub wrote : Appends old new text

-- A prefix of an answer was written.
pub record WritesFront (is : ℕ → List ℕ → Type 0) (old new : Option (List ℕ)) : Type 0 where
  pub status : ℕ
  pub text : List ℕ
  pub answer : is status text
  pub front : List ℕ
  pub is_front : IsFront front text
  pub wrote : Appends old new front

-- What is written, by the status: the whole answer of that status, a front of some answer, or nothing. No other status comes.
pub record WritesBy (is : ℕ → List ℕ → Type 0) (old new : Option (List ℕ)) (nothing : Type 0) (status : ℕ) : Type 0 where
  pub done : status ≡ 0 → Writes is old new 0
  pub refused : status ≡ 1 → Writes is old new 1
  pub unread : status ≡ 2 → nothing
  pub failed : status ≡ 3 → WritesFront is old new
  pub malformed : status ≡ 4 → Writes is old new 4
  pub memory : status ≡ 5 → nothing ⊎ WritesFront is old new
  pub known : status ≤ 5
