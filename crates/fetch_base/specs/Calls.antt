-- Which calls of an object in memory are listed, and how many calls there were.
use Rattle.std.specs.Prelude.{ℕ, ◌+◌, ◌-◌, ◌^◌, min, List, length, nat_lt, Result, Ok, Err}
use Rattle.fetch_base.specs.Faults.{Faults}

-- the numbers of the listed calls, and the number of the next call
pub record CallList : Type 0 where
  pub listed : List ℕ
  pub next : ℕ

-- A count that stands still at its type's end.
abbrev pub one_more : ℕ → ℕ
one_more n = min (n + 1) (2 ^ 64 - 1)

-- that many faults, which are possible where a call is listed
abbrev pub faults_of : CallList → ℕ → Faults
faults_of calls count = record { count = count; possible = nat_lt 0 (length calls.listed) }

-- the count of faults after a call that takes no memory: one more where it failed
abbrev pub risen_after : {X E : Type 0} → ℕ → Result X E → ℕ
risen_after failed (Ok value) = failed
risen_after failed (Err e) = one_more failed
