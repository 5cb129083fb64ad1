-- Which numbers a pass holds.
use Rattle.std.specs.Prelude.{ℕ, ◌+◌, ◌<◌, ◌&&◌, nat_le, nat_lt, List, [], ◌∷◌, if◌then◌else◌}
use Rattle.fetch_shared.specs.declared.view.Span.{Span}

-- the numbers from the first to before the end
abbrev pub span : ℕ → ℕ → Span
span first end = record { first = first; end = end }

-- 1 if the number is in the range, else 0
abbrev pub times_in : ℕ → Span → ℕ
times_in n r = if nat_le r.first n && nat_lt n r.end then 1 else 0

-- how many of the ranges have the number
abbrev pub times_held : ℕ → List Span → ℕ
times_held n [] = 0
times_held n (r ∷ rs) = times_in n r + times_held n rs

-- the number is in one of the ranges
abbrev pub Holds : List Span → ℕ → Type 0
Holds held n = 0 < times_held n held
