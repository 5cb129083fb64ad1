-- Lines that a reply begins with, and a line whose digits announce more bytes than the reply may have.
use Rattle.std.specs.Prelude.{◌≡◌, ◌≢◌, ℕ, ◌+◌, ◌<◌, ◌≤◌, max, List, [], ◌∷◌, ◌++◌, length, Some, sum_by}
use Rattle.fetch_lines.specs.declared.lines.line.Line.{Line}
use Rattle.fetch_lines.specs.Lines.{number_in, line_len}
use Rattle.fetch_replies.specs.LinesTold.{Writes}
use Rattle.fetch_replies.specs.Stepping.{Step, goes}

-- Lines move a reading on from one state to another, one after another.
abbrev pub Moves : {S T : Type 0} → (S → Line → Step S T) → S → List Line → S → Type 0
Moves step s [] t = s ≡ t
Moves {S} step s (line ∷ lines) t = (u : S) × (step s line ≡ goes u) × Moves step u lines t

-- The next line's four digits write a number that a line may have, and by it the line, which has four bytes at least,
-- ends after the last byte that a reply may have.
pub record PassesBound (bound place : ℕ) (bytes : List ℕ) : Type 0 where
  pub digits : List ℕ
  pub behind : List ℕ
  pub count : ℕ
  pub is : bytes ≡ digits ++ behind
  pub four : length digits ≡ 4
  pub number : number_in digits ≡ Some count
  pub proper : count ≢ 3
  pub fits : count ≤ 65520
  pub far : bound < place + max count 4

-- Lines move a reading on, and the digits of the line after them pass the bound.
abbrev pub IsTooLong : {S T : Type 0} → (S → Line → Step S T) → ℕ → S → List ℕ → Type 0
IsTooLong {S} step bound s bytes =
    (lines : List Line) × (behind : List ℕ) × (t : S) × Writes bound 0 lines behind bytes × Moves step s lines t
    × PassesBound bound (sum_by line_len lines) behind
