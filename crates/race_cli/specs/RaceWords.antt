-- The words that ask for a race.
use Rattle.std.specs.Prelude.{ℕ, List, [], ◌∷◌, codes, Result, Ok, Err, if◌then◌else◌}
use Rattle.std.specs.Str.{bytes_eq}

-- A word more is too many.
abbrev pub alone : List (List ℕ) → Result (Unit {0}) ℕ
alone [] = Ok tt
alone (other ∷ others) = Err 2

-- `race` alone, or the number of the first word that is wrong or lacking, from 1 on
unfoldable pub race_asked : List (List ℕ) → Result (Unit {0}) ℕ
race_asked [] = Err 1
race_asked (word ∷ others) = if bytes_eq word (codes "race") then alone others else Err 1
