-- The words that ask for a mirror.
use Rattle.std.specs.Prelude.{ℕ, List, [], ◌∷◌, codes, Option, Some, None, Result, Ok, Err, if◌then◌else◌}
use Rattle.std.specs.Str.{bytes_eq}
use Rattle.fetch_scene.specs.Numbers.{small_number_in}

-- a count of workers that stands alone; a word more is too many
abbrev pub workers_with : Option ℕ → List (List ℕ) → Result ℕ ℕ
workers_with None others = Err 2
workers_with (Some workers) [] = Ok workers
workers_with (Some workers) (other ∷ others) = Err 3

-- how many workers the words after `mirror` ask for
abbrev pub workers_of : List (List ℕ) → Result ℕ ℕ
workers_of [] = Err 2
workers_of (word ∷ others) = workers_with (small_number_in word) others

-- `mirror` and a count of workers alone, or the number of the first word that is wrong or lacking, from 1 on
unfoldable pub mirror_asked : List (List ℕ) → Result ℕ ℕ
mirror_asked [] = Err 1
mirror_asked (word ∷ others) = if bytes_eq word (codes "mirror") then workers_of others else Err 1
