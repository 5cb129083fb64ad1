-- How far a text goes on as a name, byte by byte.
use Rattle.std.specs.Prelude.{ℕ, ◌+◌, ◌==◌, nat_eq, Bool, not, ◌&&◌, if◌then◌else◌, List, [], ◌∷◌, ◌++◌}
use Rattle.std.specs.List.{ends_with}
use Rattle.fetch_specs.specs.Names.{may_stand, last_is, is_empty, lock}

-- whether a part of a name may end here
abbrev pub may_end : List ℕ → Bool
may_end c = not (ends_with nat_eq c lock) && not (is_empty c)

-- whether a byte may go on a part of a name
abbrev pub may_extend : Bool → List ℕ → ℕ → Bool
may_extend star c b = may_stand star b && not (last_is 46 c && b == 46) && not (last_is 64 c && b == 123) && not (is_empty c && b == 46)

-- whether a byte may follow another
abbrev pub may_follow : Bool → List ℕ → ℕ → Bool
may_follow star c b = if b == 47 then may_end c else may_extend star c b

-- the part after one more byte
abbrev pub onward : List ℕ → ℕ → List ℕ
onward c b = if b == 47 then [] else c ++ b ∷ []

-- how many bytes may follow
abbrev pub scan : Bool → List ℕ → List ℕ → ℕ
scan star c [] = 0
scan star c (b ∷ bs) = if may_follow star c b then scan star (onward c b) bs + 1 else 0

-- the part at the end
abbrev pub last_part : List ℕ → List ℕ → List ℕ
last_part c [] = c
last_part c (b ∷ bs) = last_part (onward c b) bs

-- how many bytes a text has in common with a word's prefix
abbrev pub common : List ℕ → List ℕ → ℕ
common [] text = 0
common (x ∷ word) [] = 0
common (x ∷ word) (b ∷ bs) = if b == x then common word bs + 1 else 0
