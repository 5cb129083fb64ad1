-- Paths of files, as lists of their parts.
use Rattle.std.specs.Prelude.{ℕ, ◌-◌, length, take, Bool, true, false, List, [], ◌∷◌, Option, Some, None, if◌then◌else◌, filter, map, ◌==◌}
use Rattle.std.specs.List.{slice_split}
use Rattle.std.specs.Cmp.Lexicographic.{slice_cmp}
use Rattle.std.specs.Ordering.{nat_cmp, eq_by_cmp}
use Rattle.std.specs.Str.{bytes_eq}
use Rattle.std.specs.declared.cmp.Ordering.{Ordering}

-- the parts of a path, the outermost first: the root has none
abbrev pub Path : Type 0
Path = List (List ℕ)

-- whether the path is that of the root
abbrev pub is_root : Path → Bool
is_root [] = true
is_root (part ∷ path) = false

-- paths are ordered by their first parts that differ, and those byte by byte
abbrev pub path_cmp : Path → Path → Ordering
path_cmp = slice_cmp (slice_cmp nat_cmp)

-- whether a piece is a part of a path: it isn't empty
abbrev pub is_part : List ℕ → Bool
is_part [] = false
is_part (c ∷ cs) = true

-- What stands between slashes. Empty parts are dropped and nothing else is changed: `/a//b` and `/a/b/` are `/a/b`.
abbrev pub parts_of : List ℕ → Path
parts_of path = filter is_part (slice_split (λ c. c == 47) path)

-- the parts of what is left of a text, if anything is
abbrev pub parts_in : Option (List ℕ) → Path
parts_in None = []
parts_in (Some text) = parts_of text

-- the paths above a path, the root first
abbrev pub parents_of : Path → List Path
parents_of [] = []
parents_of (part ∷ path) = [] ∷ map (λ p. part ∷ p) (parents_of path)

-- the path right above, without the last part
abbrev pub parent_of : Path → Path
parent_of path = take (length path - 1) path

-- what a path has after this one, where it begins with it
abbrev pub after_path : Path → Path → Option Path
after_path [] path = Some path
after_path (part ∷ above) [] = None
after_path (part ∷ above) (first ∷ path) = if bytes_eq part first then after_path above path else None

-- two paths are one
abbrev pub is_same_path : Path → Path → Bool
is_same_path = eq_by_cmp path_cmp
