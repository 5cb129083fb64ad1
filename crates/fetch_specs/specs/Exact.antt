-- Sources that take one name alone, and where names stand.
use Rattle.std.specs.Prelude.{◌≡◌, ℕ, ◌+◌, if◌then◌else◌, List, [], ◌∷◌, Option, Some, None, IfSome, option_and_then}
use Rattle.std.specs.BTreeMap.{BTreeMap}
use Rattle.std.specs.Cmp.Lexicographic.{slice_cmp}
use Rattle.std.specs.Map.{lookup}
use Rattle.std.specs.Ordering.{nat_cmp, is_eq}
use Rattle.std.specs.Str.{bytes_eq}
use Rattle.fetch_specs.specs.declared.found.Match.{Match}
use Rattle.fetch_specs.specs.Matches.{has_star, is_full}

-- a source that takes one name alone, its own: in full, without a star
abbrev pub exact : List ℕ → Option (List ℕ)
exact source = if has_star source then None else if is_full source then Some source else None

-- the same, where there may be none
abbrev pub exact_source : Option (List ℕ) → Option (List ℕ)
exact_source source = option_and_then exact source

-- where a text comes first among names, counted from a number
abbrev pub place_from : ℕ → List ℕ → List (List ℕ) → Option ℕ
place_from i text [] = None
place_from i text (name ∷ names) = if bytes_eq text name then Some i else place_from (i + 1) text names

-- the place that a map has of a text
abbrev pub place_in : List (List ℕ × ℕ) → List ℕ → Option ℕ
place_in entries text = lookup (λ t. is_eq (slice_cmp nat_cmp text t)) entries

-- a map, where there is one, has the first place of each name
abbrev pub HasPlaces : List (List ℕ) → Option (BTreeMap (List ℕ) ℕ) → Type 0
HasPlaces names places = IfSome places (λ places. (text : List ℕ) → place_in places.entries text ≡ place_from 0 text names)

-- what a name gives at a place
abbrev pub matches_at : (ℕ → List ℕ → List Match) → List ℕ → Option ℕ → List Match
matches_at mapped name None = []
matches_at mapped name (Some j) = mapped j name
