-- Which matches are told, match by match.
use Rattle.std.specs.Prelude.{◌≡◌, ℕ, ◌==◌, nat_lt, Bool, true, false, not, ◌&&◌, ◌||◌, List, [], ◌∷◌, Option, Some, None, IsTrue}
use Rattle.std.specs.Prelude.{option_and_then, slice_get}
use Rattle.std.specs.List.{Contains, list_all}
use Rattle.fetch_base.specs.declared.id.Kind.{Kind}
use Rattle.fetch_specs.specs.declared.found.Match.{Match}
use Rattle.fetch_specs.specs.Specs.{Spec}
use Rattle.fetch_specs.specs.Matches.{id_match, name_match, is_same, leading, sources_leading}

-- what a spec maps of an item, or its id where there is no item
abbrev pub mapping_at : List Spec → List (List ℕ) → Kind → ℕ → Option ℕ → Option Match
mapping_at specs names kind i None = option_and_then (λ spec. id_match kind i spec) (slice_get specs i)
mapping_at specs names kind i (Some j) = option_and_then
    (λ spec. option_and_then (λ name. name_match specs i spec j name) (slice_get names j)) (slice_get specs i)

-- A match is what its spec maps of its item.
abbrev pub IsMapping : List Spec → List (List ℕ) → Kind → Match → Type 0
IsMapping specs names kind m = mapping_at specs names kind m.spec_index m.item_index ≡ Some m

-- A match is a source of its spec that leads to its item.
pub record IsLead (specs : List Spec) (names : List (List ℕ)) (m : Match) : Type 0 where
  pub spec : Spec
  pub item : ℕ
  pub name : List ℕ
  pub source : List ℕ
  pub of_spec : slice_get specs m.spec_index ≡ Some spec
  pub of_item : slice_get names item ≡ Some name
  pub leads : Contains (sources_leading specs spec name) source
  pub is : m ≡ leading m.spec_index item name source

-- ids first, then spec by spec, and item by item
abbrev pub places_before : ℕ → Option ℕ → ℕ → Option ℕ → Bool
places_before i None k None = nat_lt i k
places_before i None k (Some l) = true
places_before i (Some j) k None = false
places_before i (Some j) k (Some l) = nat_lt i k || (i == k && nat_lt j l)

-- whether a match comes before another, by refspec and then by item
abbrev pub comes_before : Match → Match → Bool
comes_before a b = places_before a.spec_index a.item_index b.spec_index b.item_index

-- none comes before one that stands in front of it
abbrev pub are_ordered : List Match → Bool
are_ordered [] = true
are_ordered (m ∷ ms) = list_all (λ x. not (comes_before x m)) ms && are_ordered ms

-- Of the matches that are made, this is one, and no earlier one has its source, nor its destination where that counts.
abbrev pub IsFirst : (Match → Type 0) → Bool → Match → Type 0
IsFirst made pairs m = made m × ((other : Match) → made other → IsTrue (comes_before other m) → is_same pairs other m ≡ false)
