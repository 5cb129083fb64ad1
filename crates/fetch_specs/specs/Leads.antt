-- What a refspec keeps, and where it maps a name.
use Rattle.std.specs.Prelude.{◌≡◌, ℕ, List, Option, Some, is_some, IsTrue, option_and_then, option_map}
use Rattle.fetch_specs.specs.declared.operation.Operation.TheVariants.{Fetch}
use Rattle.fetch_specs.specs.Matches.{has_star, name_match, with_middle}
use Rattle.fetch_specs.specs.Specs.{Spec}

-- A fetch spec has a source, and of two sides both or neither have a star.
pub record IsInOrder (spec : Spec) : Type 0 where
  pub fetched : spec.operation ≡ Fetch → IsTrue (is_some spec.source)
  pub balanced : (source destination : List ℕ) → spec.source ≡ Some source → spec.destination ≡ Some destination
      → has_star source ≡ has_star destination

-- the destination that a spec maps a name to
abbrev pub mapped_to : List Spec → Spec → List ℕ → Option (List ℕ)
mapped_to specs spec name = option_and_then (λ m. m.rhs) (name_match specs 0 spec 0 name)

-- A name is the spec's own source with its star replaced.
abbrev pub IsOwnSource : Spec → List ℕ → Type 0
IsOwnSource spec name = (middle : List ℕ) × (option_map (λ source. with_middle source middle) spec.source ≡ Some name)
