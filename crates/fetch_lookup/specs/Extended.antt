-- Refspecs that are added to others.
use Rattle.std.specs.Prelude.{if◌then◌else◌, List, [], ◌∷◌, ◌++◌, Result, Ok, Err}
use Rattle.fetch_specs.specs.Specs.{Spec}
use Rattle.fetch_specs.specs.declared.error.SpecError.{SpecError}
use Rattle.fetch_lookup.specs.Ordered.{is_among}
use Rattle.fetch_lookup.specs.SpecOrder.{spec_cmp}

-- one more at the end, unless it is there
abbrev pub one_more : List Spec → Spec → List Spec
one_more there spec = if is_among spec_cmp there spec then there else there ++ spec ∷ []

-- more at the end, each unless it is there
unfoldable pub extended : List Spec → List Spec → List Spec
extended there [] = there
extended there (spec ∷ specs) = extended (one_more there spec) specs

-- all of them or none
abbrev pub with_all : List Spec → Result (List Spec) SpecError → Result (List Spec) SpecError
with_all there (Ok specs) = Ok (extended there specs)
with_all there (Err e) = Err e
