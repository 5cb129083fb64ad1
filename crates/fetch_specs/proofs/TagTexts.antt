-- The text of the spec that brings all tags.
use Rattle.std.proofs.Common.{◌≡◌, Result, Ok, Err, refl, sym, ◌∙◌}
use Rattle.std.specs.Prelude.{codes, IsOk, IfOk}
use Rattle.fetch_specs.specs.declared.operation.Operation.TheVariants.{Fetch}
use Rattle.fetch_specs.specs.declared.error.SpecError.{SpecError}
use Rattle.fetch_specs.specs.Specs.{Spec}
use Rattle.fetch_specs.specs.Names.{is_name, lock}
use Rattle.fetch_specs.specs.Parses.{parsed, id_named}
use Rattle.fetch_specs.specs.Tagged.{all_tags, tag_spec}

pub tags_read : parsed Fetch (codes "refs/tags/*:refs/tags/*") ≡ Ok tag_spec
unfolding parsed id_named is_name lock all_tags
tags_read = refl

pub tags_ok : IsOk (parsed Fetch (codes "refs/tags/*:refs/tags/*"))
unfolding parsed id_named is_name lock
tags_ok = refl

pub found_tags : (r : Result Spec SpecError) → IfOk r (λ spec. parsed Fetch (codes "refs/tags/*:refs/tags/*") ≡ Ok spec) → IfOk r (λ found. found ≡ tag_spec)
found_tags (Ok spec) is = let e : Ok spec ≡ Ok tag_spec = sym is ∙ tags_read in cc
found_tags (Err e) is = tt
