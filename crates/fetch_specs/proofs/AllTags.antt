-- The refspec that brings all tags is known by its parts.
use Rattle.std.proofs.Common.{◌≡◌, ◌↔◌, ℕ, Bool, true, ◌&&◌, List, Option, Some, None, refl, ap, ◌∙◌}
use Rattle.std.proofs.lemmas.Bool.{and_parts}
use Rattle.std.proofs.lemmas.Slice.Eq.{bytes_eq-Decides}
use Rattle.fetch_specs.specs.declared.operation.Operation.{Operation}
use Rattle.fetch_specs.specs.declared.operation.Operation.TheVariants.{Push, Fetch}
use Rattle.fetch_specs.specs.declared.operation.Mode.{Mode}
use Rattle.fetch_specs.specs.declared.operation.Mode.TheVariants.{Normal, Force, Exclusion}
use Rattle.fetch_specs.specs.Specs.{Spec}
use Rattle.fetch_specs.specs.Tagged.{all_tags, tag_spec, is_fetch, is_normal, is_all_tags, is_tag_spec}

fetches : (operation : Operation) → is_fetch operation ≡ true → operation ≡ Fetch
fetches Push is = absurd cc
fetches Fetch is = refl

plain : (mode : Mode) → is_normal mode ≡ true → mode ≡ Normal
plain Normal is = refl
plain Force is = absurd cc
plain Exclusion is = absurd cc

side : (text : Option (List ℕ)) → is_all_tags text ≡ true → text ≡ Some all_tags
side None is = absurd cc
side (Some text) is = ap Some ((bytes_eq-Decides text all_tags).0 is)

itself : is_tag_spec tag_spec ≡ true
itself =
    ap (λ (t : Bool). t && is_all_tags (Some all_tags)) ((bytes_eq-Decides all_tags all_tags).1 refl) ∙ (bytes_eq-Decides all_tags all_tags).1 refl

pub known : (spec : Spec) → (is_tag_spec spec ≡ true) ↔ (spec ≡ tag_spec)
known spec = (there, λ is. ap is_tag_spec is ∙ itself)
  where
    there : is_tag_spec spec ≡ true → spec ≡ tag_spec
    there is =
        let three = and_parts (is_fetch spec.operation && is_normal spec.mode && is_all_tags spec.source) (is_all_tags spec.destination) is in
        let two = and_parts (is_fetch spec.operation && is_normal spec.mode) (is_all_tags spec.source) three.0 in
        let one = and_parts (is_fetch spec.operation) (is_normal spec.mode) two.0 in
        ap (λ (o : Operation). record { operation = o; mode = spec.mode; source = spec.source; destination = spec.destination }) (fetches spec.operation one.0)
        ∙ ap (λ (m : Mode). record { operation = Fetch; mode = m; source = spec.source; destination = spec.destination }) (plain spec.mode one.1)
        ∙ ap (λ (s : Option (List ℕ)). record { operation = Fetch; mode = Normal; source = s; destination = spec.destination }) (side spec.source two.1)
        ∙ ap (λ (s : Option (List ℕ)). record { operation = Fetch; mode = Normal; source = Some all_tags; destination = s }) (side spec.destination three.1)
