-- What a refspec keeps.
use Rattle.std.proofs.Common.{◌≡◌, ℕ, ◌+◌, Bool, true, false, cond, not, ◌||◌, eqb, ltb, List, [], ◌∷◌, length, take, drop, Option, Some, None, Ok, Err, refl, sym, ap, subst, ◌∙◌, arith}
use Rattle.std.specs.Prelude.{position, is_some}
use Rattle.std.specs.List.{list_any, filter}
use Rattle.std.specs.Str.{bytes_eq}
use Rattle.std.proofs.lemmas.Bool.{eqb-true, lt-ltb}
use Rattle.std.proofs.lemmas.List.Sums.{length-filter}
use Rattle.fetch_specs.specs.declared.operation.Operation.{Operation}
use Rattle.fetch_specs.specs.declared.operation.Operation.TheVariants.{Fetch}
use Rattle.fetch_specs.specs.declared.operation.Mode.{Mode}
use Rattle.fetch_specs.specs.declared.operation.Mode.TheVariants.{Normal, Force, Exclusion}
use Rattle.fetch_specs.specs.declared.error.SpecError.TheVariants as errors
use Rattle.fetch_specs.specs.Names.{first_is}
use Rattle.fetch_specs.specs.Specs.{Spec}
use Rattle.fetch_specs.specs.Matches.{has_star}
use Rattle.fetch_specs.specs.Parses.{id_named, head, is_blank, side_of, source_of, stars, is_unbalanced, source_trouble, destination_trouble, admitted, sides, cut, divided, excluded, parsed, printed, IsSpec}
use Rattle.fetch_specs.specs.Leads.{IsInOrder}

any_counted : (p : ℕ → Bool) (xs : List ℕ) → list_any p xs ≡ ltb 0 (length (filter p xs))
any_counted p [] = refl
any_counted p (x ∷ xs) = step (p x) (any_counted p xs)
  where
    step : (t : Bool) → list_any p xs ≡ ltb 0 (length (filter p xs)) → (t || list_any p xs) ≡ ltb 0 (length (cond t (x ∷ filter p xs) (filter p xs)))
    step true on = sym (lt-ltb 0 (length (x ∷ filter p xs)) (omega arith))
    step false on = on

star_counted : (text : List ℕ) → has_star text ≡ ltb 0 (stars (Some text))
star_counted text = any_counted (λ b. eqb b 42) text ∙ ap (ltb 0) (length-filter (λ b. eqb b 42) text)

admitted_same : (spec found : Spec) (mark at : ℕ) (s d : Option ℕ) → admitted spec mark at s d ≡ Ok found → spec ≡ found
admitted_same spec found mark at (Some s) d is = absurd cc
admitted_same spec found mark at None (Some d) is = absurd cc
admitted_same spec found mark at None None is = cc

negated : (t : Bool) → not t ≡ false → t ≡ true
negated true is = refl
negated false is = absurd cc

-- sides that balance
balance : (source destination : Option (List ℕ)) → is_unbalanced source destination ≡ false → (s d : List ℕ) → source ≡ Some s → destination ≡ Some d → has_star s ≡ has_star d
balance None destination even s d first second = absurd cc
balance (Some a) None even s d first second = absurd cc
balance (Some a) (Some b) even s d first second =
    let same : stars (Some a) ≡ stars (Some b) = eqb-true (stars (Some a)) (stars (Some b)) (negated (eqb (stars (Some a)) (stars (Some b))) even) in
    let left : a ≡ s = cc in
    let right : b ≡ d = cc in
    ap has_star (sym left) ∙ star_counted a ∙ ap (ltb 0) same ∙ sym (star_counted b) ∙ ap has_star right

there : (text : List ℕ) → is_some (source_of Fetch text) ≡ true
there [] = refl
there (b ∷ bs) = step (bytes_eq (b ∷ bs) (64 ∷ []))
  where
    step : (t : Bool) → is_some (cond t (Some head) (Some (b ∷ bs))) ≡ true
    step true = refl
    step false = refl

from_sides : (operation : Operation) (mode : Mode) (mark : ℕ) (s : List ℕ) (at : ℕ) (d : List ℕ) (found : Spec) → sides operation mode mark s at d ≡ Ok found → IsInOrder found
from_sides operation mode mark s at d found = by_stars (ltb 1 (stars spec.source) || ltb 1 (stars spec.destination)) (is_unbalanced spec.source spec.destination) refl
  where
    spec : Spec
    spec = record { operation = operation; mode = mode; source = source_of operation s; destination = side_of d }

    by_stars : (two other : Bool) → is_unbalanced spec.source spec.destination ≡ other
        → cond two (Err errors.PatternUnsupported) (cond other (Err errors.PatternUnbalanced) (admitted spec mark at (source_trouble spec.source) (destination_trouble spec.destination))) ≡ Ok found → IsInOrder found
    by_stars true other even is = absurd cc
    by_stars false true even is = absurd cc
    by_stars false false even is =
        subst IsInOrder (admitted_same spec found mark at (source_trouble spec.source) (destination_trouble spec.destination) is)
        (record {
          fetched = λ to_fetch. subst (λ (o : Operation). is_some (source_of o s) ≡ true) (sym to_fetch) (there s);
          balanced = balance spec.source spec.destination even;
        })

from_cut : (operation : Operation) (mode : Mode) (mark : ℕ) (body : List ℕ) (at : Option ℕ) (found : Spec) → cut operation mode mark body at ≡ Ok found → IsInOrder found
from_cut operation mode mark body None found is = from_sides operation mode mark body (mark + length body) [] found is
from_cut operation mode mark body (Some i) found is = from_sides operation mode mark (take i body) (mark + i + 1) (drop (i + 1) body) found is

from_excluded : (operation : Operation) (body : List ℕ) (found : Spec) → excluded operation body ≡ Ok found → IsInOrder found
from_excluded operation body found = step (list_any (λ b. eqb b 58) body) (is_some (id_named body))
  where
    step : (t u : Bool) → cond t (Err errors.NegativeWithDestination) (cond u (Err errors.NegativeObjectHash) (sides operation Exclusion 1 body (1 + length body) [])) ≡ Ok found → IsInOrder found
    step true u is = absurd cc
    step false true is = absurd cc
    step false false is = from_sides operation Exclusion 1 body (1 + length body) [] found is

from_parsed : (operation : Operation) (text : List ℕ) (found : Spec) → parsed operation text ≡ Ok found → IsInOrder found
unfolding parsed
from_parsed operation text found = step (is_blank operation text) (first_is 94 text) (first_is 43 text)
  where
    step : (blank t u : Bool)
        → cond blank (Err errors.Empty) (cond t (excluded operation (drop 1 text)) (cond u (divided operation Force 1 (drop 1 text)) (divided operation Normal 0 text))) ≡ Ok found → IsInOrder found
    step true t u is = absurd cc
    step false true u is = from_excluded operation (drop 1 text) found is
    step false false true is = from_cut operation Force 1 (drop 1 text) (position (λ b. eqb b 58) (drop 1 text)) found is
    step false false false is = from_cut operation Normal 0 text (position (λ b. eqb b 58) text) found is

pub in_order : (spec : Spec) → IsSpec spec → IsInOrder spec
in_order spec is = from_parsed spec.operation (printed spec) spec is
