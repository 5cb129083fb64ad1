-- The number that digits write, as a request has it.
use Rattle.std.proofs.Common.{◌≡◌, ◌<◌, ◌^◌, ℕ, Bool, true, false, List, [], ◌∷◌, Option, Some, None, sym, ap, ◌∙◌, arith}
use Rattle.std.specs.Prelude.{◌&&◌, ◌==◌, not, IsTrue, SomeIff, if◌then◌else◌}
use Rattle.std.specs.Str.{all_ascii_digits}
use Rattle.std.specs.Str.Parse.{digits_value}
use Rattle.std.proofs.lemmas.Bool.Decides.{nat_tests}
use Rattle.fetch_base.specs.Scan.{is_decimal}
use Rattle.fetch_asked.specs.RequestTexts.{if_below, is_number, number_in}

within : (r : Option ℕ) (P : Type 0) (bound n : ℕ) → P → SomeIff r (P × (n < bound)) n → r ≡ if_below bound n
within None P bound n holds none = let no : (n < bound) → ⊥ = λ lt. none (holds, lt) in grind (arith, nat_tests, no)
within (Some x) P bound n holds ((p, lt), is) = grind (arith, nat_tests, lt, is)

second : (a b : Bool) → (a && b) ≡ true → b ≡ true
second true b h = h
second false b h = absurd cc

are_digits : (text : List ℕ) → is_number text ≡ true → IsTrue (is_decimal text)
are_digits [] h = absurd cc
are_digits (c ∷ []) h = h
are_digits (c ∷ d ∷ cs) h = second (not (c == 48)) (all_ascii_digits (c ∷ d ∷ cs)) h

pub number_is : (text : List ℕ) (r : Option ℕ) → is_number text ≡ true → SomeIff r (IsTrue (is_decimal text) × (digits_value 10 text < 2 ^ 64)) (digits_value 10 text) → r ≡ number_in text
unfolding number_in
number_is text r h found =
    within r (IsTrue (is_decimal text)) (2 ^ 64) (digits_value 10 text) (are_digits text h) found ∙ sym (ap (λ b. if b then if_below (2 ^ 64) (digits_value 10 text) else None) h)

pub no_number : (text : List ℕ) → is_number text ≡ false → None ≡ number_in text
unfolding number_in
no_number text h = sym (ap (λ b. if b then if_below (2 ^ 64) (digits_value 10 text) else None) h)
