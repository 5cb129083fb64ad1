-- What a test for emptiness says.
use Rattle.std.proofs.Common.{◌≡◌, Bool, true, false, IsTrue, List, [], ◌∷◌, length, refl, arith}
use Rattle.std.specs.Prelude.{◌↔◌, ◌==◌}
use Rattle.std.proofs.lemmas.Bool.{eqb-true}
use Rattle.fetch_conversation.specs.ListStage.{is_nil}

pub nil_by : {X : Type 0} (xs : List X) (empty : Bool) → (IsTrue empty ↔ (length xs ≡ 0)) → empty ≡ is_nil xs
nil_by [] true is = refl
nil_by [] false is = let wrong : false ≡ true = is.1 refl in absurd (cc)
nil_by (x ∷ xs) false is = refl
nil_by (x ∷ xs) true is = let none : length (x ∷ xs) ≡ 0 = is.0 refl in absurd (omega arith)

nil_tested : {X : Type 0} (xs : List X) (empty : Bool) → length xs == 0 ≡ empty → empty ≡ is_nil xs
nil_tested [] true is = refl
nil_tested [] false is = absurd (cc)
nil_tested (x ∷ xs) false is = refl
nil_tested (x ∷ xs) true is = let none : length (x ∷ xs) ≡ 0 = eqb-true (length (x ∷ xs)) 0 is in absurd (omega arith)

pub nil_length : {X : Type 0} (xs : List X) → length xs == 0 ≡ is_nil xs
nil_length xs = nil_tested xs (length xs == 0) refl

pub nil_is : {X : Type 0} (xs : List X) (empty : Bool) → (IsTrue empty ↔ (length xs ≡ 0)) → empty ≡ true → xs ≡ []
nil_is [] empty is test = refl
nil_is (x ∷ xs) empty is test = let none : length (x ∷ xs) ≡ 0 = is.0 test in absurd (omega arith)
