-- Answers that stand on others.
use Rattle.std.specs.Prelude.{◌≡◌, Bool, true, List, [], ◌∷◌, Option, Some, None, Result, Ok, Err}
use Rattle.fetch_base.specs.Answers.{AnswersUnless}

-- what follows an Ok; a refusal stays
abbrev pub and_then : {A B E : Type 0} → Result A E → (A → Result B E) → Result B E
and_then (Ok x) f = f x
and_then (Err e) f = Err e

-- an answer in front of others, unless one is refused
abbrev pub in_front : {B E : Type 0} → Result B E → Result (List B) E → Result (List B) E
in_front (Err e) others = Err e
in_front (Ok x) (Err e) = Err e
in_front (Ok x) (Ok xs) = Ok (x ∷ xs)

-- what each value gives, or the refusal of the first that is refused
unfoldable pub all_of : {A B E : Type 0} → (A → Result B E) → List A → Result (List B) E
all_of f [] = Ok []
all_of f (x ∷ xs) = in_front (f x) (all_of f xs)

-- What is answered where there may be no answer: what is expected, or a free error.
abbrev pub AnswersMaybe : {A E : Type 0} → (E → Bool) → Option (Result A E) → Option (Result A E) → Type 0
AnswersMaybe is_free None None = Unit {0}
AnswersMaybe is_free None (Some (Ok value)) = ⊥
AnswersMaybe is_free None (Some (Err e)) = is_free e ≡ true
AnswersMaybe is_free (Some expected) None = ⊥
AnswersMaybe is_free (Some expected) (Some result) = AnswersUnless is_free expected result
