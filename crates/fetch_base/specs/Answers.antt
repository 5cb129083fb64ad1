-- What a call answers, but where an answer is free.
--
-- A clause says
--     AnswersUnless is_memory expected result
-- where `expected` is what the call answers with ample memory, and `is_memory` tells which errors are out of memory: a function of the
-- error's type, by its cases. So an Ok is the expected one, and so is each error but out of memory, which may come in place of any answer.
-- Where other errors are free too, the test holds of them as well, and each has a clause of its own that says when it comes. Where the
-- contract sees the value through a view, say AnswersBy view is_memory expected result. Where the contract tells why it is refused, and not
-- what an Ok is, say RefusesUnless is_memory cause result, the cause being an Option. Where no error is free, since no memory is taken
-- before it is told, say Answers view expected result. Where out of memory is the only error, IfOk result (λ value. value ≡ expected) says
-- the same.
use Rattle.std.specs.Prelude.{◌≡◌, Bool, Option, Some, None, Result, Ok, Err}
use Rattle.std.specs.Bool.{OnFalse}

-- what is answered, seen by the view, is what is expected, unless it is a free error
abbrev pub AnswersBy : {X A E : Type 0} → (X → A) → (E → Bool) → Result A E → Result X E → Type 0
AnswersBy view is_free expected (Ok value) = expected ≡ Ok (view value)
AnswersBy view is_free expected (Err e) = OnFalse (is_free e) (expected ≡ Err e)

-- what is answered, seen by the view, is what is expected
abbrev pub Answers : {X A E : Type 0} → (X → A) → Result A E → Result X E → Type 0
Answers view expected (Ok value) = expected ≡ Ok (view value)
Answers view expected (Err e) = expected ≡ Err e

-- what is answered is what is expected, unless it is a free error
abbrev pub AnswersUnless : {A E : Type 0} → (E → Bool) → Result A E → Result A E → Type 0
AnswersUnless is_free expected result = AnswersBy (λ value. value) is_free expected result

-- it is refused for this cause, and not refused where there is none, unless it is a free error
abbrev pub RefusesUnless : {X E : Type 0} → (E → Bool) → Option E → Result X E → Type 0
RefusesUnless is_free cause (Ok value) = cause ≡ None
RefusesUnless is_free cause (Err e) = OnFalse (is_free e) (cause ≡ Some e)
