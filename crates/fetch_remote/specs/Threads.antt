-- How the number of threads is told.
use Rattle.std.specs.Prelude.{◌≡◌, ℕ, List, Option, Result, Ok, Err, IsErr}
use Rattle.fetch_conversation.specs.declared.fetch.Error.{Error}
use Rattle.fetch_conversation.specs.declared.fetch.Error.TheVariants as errors

-- The number, or the refusal of the value that can't be read; out of memory is free.
abbrev pub AnswersThreads : Result (Option ℕ) (List ℕ) → Result (Option ℕ) Error → Type 0
AnswersThreads said (Ok count) = said ≡ Ok count
AnswersThreads said (Err (errors.PackThreads value)) = said ≡ Err value
AnswersThreads said (Err errors.NoMemory) = IsErr said
AnswersThreads said (Err e) = ⊥
