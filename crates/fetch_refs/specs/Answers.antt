-- Answers beside out of memory.
use Rattle.std.specs.Prelude.{◌≡◌, Bool, true, false}
use Rattle.std.specs.Bool.{OnFalse}
use Rattle.fetch_refs.specs.declared.error.RefError.{RefError}
use Rattle.fetch_refs.specs.declared.error.RefError.TheVariants as errors

-- out of memory
abbrev pub is_memory : RefError → Bool
is_memory errors.NoMemory = true
is_memory _ = false

-- the refusal, or out of memory
abbrev pub IsUnlessMemory : RefError → RefError → Type 0
IsUnlessMemory expected found = OnFalse (is_memory found) (found ≡ expected)
