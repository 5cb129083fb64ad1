-- What a refusal of the host is counted as.
use Rattle.std.specs.Prelude.{◌≡◌, ℕ}
use Rattle.fetch_base.specs.Calls.{one_more}
use Rattle.fetch_base.specs.Faults.{Counts, counted}
use Rattle.fetch_files.specs.declared.file_error.FileError.{FileError}
use Rattle.fetch_files.specs.declared.file_error.FileError.TheVariants as errors

-- a failed call is one fault more, and out of memory is none
abbrev pub IsCounted : ℕ → ℕ → FileError → Type 0
IsCounted before now errors.Failed = (now ≡ one_more before) × Counts (counted before) (counted now)
IsCounted before now errors.NoMemory = now ≡ before
