-- Why a bundle isn't saved or loaded.
use Rattle.std.specs.Prelude.{ℕ, Bool, true, false, Result, Ok, Err}
use Rattle.fetch_base.specs.Calls.{one_more}
use Rattle.fetch_check.specs.declared.error.BundleError.{BundleError}
use Rattle.fetch_check.specs.declared.error.BundleError.TheVariants as bundles
use Rattle.fetch_check.specs.declared.keep_error.KeepError.{KeepError}
use Rattle.fetch_check.specs.declared.keep_error.KeepError.TheVariants.{Bundle, Failed, NoMemory}

-- a bundle's error among those of its file
abbrev pub kept_error : BundleError → KeepError
kept_error (bundles.Missing link) = Bundle (bundles.Missing link)
kept_error (bundles.Broken broken) = Bundle (bundles.Broken broken)
kept_error (bundles.NameTooLong name) = Bundle (bundles.NameTooLong name)
kept_error (bundles.Malformed place) = Bundle (bundles.Malformed place)
kept_error (bundles.Pack e) = Bundle (bundles.Pack e)
kept_error bundles.NoMemory = NoMemory

-- neither a failed call nor out of memory is a fault of the bundle
abbrev pub is_free : KeepError → Bool
is_free (Bundle e) = false
is_free Failed = true
is_free NoMemory = true

-- the count of faults after a call: one more where it failed
abbrev pub failed_after : {X : Type 0} → ℕ → Result X KeepError → ℕ
failed_after failed (Ok value) = failed
failed_after failed (Err (Bundle e)) = failed
failed_after failed (Err Failed) = one_more failed
failed_after failed (Err NoMemory) = failed
