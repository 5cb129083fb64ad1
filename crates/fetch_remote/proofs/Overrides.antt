-- Overrides that were tested are refused only where memory runs out.
use Rattle.std.proofs.Common.{◌≡◌, ℕ, Bool, true, false, List, [], ◌∷◌, None, refl}
use Rattle.std.specs.Prelude.{find, not, ◌&&◌}
use Rattle.fetch_remote.specs.declared.repository.open_error.OpenError.{OpenError}
use Rattle.fetch_remote.specs.declared.repository.open_error.OpenError.TheVariants as errors
use Rattle.fetch_remote.specs.Repositories.{IsOpenRefusal}
use Rattle.fetch_remote.specs.RepositoryValues.{is_override, are_overrides}

both : (a b : Bool) → (a && b) ≡ true → (a ≡ true) × (b ≡ true)
both true b h = (refl, h)
both false b h = absurd (cc)

none_found : (texts : List (List ℕ)) → are_overrides texts ≡ true → find (λ text. not (is_override text)) texts ≡ None
none_found [] h = refl
none_found (text ∷ texts) h = let p = both (is_override text) (are_overrides texts) h in rw p.0 (none_found texts p.1)

pub memory_alone : (texts : List (List ℕ)) (e : OpenError) → are_overrides texts ≡ true → IsOpenRefusal texts e → e ≡ errors.NoMemory
memory_alone texts errors.Io read refused = absurd refused
memory_alone texts (errors.Missing path) read refused = absurd refused
memory_alone texts (errors.Config line) read refused = absurd refused
memory_alone texts (errors.Override told) read refused = let none = none_found texts read in absurd (cc)
memory_alone texts errors.NoMemory read refused = refl
