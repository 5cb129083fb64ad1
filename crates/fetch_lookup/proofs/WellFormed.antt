-- The test for UTF-8, and what it says.
use Rattle.std.proofs.Common.{◌≡◌, ℕ, Bool, true, false, List, refl}
use Rattle.std.specs.Str.{IsUtf8, is_utf8}
use Rattle.std.proofs.lemmas.Str.{IsUtf8-from_is_utf8, is_utf8-from_IsUtf8}

pub passes : (text : List ℕ) → IsUtf8 text → is_utf8 text ≡ true
passes text valid = is_utf8-from_IsUtf8 text valid

fails-by : (text : List ℕ) → ¬ (IsUtf8 text) → (b : Bool) → is_utf8 text ≡ b → is_utf8 text ≡ false
fails-by text invalid true is = absurd (invalid (IsUtf8-from_is_utf8 text is))
fails-by text invalid false is = is

pub fails : (text : List ℕ) → ¬ (IsUtf8 text) → is_utf8 text ≡ false
fails text invalid = fails-by text invalid (is_utf8 text) refl
