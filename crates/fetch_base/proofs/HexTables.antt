-- A table of the values of hex digits, and the loop over pairs of them.
use Rattle.std.proofs.Common.{◌≡◌, ℕ, zero, suc, ◌<◌, ◌≤◌, Bool, true, ◌&&◌, nat_eq, get_or, List, Option, Some, None, unwrap_or, Result, Ok, Err, refl, ap, arith, inl, inr}
use Rattle.std.proofs.lemmas.Bool.{and_parts, cases_eq, eqb-true}
use Rattle.std.specs.Result.{result_ok}
use Rattle.hex.specs.Hex.{hex_digit_value}
use Rattle.hex.specs.declared.error.FromHexError.{FromHexError}

-- The table has each value below n, and 255 where there is none.
abbrev pub has_values : List ℕ → ℕ → Bool
has_values table zero = true
has_values table (suc n) = nat_eq (get_or table n 0) (unwrap_or (hex_digit_value n) 255) && has_values table n

pub value_at : (table : List ℕ) (n c : ℕ) → has_values table n ≡ true → c < n → get_or table c 0 ≡ unwrap_or (hex_digit_value c) 255
value_at table zero c h lt = absurd (omega arith)
value_at table (suc n) c h lt =
    let parts = and_parts (nat_eq (get_or table n 0) (unwrap_or (hex_digit_value n) 255)) (has_values table n) h in
    elim (cases_eq c n) [ inl same ↦ rw same (eqb-true _ _ parts.0) | inr other ↦ value_at table n c parts.1 (omega arith) ]

small : (c v : ℕ) → hex_digit_value c ≡ Some v → v < 16
small c v h = grind (arith)

-- what is below 16 is the digit's value
pub known : (c v : ℕ) → v ≡ unwrap_or (hex_digit_value c) 255 → v < 16 → Some v ≡ hex_digit_value c
known c v is lt = by (hex_digit_value c) is
  where
    by : (o : Option ℕ) → v ≡ unwrap_or o 255 → Some v ≡ o
    by (Some w) is = ap Some is
    by None is = absurd (omega arith)

-- and of no digit is anything else
pub unknown : (c v : ℕ) → v ≡ unwrap_or (hex_digit_value c) 255 → 16 ≤ v → None ≡ hex_digit_value c
unknown c v is big = by (hex_digit_value c) refl is
  where
    by : (o : Option ℕ) → hex_digit_value c ≡ o → v ≡ unwrap_or o 255 → None ≡ o
    by (Some w) there is = let k = small c w there in absurd (omega arith)
    by None there is = refl

-- ---- answers and results

pub ok_from : {A : Type 0} (r : Result A FromHexError) (v : A) → Some v ≡ result_ok r → r ≡ Ok v
ok_from (Ok w) v h = cc
ok_from (Err e) v h = absurd cc

pub err_from : {A : Type 0} (r : Result A FromHexError) → None ≡ result_ok r → (e : FromHexError) × (r ≡ Err e)
err_from (Ok w) h = absurd cc
err_from (Err e) h = (e, refl)
