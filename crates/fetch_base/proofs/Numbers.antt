-- The number that up to 19 digits write, digit by digit.
use Rattle.std.proofs.Common.{◌≡◌, ℕ, ◌+◌, ◌-◌, ◌*◌, ◌^◌, ◌<◌, ◌≤◌, List, length, take, get_or, true, ◌∙◌, ap, arith}
use Rattle.std.specs.Int.{IsInRange}
use Rattle.std.specs.Char.{digit_value}
use Rattle.std.specs.Str.{all_ascii_digits}
use Rattle.std.specs.Str.Parse.{digits_value}
use Rattle.std.proofs.lemmas.Grind.{common_steps}
use Rattle.std.proofs.lemmas.Int.Digits.{digits_value_more}
use Rattle.std.proofs.lemmas.Str.Parse.{IsNumeralModel, numerals_by_value, tells_all_ascii_digits, digit_at, digits_value_short, digits_value-take-le}

own : IsNumeralModel (λ ds. all_ascii_digits ds ≡ true) (digits_value 10)
own = numerals_by_value _ tells_all_ascii_digits

value_of_digit : (c : ℕ) → IsInRange 48 57 c → digit_value c ≡ c - 48
value_of_digit c h = grind (arith, common_steps)

pub record Reads (ds : List ℕ) (i : ℕ) : Type 0 where
  pub digit : 48 ≤ get_or ds i 0
  pub low : get_or ds i 0 ≤ 57
  pub next : digits_value 10 (take (i + 1) ds) ≡ digits_value 10 (take i ds) * 10 + (get_or ds i 0 - 48)
  pub fits : digits_value 10 (take (i + 1) ds) < 10 ^ 19

pub reads : (ds : List ℕ) (i : ℕ) → all_ascii_digits ds ≡ true → length ds ≤ 19 → i < length ds → Reads ds i
reads ds i all short lt =
    let in_range = digit_at ds i (own.to ds all) lt in
    let whole : digits_value 10 ds < 10 ^ 19 = digits_value_short own ds 19 all short in
    record {
      digit = in_range.0;
      low = in_range.1;
      next = digits_value_more 10 ds i lt ∙ ap (λ d. digits_value 10 (take i ds) * 10 + d) (value_of_digit (get_or ds i 0) in_range);
      fits = omega (arith, digits_value-take-le 10 ds (i + 1) (omega arith), whole);
    }
