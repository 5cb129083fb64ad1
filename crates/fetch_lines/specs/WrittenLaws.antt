-- Lines that are written are read back.
use Rattle.std.specs.Prelude.{◌≡◌, ◌≢◌, ℕ, zero, suc, ◌+◌, ◌/◌, ◌%◌, ◌<◌, ◌≤◌, max, Bool, true, false, ◌==◌, if◌then◌else◌, List, [], ◌∷◌}
use Rattle.std.specs.Prelude.{◌++◌, length, Option, Some, None, Ok, nat_lt, refl}
use Rattle.std.proofs.Common.{ap, ◌∙◌, append_assoc, arith, length-append}
use Rattle.std.proofs.lemmas.Nat.{div-add-mod'}
use Rattle.std.proofs.Math.Seq.{take-append_seam, drop-append_seam}
use Rattle.std.proofs.lemmas.Bool.Decides.{nat_tests}
use Rattle.hex.specs.Hex.{IsBytes, encode_with}
use Rattle.hex.proofs.HexLemmas.{decode_sized-encode_lower}
use Rattle.fetch_lines.specs.declared.lines.line.Line.{Line}
use Rattle.fetch_lines.specs.declared.lines.line.Line.TheVariants.{Payload, Flush, Delim, End}
use Rattle.fetch_lines.specs.Lines.{line_counted, announced, number_in, line_at, line_len}
use Rattle.fetch_lines.specs.LineLaws.{IsLine}
use Rattle.fetch_lines.specs.Written.{four_digits, count_of, payload_of, line_text, too_long_in}

-- Four digits begin the line that they announce.
pub digits_four : (bound place : ℕ) (digits bytes : List ℕ) → length digits ≡ 4
    → line_at bound place (digits ++ bytes) ≡ announced bound place (number_in digits) bytes
unfolding line_at
digits_four bound place (a ∷ b ∷ c ∷ d ∷ []) bytes four = refl
digits_four bound place [] bytes four = absurd (omega arith)
digits_four bound place (a ∷ []) bytes four = absurd (omega arith)
digits_four bound place (a ∷ b ∷ []) bytes four = absurd (omega arith)
digits_four bound place (a ∷ b ∷ c ∷ []) bytes four = absurd (omega arith)
digits_four bound place (a ∷ b ∷ c ∷ d ∷ e ∷ more) bytes four = absurd (omega arith)

payload_counted : (place len : ℕ) (payload rest : List ℕ) → len ≡ length payload
    → line_counted (suc (suc (suc (suc len)))) place (payload ++ rest) ≡ Ok (Payload payload, rest)
payload_counted place len payload rest is =
    let l = length-append payload rest in
    let long : nat_lt (length (payload ++ rest)) (length payload) ≡ false = grind (arith, nat_tests) in
    rw (is, long, take-append_seam payload rest, drop-append_seam payload rest) refl

counts : (bound place count : ℕ) (bytes : List ℕ) → (count == 3) ≡ false → count ≤ 65520 → place + max count 4 ≤ bound
    → announced bound place (Some count) bytes ≡ line_counted count place bytes
unfolding announced
counts bound place count bytes three few within =
    let long : nat_lt 65520 count ≡ false = grind (arith, nat_tests) in
    let far : nat_lt bound (place + max count 4) ≡ false = grind (arith, nat_tests) in
    rw (three, long, far) refl

payload_read : (bound place : ℕ) (payload rest : List ℕ) → length payload ≤ 65516 → place + (length payload + 4) ≤ bound
    → announced bound place (Some (length payload + 4)) (payload ++ rest) ≡ Ok (Payload payload, rest)
payload_read bound place payload rest few within =
    let four : length payload + 4 ≡ suc (suc (suc (suc (length payload)))) = omega arith in
    let three : (length payload + 4 == 3) ≡ false = grind (arith, nat_tests) in
    counts bound place (length payload + 4) (payload ++ rest) three (omega (arith, few)) (omega (arith, within))
    ∙ rw four (payload_counted place (length payload) payload rest refl)

announced_read : (bound place : ℕ) (line : Line) (rest : List ℕ) → line ≢ End → length (payload_of line) ≤ 65516
    → place + line_len line ≤ bound → announced bound place (Some (count_of line)) (payload_of line ++ rest) ≡ Ok (line, rest)
announced_read bound place (Payload payload) rest proper few within = payload_read bound place payload rest few within
announced_read bound place Flush rest proper few within = counts bound place 0 rest refl (omega arith) (omega (arith, within))
announced_read bound place Delim rest proper few within = counts bound place 1 rest refl (omega arith) (omega (arith, within))
announced_read bound place End rest proper few within = absurd (proper refl)

-- Four digits of either case that write a line's number, and its payload, are read as that line.
pub is-line_at : (bound place : ℕ) (bytes rest : List ℕ) (line : Line) → IsLine bound place line rest bytes
    → line_at bound place bytes ≡ Ok (line, rest)
is-line_at bound place bytes rest line is =
    ap (line_at bound place) is.is ∙ digits_four bound place is.digits (payload_of line ++ rest) is.four
    ∙ ap (λ (o : Option ℕ). announced bound place o (payload_of line ++ rest)) is.number
    ∙ announced_read bound place line rest is.proper is.fits is.within

two_bytes : (n : ℕ) → n < 65536 → IsBytes (n / 256 ∷ n % 256 ∷ [])
two_bytes n h zero = omega arith
two_bytes n h (suc zero) = omega arith
two_bytes n h (suc (suc i)) = omega arith

digits_read : (n : ℕ) → n < 65536 → number_in (four_digits n) ≡ Some n
unfolding number_in four_digits
digits_read n h = rw (decode_sized-encode_lower (n / 256 ∷ n % 256 ∷ []) 2 refl (two_bytes n h)) (ap Some (div-add-mod' n 256))

digits_len : (n : ℕ) → length (four_digits n) ≡ 4
unfolding four_digits encode_with
digits_len n = refl

small : (line : Line) → length (payload_of line) ≤ 65516 → count_of line < 65536
small (Payload payload) few = omega (arith, few)
small Flush few = omega arith
small Delim few = omega arith
small End few = omega arith

short_by : (n : ℕ) (b : Bool) → nat_lt 65516 n ≡ b → (if b then Some n else None) ≡ None → n ≤ 65516
short_by n true is h = cc
short_by n false is h = grind (arith, nat_tests)

-- A line that fits is a line where it is written.
pub written-is : (bound place : ℕ) (line : Line) (rest : List ℕ) → line ≢ End → too_long_in line ≡ None → place + line_len line ≤ bound
    → IsLine bound place line rest (line_text line ++ rest)
unfolding line_text
written-is bound place line rest proper fits within =
    let few = short_by (length (payload_of line)) (nat_lt 65516 (length (payload_of line))) refl fits in
    record {
      digits = four_digits (count_of line);
      is = append_assoc (four_digits (count_of line)) (payload_of line) rest;
      four = digits_len (count_of line);
      number = digits_read (count_of line) (small line few);
      fits = few;
      within = within;
      proper = proper;
    }

-- A line that is written, and fits, is read back.
pub written-line_at : (bound place : ℕ) (line : Line) (rest : List ℕ) → line ≢ End → too_long_in line ≡ None → place + line_len line ≤ bound
    → line_at bound place (line_text line ++ rest) ≡ Ok (line, rest)
written-line_at bound place line rest proper fits within =
    is-line_at bound place (line_text line ++ rest) rest line (written-is bound place line rest proper fits within)
