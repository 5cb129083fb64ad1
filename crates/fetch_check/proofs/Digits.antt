-- Lines as they are written: their four digits are of lower case.
use Rattle.std.proofs.Common.{◌≡◌, ℕ, ◌+◌, ◌*◌, ◌/◌, ◌%◌, ◌<◌, ◌≤◌, Bool, true, false, cond, List, [], ◌∷◌, ◌++◌, length, take, drop, append_assoc, Some, None, Result, Ok, Err, true≢false, refl, sym, ap, ap₂, ◌∙◌, arith}
use Rattle.std.specs.Prelude.{slice_index, nat_lt}
use Rattle.std.specs.Char.{is_ascii_uppercase}
use Rattle.std.specs.List.{list_any}
use Rattle.std.specs.Option.{option_map}
use Rattle.std.specs.Result.{result_ok}
use Rattle.std.proofs.lemmas.Bool.Decides.{nat_tests}
use Rattle.std.proofs.lemmas.List.{take_at, length-append}
use Rattle.hex.specs.Hex.{IsBytes, encode_with, encode_lower, decode_sized, decode_pairs}
use Rattle.hex.specs.declared.error.FromHexError.{FromHexError}
use Rattle.hex.proofs.HexLemmas.{decode_of-even, decode_sized-ok, decode_sized-twice, decode_pairs-ok}
use Rattle.fetch_refs.proofs.LowerHex.{written_again, no_capital}
use Rattle.fetch_lines.specs.declared.lines.line.Line.{Line}
use Rattle.fetch_lines.specs.declared.lines.line.Line.TheVariants.{Payload, Flush, Delim, End}
use Rattle.fetch_lines.specs.declared.lines.section.LineError.{LineError}
use Rattle.fetch_lines.specs.Lines.{number_in, line_at, line_len}
use Rattle.fetch_lines.specs.LineLaws.{line_at-is}
use Rattle.fetch_lines.specs.Written.{four_digits, count_of, payload_of, line_text, too_long_in}
use Rattle.fetch_lines.specs.WrittenLaws.{written-line_at}
use Rattle.fetch_check.specs.Scanning.{Begins, BeginsNone}

-- two bytes that write a number
two_bytes : (bytes : List ℕ) (n : ℕ) → length bytes ≡ 2 → IsBytes bytes → slice_index bytes 0 * 256 + slice_index bytes 1 ≡ n → bytes ≡ n / 256 ∷ n % 256 ∷ []
two_bytes [] n len are is = absurd (omega arith)
two_bytes (a ∷ []) n len are is = absurd (omega arith)
two_bytes (a ∷ b ∷ []) n len are is =
    let high : a < 256 = are 0 in
    let low : b < 256 = are 1 in
    let first : a ≡ n / 256 = omega arith in let second : b ≡ n % 256 = omega arith in ap₂ (λ x y. x ∷ y ∷ []) first second
two_bytes (a ∷ b ∷ c ∷ bytes) n len are is = absurd (omega arith)

by_bytes : (digits : List ℕ) (n : ℕ) (r : Result (List ℕ) FromHexError) → decode_sized digits 2 ≡ r → option_map (λ bytes. slice_index bytes 0 * 256 + slice_index bytes 1) (result_ok r) ≡ Some n
    → list_any is_ascii_uppercase digits ≡ false → digits ≡ encode_lower (n / 256 ∷ n % 256 ∷ [])
by_bytes digits n (Err e) id is low = absurd cc
by_bytes digits n (Ok bytes) decoded is low =
    let len = decode_sized-ok digits 2 bytes decoded in
    let even : length digits % 2 ≡ 0 = omega (arith, len) in
    let same : decode_pairs 0 digits ≡ Ok bytes = sym (decode_of-even digits even) ∙ sym (decode_sized-twice digits 2 len) ∙ decoded in
    let pairs = decode_pairs-ok 0 digits bytes same in
    let number : slice_index bytes 0 * 256 + slice_index bytes 1 ≡ n = cc in
    written_again 0 digits bytes same low ∙ ap encode_lower (two_bytes bytes n (omega (arith, len, pairs.1)) pairs.2 number)

pub lower_number : (digits : List ℕ) (n : ℕ) → number_in digits ≡ Some n → list_any is_ascii_uppercase digits ≡ false → digits ≡ four_digits n
unfolding number_in four_digits
lower_number digits n is low = by_bytes digits n (decode_sized digits 2) refl is low

four : (n : ℕ) → length (four_digits n) ≡ 4
unfolding four_digits encode_with
four n = refl

lower_digits_only : (n : ℕ) → list_any is_ascii_uppercase (four_digits n) ≡ false
unfolding four_digits
lower_digits_only n = no_capital (n / 256 ∷ n % 256 ∷ [])

line_parts : (line : Line) → line_text line ≡ four_digits (count_of line) ++ payload_of line
unfolding line_text
line_parts line = refl

len_of : (line : Line) → line_len line ≡ 4 + length (payload_of line)
len_of (Payload payload) = omega arith
len_of Flush = refl
len_of Delim = refl
len_of End = refl

fits_line : (line : Line) → length (payload_of line) ≤ 65516 → too_long_in line ≡ None
fits_line line le = ap (λ b. cond b (Some (length (payload_of line))) None) (let no : nat_lt 65516 (length (payload_of line)) ≡ false = grind (arith, nat_tests) in no)

short_line : (line : Line) (long : Bool) → nat_lt 65516 (length (payload_of line)) ≡ long → cond long (Some (length (payload_of line))) None ≡ None → length (payload_of line) ≤ 65516
short_line line true is none = absurd cc
short_line line false is none = grind (arith, nat_tests)

-- a line has bytes
pub line_some : (line : Line) → 0 < length (line_text line)
line_some line =
    let is = ap (length {A = ℕ}) (line_parts line) in
    let len = length-append (four_digits (count_of line)) (payload_of line) in
    let digits = four (count_of line) in omega arith

-- a line has its digits and its payload
pub line_size : (line : Line) → length (line_text line) ≡ 4 + length (payload_of line)
line_size line =
    let is = ap (length {A = ℕ}) (line_parts line) in
    let len = length-append (four_digits (count_of line)) (payload_of line) in
    let digits = four (count_of line) in omega arith

-- a line that fits is no longer than the longest one
pub within_longest : (line : Line) → too_long_in line ≡ None → 0 + line_len line ≤ 65520
within_longest line fits = let le = short_line line (nat_lt 65516 (length (payload_of line))) refl fits in omega (arith, len_of line, le)

-- what is read as a line, with digits of lower case, is written so
pub begins : (bytes : List ℕ) (line : Line) (count : ℕ) → line_at 65520 0 bytes ≡ Ok (line, drop count bytes) → list_any is_ascii_uppercase (take 4 bytes) ≡ false → count ≡ line_len line → Begins bytes line count
begins bytes line count is low len =
    let l = line_at-is 65520 0 bytes (drop count bytes) line is in
    let front : take 4 bytes ≡ l.digits = ap (take 4) l.is ∙ take_at l.digits (payload_of line ++ drop count bytes) 4 l.four in
    let digits : l.digits ≡ four_digits (count_of line) = lower_number l.digits (count_of line) l.number (ap (list_any is_ascii_uppercase) (sym front) ∙ low) in
    let text : l.digits ++ payload_of line ≡ line_text line = ap (λ (t : List ℕ). t ++ payload_of line) digits ∙ sym (line_parts line) in
    record {
      text = l.is ∙ sym (append_assoc l.digits (payload_of line) (drop count bytes)) ∙ ap (λ (t : List ℕ). t ++ drop count bytes) text;
      len = ap (length {A = ℕ}) (sym text) ∙ length-append l.digits (payload_of line) ∙ ap (λ n. n + length (payload_of line)) l.four ∙ sym (len_of line) ∙ sym len;
      written = record { fits = fits_line line l.fits; proper = l.proper };
    }

-- digits of upper case are no line's
pub capital_none : (bytes : List ℕ) → list_any is_ascii_uppercase (take 4 bytes) ≡ true → BeginsNone bytes
capital_none bytes high line rest written is =
    let front : take 4 bytes ≡ four_digits (count_of line) =
    ap (take 4) (is ∙ ap (λ (t : List ℕ). t ++ rest) (line_parts line) ∙ append_assoc (four_digits (count_of line)) (payload_of line) rest)
    ∙ take_at (four_digits (count_of line)) (payload_of line ++ rest) 4 (four (count_of line)) in
    true≢false (sym high ∙ ap (list_any is_ascii_uppercase) front ∙ lower_digits_only (count_of line))

-- what isn't read as a line isn't written as one
pub refused_none : (bytes : List ℕ) (e : LineError) → line_at 65520 0 bytes ≡ Err e → BeginsNone bytes
refused_none bytes e refused line rest written is =
    let read : line_at 65520 0 (line_text line ++ rest) ≡ Ok (line, rest) = written-line_at 65520 0 line rest written.proper written.fits (within_longest line written.fits) in
    let both : ◌≡◌ {A = Result (Line × List ℕ) LineError} (Err e) (Ok (line, rest)) = sym refused ∙ ap (line_at 65520 0) is ∙ read in absurd cc
