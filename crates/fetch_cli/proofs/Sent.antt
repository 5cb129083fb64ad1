-- Lines that were written are read back as they are.
use Rattle.std.proofs.Common.{◌≡◌, ℕ, zero, suc, ◌+◌, ◌/◌, ◌%◌, ◌<◌, ◌≤◌, max, Bool, true, false, ◌&&◌, ◌==◌, if◌then◌else◌, List, [], ◌∷◌, ◌++◌, length, Option, Some, None, Result, Ok, nat_lt, refl, ap, ◌∙◌, append_assoc, arith, length-append}
use Rattle.std.proofs.lemmas.Nat.{div-add-mod'}
use Rattle.std.proofs.Math.Seq.{take-append_seam, drop-append_seam}
use Rattle.std.proofs.lemmas.Bool.Decides.{nat_tests}
use Rattle.std.specs.List.{list_all}
use Rattle.std.specs.Option.{option_or}
use Rattle.std.specs.Result.{result_ok}
use Rattle.hex.specs.Hex.{IsBytes, encode_with}
use Rattle.hex.proofs.HexLemmas.{decode_sized-encode_lower}
use Rattle.fetch_lines.specs.Lines.{line_counted, announced, number_in, line_at}
use Rattle.fetch_lines.specs.Written.{four_digits, count_of, payload_of, line_text, lines_text, too_long_in, first_too_long}
use Rattle.fetch_lines.specs.declared.lines.line.Line.{Line}
use Rattle.fetch_lines.specs.declared.lines.line.Line.TheVariants.{Payload, Flush, Delim, End}
use Rattle.fetch_lines.specs.declared.lines.section.LineError.{LineError}
use Rattle.fetch_cli.specs.Heard.{heard_within, lines_heard, is_sent, AreSent}
use Rattle.fetch_scene.specs.SceneLines.{unbounded, line_found}

-- ---- the digits

two_bytes : (n : ℕ) → n < 65536 → IsBytes (n / 256 ∷ n % 256 ∷ [])
two_bytes n h zero = omega arith
two_bytes n h (suc zero) = omega arith
two_bytes n h (suc (suc i)) = omega arith

digits_read : (n : ℕ) → n < 65536 → number_in (four_digits n) ≡ Some n
unfolding number_in four_digits
digits_read n h = rw (decode_sized-encode_lower (n / 256 ∷ n % 256 ∷ []) 2 refl (two_bytes n h)) (ap Some (div-add-mod' n 256))

announces : (n : ℕ) (rest : List ℕ) → n < 65536 → line_at unbounded 0 (four_digits n ++ rest) ≡ announced unbounded 0 (Some n) rest
unfolding line_at four_digits encode_with
announces n rest h = ap (λ (o : Option ℕ). announced unbounded 0 o rest) (digits_read n h)

-- ---- one line

payload_counted : (len : ℕ) (payload rest : List ℕ) → len ≡ length payload → line_counted (suc (suc (suc (suc len)))) 0 (payload ++ rest) ≡ Ok (Payload payload, rest)
payload_counted len payload rest is =
    let l = length-append payload rest in
    let long : nat_lt (length (payload ++ rest)) (length payload) ≡ false = grind (arith, nat_tests) in
    rw (is, long, take-append_seam payload rest, drop-append_seam payload rest) refl

counts : (count : ℕ) (bytes : List ℕ) → 4 ≤ count → count ≤ 65520 → announced unbounded 0 (Some count) bytes ≡ line_counted count 0 bytes
unfolding announced
counts count bytes some few =
    let three : (count == 3) ≡ false = grind (arith, nat_tests) in
    let long : nat_lt 65520 count ≡ false = grind (arith, nat_tests) in
    let far : nat_lt unbounded (0 + max count 4) ≡ false = grind (arith, nat_tests) in
    rw (three, long, far) refl

payload_read : (payload rest : List ℕ) → length payload ≤ 65516 → announced unbounded 0 (Some (length payload + 4)) (payload ++ rest) ≡ Ok (Payload payload, rest)
payload_read payload rest few =
    let four : length payload + 4 ≡ suc (suc (suc (suc (length payload)))) = omega arith in
    counts (length payload + 4) (payload ++ rest) (omega arith) (omega (arith, few)) ∙ rw four (payload_counted (length payload) payload rest refl)

marks_read : (rest : List ℕ) → (announced unbounded 0 (Some 0) rest ≡ Ok (Flush, rest)) × (announced unbounded 0 (Some 1) rest ≡ Ok (Delim, rest))
unfolding announced
marks_read rest = (refl, refl)

short_by : (n : ℕ) (b : Bool) → nat_lt 65516 n ≡ b → (if b then Some n else None) ≡ None → n ≤ 65516
short_by n true is h = cc
short_by n false is h = grind (arith, nat_tests)

short : (line : Line) → too_long_in line ≡ None → length (payload_of line) ≤ 65516
short line h = short_by (length (payload_of line)) (nat_lt 65516 (length (payload_of line))) refl h

reads_announced : (line : Line) (rest : List ℕ) → is_sent line ≡ true → length (payload_of line) ≤ 65516 → announced unbounded 0 (Some (count_of line)) (payload_of line ++ rest) ≡ Ok (line, rest)
reads_announced (Payload payload) rest sent few = payload_read payload rest few
reads_announced Flush rest sent few = (marks_read rest).0
reads_announced Delim rest sent few = (marks_read rest).1
reads_announced End rest sent few = cc

small : (line : Line) → length (payload_of line) ≤ 65516 → count_of line < 65536
small (Payload payload) few = omega (arith, few)
small Flush few = omega arith
small Delim few = omega arith
small End few = omega arith

reads_at : (line : Line) (rest : List ℕ) → is_sent line ≡ true → length (payload_of line) ≤ 65516 → line_at unbounded 0 (line_text line ++ rest) ≡ Ok (line, rest)
unfolding line_text
reads_at line rest sent few =
    ap (λ (bytes : List ℕ). line_at unbounded 0 bytes) (append_assoc (four_digits (count_of line)) (payload_of line) rest)
    ∙ announces (count_of line) (payload_of line ++ rest) (small line few) ∙ reads_announced line rest sent few

reads : (line : Line) (rest : List ℕ) → is_sent line ≡ true → too_long_in line ≡ None → line_found 0 (line_text line ++ rest) ≡ Some (line, rest)
unfolding line_found
reads line rest sent fits = ap (λ (r : Result (Line × List ℕ) LineError). result_ok r) (reads_at line rest sent (short line fits))

-- ---- all lines

some_bytes : (line : Line) → 4 ≤ length (line_text line)
unfolding line_text four_digits encode_with
some_bytes line = omega arith

both : (a b : Bool) → (a && b) ≡ true → (a ≡ true) × (b ≡ true)
both true b e = (refl, e)
both false b e = cc

pub neither : (a b : Option ℕ) → option_or a b ≡ None → (a ≡ None) × (b ≡ None)
neither None b e = (refl, e)
neither (Some n) b e = cc

heard_none : (count : ℕ) → heard_within count [] ≡ []
unfolding heard_within line_found line_at
heard_none zero = refl
heard_none (suc count) = refl

heard_one : (count : ℕ) (bytes rest : List ℕ) (line : Line) → line_found 0 bytes ≡ Some (line, rest) → heard_within (suc count) bytes ≡ line ∷ heard_within count rest
unfolding heard_within
heard_one count bytes rest line is = rw is refl

heard : (lines : List Line) (count : ℕ) → list_all is_sent lines ≡ true → first_too_long lines ≡ None → length (lines_text lines) ≤ count → heard_within count (lines_text lines) ≡ lines
heard [] count sent fit enough = heard_none count
heard (line ∷ lines) zero sent fit enough = absurd (omega (arith, some_bytes line, length-append (line_text line) (lines_text lines), enough))
heard (line ∷ lines) (suc count) sent fit enough =
    let s = both (is_sent line) (list_all is_sent lines) sent in
    let f = neither (too_long_in line) (first_too_long lines) fit in
    let few : length (lines_text lines) ≤ count = omega (arith, some_bytes line, length-append (line_text line) (lines_text lines), enough) in
    heard_one count (line_text line ++ lines_text lines) (lines_text lines) line (reads line (lines_text lines) s.0 f.0) ∙ ap (λ (l : List Line). line ∷ l) (heard lines count s.1 f.1 few)

pub heard_as_sent : (lines : List Line) → AreSent lines → lines_heard (lines_text lines) ≡ lines
heard_as_sent lines a = heard lines (length (lines_text lines)) a.sent a.fit (omega arith)
