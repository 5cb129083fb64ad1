-- A line that was read is four digits of either case that write its number, and its payload.
use Rattle.std.specs.Prelude.{◌≡◌, ◌≢◌, ℕ, zero, suc, ◌+◌, ◌≤◌, ◌<◌, max, Bool, true, false, if◌then◌else◌, List, [], ◌∷◌, ◌++◌, length}
use Rattle.std.specs.Prelude.{take, drop, Option, Some, None, Result, Ok, Err, nat_lt, ◌==◌, ◌||◌, refl}
use Rattle.std.proofs.Common.{sym, ap, ◌∙◌, arith, length-append, take-append-drop}
use Rattle.std.specs.List.{list_all}
use Rattle.std.proofs.lemmas.List.{length-take-le}
use Rattle.std.proofs.lemmas.Bool.Decides.{nat_tests}
use Rattle.hex.specs.Hex.{is_hex_digit}
use Rattle.fetch_lines.specs.declared.lines.section.LineError.{LineError}
use Rattle.fetch_lines.specs.declared.lines.section.LineError.TheVariants.{Short, Broken, TooLong}
use Rattle.fetch_lines.specs.declared.lines.line.Line.{Line}
use Rattle.fetch_lines.specs.declared.lines.line.Line.TheVariants.{Payload, Flush, Delim, End}
use Rattle.fetch_lines.specs.Lines.{is_no_line, line_counted, announced, number_in, line_at, line_len}
use Rattle.fetch_lines.specs.Written.{count_of, payload_of}
use Rattle.fetch_lines.specs.SectionLaws.{short_or_broken}

-- Bytes at a place of a reply of bounded length are this line and a rest.
pub record IsLine (bound place : ℕ) (line : Line) (rest bytes : List ℕ) : Type 0 where
  pub digits : List ℕ
  pub is : bytes ≡ digits ++ (payload_of line ++ rest)
  pub four : length digits ≡ 4
  pub number : number_in digits ≡ Some (count_of line)
  pub fits : length (payload_of line) ≤ 65516
  pub within : place + line_len line ≤ bound
  pub proper : line ≢ End

-- what a counted line is
pub record IsCounted (count : ℕ) (line : Line) (rest bytes : List ℕ) : Type 0 where
  pub is : bytes ≡ payload_of line ++ rest
  pub number : count ≡ count_of line
  pub len : max count 4 ≡ line_len line
  pub small : length (payload_of line) + 4 ≤ max count 4
  pub proper : line ≢ End

or_false : (a b : Bool) → (a || b) ≡ false → b ≡ false
or_false true b e = cc
or_false false b e = e

abbrev from_ok : {A : Type 0} → A → Result A LineError → A
from_ok other (Ok x) = x
from_ok other (Err e) = other

abbrev ok_of : Line → List ℕ → Result (Line × List ℕ) LineError
ok_of line rest = Ok (line, rest)

abbrev short_of : ℕ → Result (Line × List ℕ) LineError
short_of place = Err (Short place)

ok_parts : (a c : Line) (b d : List ℕ) → ok_of a b ≡ ok_of c d → (a ≡ c) × (b ≡ d)
ok_parts a c b d e = let p = ap (from_ok (a, b)) e in (ap (λ (x : Line × List ℕ). x.0) p, ap (λ (x : Line × List ℕ). x.1) p)

payload_counted : (n place : ℕ) (bytes rest : List ℕ) (line : Line) (b : Bool) → nat_lt (length bytes) n ≡ b
    → line_counted (suc (suc (suc (suc n)))) place bytes ≡ Ok (line, rest) → IsCounted (suc (suc (suc (suc n)))) line rest bytes
payload_counted n place bytes rest line true lt is = let e = rw lt at is in cc
payload_counted n place bytes rest line false ge is =
    let fits : n ≤ length bytes = grind (arith, nat_tests) in
    let e = rw ge at is in
    let p = ok_parts (Payload (take n bytes)) line (drop n bytes) rest e in
    let k = length-take-le n bytes fits in
    rw (← p.0, ← p.1) (record {
      is = sym (take-append-drop n bytes);
      number = omega arith;
      len = omega arith;
      small = omega arith;
      proper = λ p. cc;
    })

counted-is : (count place : ℕ) (bytes rest : List ℕ) (line : Line) → line_counted count place bytes ≡ Ok (line, rest)
    → IsCounted count line rest bytes
counted-is zero place bytes rest line is =
    let p = ok_parts Flush line bytes rest is in
    rw (← p.0, ← p.1) (record { is = refl; number = refl; len = refl; small = omega arith; proper = λ p. cc })
counted-is (suc zero) place bytes rest line is =
    let p = ok_parts Delim line bytes rest is in
    rw (← p.0, ← p.1) (record { is = refl; number = refl; len = refl; small = omega arith; proper = λ p. cc })
counted-is (suc (suc zero)) place bytes rest line is = cc
counted-is (suc (suc (suc zero))) place bytes rest line is = cc
counted-is (suc (suc (suc (suc n)))) place bytes rest line is = payload_counted n place bytes rest line (nat_lt (length bytes) n) refl is

no_long_digits : (count : ℕ) → is_no_line count ≡ false → count ≤ 65520
no_long_digits count none = let t = or_false (count == 3) (nat_lt 65520 count) none in grind (arith, nat_tests)

tested-is : (bound place count : ℕ) (no long : Bool) (bytes rest digits : List ℕ) (line : Line) → is_no_line count ≡ no
    → nat_lt bound (place + max count 4) ≡ long → length digits ≡ 4 → number_in digits ≡ Some count
    → (if no then Err (Broken place) else (if long then Err TooLong else line_counted count place bytes)) ≡ Ok (line, rest)
    → IsLine bound place line rest (digits ++ bytes)
tested-is bound place count true long bytes rest digits line none far four number is = cc
tested-is bound place count false true bytes rest digits line none far four number is = cc
tested-is bound place count false false bytes rest digits line none far four number is =
    let c = counted-is count place bytes rest line is in
    let w : place + max count 4 ≤ bound = grind (arith, nat_tests) in
    record {
      digits = digits;
      is = ap (λ (l : List ℕ). digits ++ l) c.is;
      four = four;
      number = number ∙ ap Some c.number;
      fits = omega (arith, c.small, no_long_digits count none);
      within = omega (arith, c.len);
      proper = c.proper;
    }

announced-is : (bound place : ℕ) (found : Option ℕ) (bytes rest digits : List ℕ) (line : Line) → length digits ≡ 4
    → number_in digits ≡ found → announced bound place found bytes ≡ Ok (line, rest) → IsLine bound place line rest (digits ++ bytes)
unfolding announced
announced-is bound place None bytes rest digits line four number is = cc
announced-is bound place (Some count) bytes rest digits line four number is =
    tested-is bound place count (is_no_line count) (nat_lt bound (place + max count 4)) bytes rest digits line refl refl four number is

not_chosen : (place : ℕ) (b : Bool) (x : Line × List ℕ) → short_or_broken place b ≡ Ok x → ⊥
not_chosen place true x is = cc
not_chosen place false x is = cc

-- What is read as a line is one.
pub line_at-is : (bound place : ℕ) (bytes rest : List ℕ) (line : Line) → line_at bound place bytes ≡ Ok (line, rest)
    → IsLine bound place line rest bytes
unfolding line_at
line_at-is bound place (a ∷ b ∷ c ∷ d ∷ bytes) rest line is =
    announced-is bound place (number_in (a ∷ b ∷ c ∷ d ∷ [])) bytes rest (a ∷ b ∷ c ∷ d ∷ []) line refl refl is
line_at-is bound place [] rest line is = cc
line_at-is bound place (a ∷ []) rest line is = absurd (not_chosen place (list_all is_hex_digit (a ∷ [])) (line, rest) is)
line_at-is bound place (a ∷ b ∷ []) rest line is = absurd (not_chosen place (list_all is_hex_digit (a ∷ b ∷ [])) (line, rest) is)
line_at-is bound place (a ∷ b ∷ c ∷ []) rest line is = absurd (not_chosen place (list_all is_hex_digit (a ∷ b ∷ c ∷ [])) (line, rest) is)

line_len-is : (line : Line) → line_len line ≡ length (payload_of line) + 4
line_len-is (Payload payload) = refl
line_len-is Flush = refl
line_len-is Delim = refl
line_len-is End = refl

-- a line has four bytes at least
pub least : (line : Line) → 4 ≤ line_len line
least (Payload payload) = omega arith
least Flush = omega arith
least Delim = omega arith
least End = omega arith

-- a line's bytes
pub line_at-len : (bound place : ℕ) (bytes rest : List ℕ) (line : Line) → line_at bound place bytes ≡ Ok (line, rest)
    → length bytes ≡ line_len line + length rest
line_at-len bound place bytes rest line is =
    let l = line_at-is bound place bytes rest line is in
    omega (
      arith,
      ap length l.is,
      l.four,
      line_len-is line,
      length-append l.digits (payload_of line ++ rest),
      length-append (payload_of line) rest,
    )

abbrev IsShortOf : ℕ → ℕ → ℕ → ℕ → Type 0
IsShortOf bound place at len = (at ≡ place) × (place + len < bound + 4)

abbrev from_err : {A : Type 0} → LineError → Result A LineError → LineError
from_err other (Ok x) = other
from_err other (Err e) = e

abbrev place_in : LineError → ℕ
place_in (Short place) = place
place_in (Broken place) = place
place_in TooLong = 0

short_parts : (a b : ℕ) → short_of a ≡ short_of b → a ≡ b
short_parts a b e = ap place_in (ap (from_err TooLong) e)

short_payload : (n bound place at : ℕ) (bytes : List ℕ) (b : Bool) → nat_lt (length bytes) n ≡ b
    → place + max (suc (suc (suc (suc n)))) 4 ≤ bound
    → line_counted (suc (suc (suc (suc n)))) place bytes ≡ Err (Short at) → IsShortOf bound place at (length bytes + 4)
short_payload n bound place at bytes true lt within is =
    let few : length bytes < n = grind (arith, nat_tests) in
    let e = rw lt at is in
    (sym (short_parts place at e), omega arith)
short_payload n bound place at bytes false ge within is = let e = rw ge at is in cc

counted-short : (count bound place at : ℕ) (bytes : List ℕ) → place + max count 4 ≤ bound → line_counted count place bytes ≡ Err (Short at)
    → IsShortOf bound place at (length bytes + 4)
counted-short zero bound place at bytes within is = cc
counted-short (suc zero) bound place at bytes within is = cc
counted-short (suc (suc zero)) bound place at bytes within is = cc
counted-short (suc (suc (suc zero))) bound place at bytes within is = cc
counted-short (suc (suc (suc (suc n)))) bound place at bytes within is =
    short_payload n bound place at bytes (nat_lt (length bytes) n) refl within is

tested-short : (bound place count at : ℕ) (no long : Bool) (bytes : List ℕ) → nat_lt bound (place + max count 4) ≡ long
    → (if no then Err (Broken place) else (if long then Err TooLong else line_counted count place bytes)) ≡ Err (Short at)
    → IsShortOf bound place at (length bytes + 4)
tested-short bound place count at true long bytes far is = cc
tested-short bound place count at false true bytes far is = cc
tested-short bound place count at false false bytes far is =
    let w : place + max count 4 ≤ bound = grind (arith, nat_tests) in counted-short count bound place at bytes w is

announced-short : (bound place at : ℕ) (found : Option ℕ) (bytes : List ℕ) → announced bound place found bytes ≡ Err (Short at)
    → IsShortOf bound place at (length bytes + 4)
unfolding announced
announced-short bound place at None bytes is = cc
announced-short bound place at (Some count) bytes is =
    tested-short bound place count at (is_no_line count) (nat_lt bound (place + max count 4)) bytes refl is

few_short : (bound place at len : ℕ) (b : Bool) → place ≤ bound → len < 4 → short_or_broken place b ≡ Err (Short at)
    → IsShortOf bound place at len
few_short bound place at len true le few is = (sym (short_parts place at is), omega arith)
few_short bound place at len false le few is = cc

-- A line that isn't whole is short of a bounded length.
pub line_at-short : (bound place at : ℕ) (bytes : List ℕ) → place ≤ bound → line_at bound place bytes ≡ Err (Short at) → (at ≡ place)
    × (place + length bytes < bound + 4)
unfolding line_at
line_at-short bound place at (a ∷ b ∷ c ∷ d ∷ bytes) le is = let s =
    announced-short bound place at (number_in (a ∷ b ∷ c ∷ d ∷ [])) bytes is in (s.0, omega (arith, s.1))
line_at-short bound place at [] le is = few_short bound place at 0 true le (omega arith) is
line_at-short bound place at (a ∷ []) le is = few_short bound place at 1 (list_all is_hex_digit (a ∷ [])) le (omega arith) is
line_at-short bound place at (a ∷ b ∷ []) le is = few_short bound place at 2 (list_all is_hex_digit (a ∷ b ∷ [])) le (omega arith) is
line_at-short bound place at (a ∷ b ∷ c ∷ []) le is =
    few_short bound place at 3 (list_all is_hex_digit (a ∷ b ∷ c ∷ [])) le (omega arith) is
