-- A line that was read stays when more bytes come.
use Rattle.std.specs.Prelude.{◌≡◌, ◌≢◌, ℕ, zero, suc, ◌+◌, ◌-◌, ◌*◌, ◌≤◌, ◌<◌, max, Bool, true, false, if◌then◌else◌, List, [], ◌∷◌, ◌++◌}
use Rattle.std.specs.Prelude.{length, take, slice_index, Option, Some, None, Result, Ok, Err, nat_lt, refl, IsOk}
use Rattle.std.proofs.Common.{ap, ◌∙◌, arith, length-append}
use Rattle.std.specs.List.{list_all}
use Rattle.std.specs.Option.{option_map}
use Rattle.std.specs.Result.{result_ok}
use Rattle.std.proofs.lemmas.List.{take-append-le, drop-append-le}
use Rattle.std.proofs.Math.Seq.{take-append-add}
use Rattle.std.proofs.lemmas.List.Folds.{list_all-append}
use Rattle.std.proofs.lemmas.List.Sums.{list_all-from_AllPass}
use Rattle.std.proofs.lemmas.Bool.Decides.{nat_tests}
use Rattle.hex.specs.declared.error.FromHexError.{FromHexError}
use Rattle.hex.specs.Hex.{decode_sized, is_hex_digit}
use Rattle.hex.proofs.HexLemmas.{IsOk-decode_sized}
use Rattle.fetch_lines.specs.declared.lines.section.LineError.{LineError}
use Rattle.fetch_lines.specs.declared.lines.section.LineError.TheVariants.{Short, Broken, TooLong}
use Rattle.fetch_lines.specs.declared.lines.line.Line.{Line}
use Rattle.fetch_lines.specs.Lines.{◌>>=◌, is_no_line, line_counted, announced, number_in, line_at}

-- more bytes after what a reading found
abbrev pub with_more : {A : Type 0} → Result (A × List ℕ) LineError → List ℕ → Result (A × List ℕ) LineError
with_more found more = found >>= λ x. Ok (x.0, x.1 ++ more)

-- a reading that isn't short
abbrev pub IsSettled : {A : Type 0} → Result A LineError → Type 0
IsSettled found = (place : ℕ) → found ≢ Err (Short place)

chosen-more : (n place : ℕ) (rest more : List ℕ) → (b : Bool) → nat_lt (length rest) n ≡ b
    → IsSettled (line_counted (suc (suc (suc (suc n)))) place rest)
    → line_counted (suc (suc (suc (suc n)))) place (rest ++ more) ≡ with_more (line_counted (suc (suc (suc (suc n)))) place rest) more
chosen-more n place rest more true lt settled = absurd (settled place (rw lt refl))
chosen-more n place rest more false ge settled =
    let fits : n ≤ length rest = grind (arith, nat_tests) in
    let l = length-append rest more in
    let still : nat_lt (length (rest ++ more)) n ≡ false = grind (arith, nat_tests) in
    rw (ge, still, take-append-le n rest more fits, drop-append-le n rest more fits) refl

counted-more : (count place : ℕ) (rest more : List ℕ) → IsSettled (line_counted count place rest)
    → line_counted count place (rest ++ more) ≡ with_more (line_counted count place rest) more
counted-more zero place rest more settled = refl
counted-more (suc zero) place rest more settled = refl
counted-more (suc (suc zero)) place rest more settled = refl
counted-more (suc (suc (suc zero))) place rest more settled = refl
counted-more (suc (suc (suc (suc n)))) place rest more settled = chosen-more n place rest more (nat_lt (length rest) n) refl settled

-- two tests before a reading
tested-more : (no long : Bool) (place : ℕ) (x y : Result (Line × List ℕ) LineError) (more : List ℕ) → (IsSettled x → y ≡ with_more x more)
    → IsSettled (if no then Err (Broken place) else (if long then Err TooLong else x))
    → (if no then Err (Broken place) else (if long then Err TooLong else y))
    ≡ with_more (if no then Err (Broken place) else (if long then Err TooLong else x)) more
tested-more true long place x y more h settled = refl
tested-more false true place x y more h settled = refl
tested-more false false place x y more h settled = h settled

announced-more : (bound place : ℕ) (count : Option ℕ) (rest more : List ℕ) → IsSettled (announced bound place count rest)
    → announced bound place count (rest ++ more) ≡ with_more (announced bound place count rest) more
unfolding announced
announced-more bound place None rest more settled = refl
announced-more bound place (Some count) rest more settled =
    tested-more (is_no_line count) (nat_lt bound (place + max count 4)) place (line_counted count place rest)
    (line_counted count place (rest ++ more)) more (counted-more count place rest more) settled

no_number : (found : Result (List ℕ) FromHexError) → (IsOk found → ⊥)
    → option_map (λ bytes. slice_index bytes 0 * 256 + slice_index bytes 1) (result_ok found) ≡ None
no_number (Ok bytes) h = absurd (h refl)
no_number (Err e) h = refl

-- bytes that aren't all digits write no number
no_number-by_digit : (digits : List ℕ) → list_all is_hex_digit digits ≡ false → number_in digits ≡ None
unfolding number_in
no_number-by_digit digits wrong =
    no_number (decode_sized digits 2) (λ ok. let all = list_all-from_AllPass is_hex_digit digits
    ((IsOk-decode_sized digits 2).0 ok).1 in cc)

-- a prefix that isn't all digits
wrong_front : (bytes more : List ℕ) → list_all is_hex_digit bytes ≡ false → list_all is_hex_digit (bytes ++ more) ≡ false
wrong_front bytes more wrong = list_all-append is_hex_digit bytes more ∙ rw wrong refl

wrong_four : (bytes more : List ℕ) → length bytes < 4 → list_all is_hex_digit bytes ≡ false
    → list_all is_hex_digit (take 4 (bytes ++ more)) ≡ false
wrong_four bytes more lt wrong =
    let k : 4 ≡ length bytes + (4 - length bytes) = omega arith in
    rw (k, take-append-add bytes more (4 - length bytes)) (wrong_front bytes (take (4 - length bytes) more) wrong)

-- bytes too few for a line, or none that begin one
abbrev pub short_or_broken : ℕ → Bool → Result (Line × List ℕ) LineError
short_or_broken place b = if b then Err (Short place) else Err (Broken place)

chosen_broken : (place : ℕ) (b : Bool) → b ≡ false → short_or_broken place b ≡ Err (Broken place)
chosen_broken place true e = cc
chosen_broken place false e = refl

-- the digits of a text that begins with bytes that aren't all digits
wrong_text : (bytes more text : List ℕ) → text ≡ bytes ++ more → list_all is_hex_digit bytes ≡ false → list_all is_hex_digit text ≡ false
wrong_text bytes more text is wrong = ap (list_all is_hex_digit) is ∙ wrong_front bytes more wrong

-- Bytes that aren't all digits, and fewer than four, begin no line.
broken-more : (bound place : ℕ) (bytes more text : List ℕ) → text ≡ bytes ++ more → length bytes < 4 → list_all is_hex_digit bytes ≡ false
    → line_at bound place text ≡ Err (Broken place)
unfolding line_at announced
broken-more bound place bytes more [] is lt wrong = chosen_broken place true (wrong_text bytes more [] is wrong)
broken-more bound place bytes more (a ∷ []) is lt wrong =
    chosen_broken place (list_all is_hex_digit (a ∷ [])) (wrong_text bytes more (a ∷ []) is wrong)
broken-more bound place bytes more (a ∷ b ∷ []) is lt wrong =
    chosen_broken place (list_all is_hex_digit (a ∷ b ∷ [])) (wrong_text bytes more (a ∷ b ∷ []) is wrong)
broken-more bound place bytes more (a ∷ b ∷ c ∷ []) is lt wrong =
    chosen_broken place (list_all is_hex_digit (a ∷ b ∷ c ∷ [])) (wrong_text bytes more (a ∷ b ∷ c ∷ []) is wrong)
broken-more bound place bytes more (a ∷ b ∷ c ∷ d ∷ rest) is lt wrong =
    let e : list_all is_hex_digit (take 4 (a ∷ b ∷ c ∷ d ∷ rest)) ≡ false = ap (λ (l : List ℕ). list_all is_hex_digit (take 4 l)) is
    ∙ wrong_four bytes more lt wrong in
    rw (no_number-by_digit (a ∷ b ∷ c ∷ d ∷ []) e) refl

short_line : (bound place : ℕ) (bytes more : List ℕ) → length bytes < 4 → (b : Bool) → list_all is_hex_digit bytes ≡ b
    → line_at bound place bytes ≡ (if b then Err (Short place) else Err (Broken place)) → IsSettled (line_at bound place bytes)
    → line_at bound place (bytes ++ more) ≡ with_more (line_at bound place bytes) more
short_line bound place bytes more lt true all is settled = absurd (settled place is)
short_line bound place bytes more lt false wrong is settled = rw is (broken-more bound place bytes more (bytes ++ more) refl lt wrong)

-- A line that was read, or refused for good, is the same with more bytes after it.
pub line_at-more : (bound place : ℕ) (bytes more : List ℕ) → IsSettled (line_at bound place bytes)
    → line_at bound place (bytes ++ more) ≡ with_more (line_at bound place bytes) more
unfolding line_at
line_at-more bound place (a ∷ b ∷ c ∷ d ∷ rest) more settled = announced-more bound place (number_in (a ∷ b ∷ c ∷ d ∷ [])) rest more settled
line_at-more bound place [] more settled = absurd (settled place refl)
line_at-more bound place (a ∷ []) more settled = short_line bound place (a ∷ []) more (omega arith) _ refl refl settled
line_at-more bound place (a ∷ b ∷ []) more settled = short_line bound place (a ∷ b ∷ []) more (omega arith) _ refl refl settled
line_at-more bound place (a ∷ b ∷ c ∷ []) more settled = short_line bound place (a ∷ b ∷ c ∷ []) more (omega arith) _ refl refl settled
