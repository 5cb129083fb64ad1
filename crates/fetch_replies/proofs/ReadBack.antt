-- What is read of a reply is what its lines tell.
use Rattle.std.proofs.Common.{◌≡◌, ℕ, zero, suc, ◌+◌, ◌<◌, ◌≤◌, max, Bool, true, false, List, [], ◌∷◌, ◌++◌, length, Option, Some, None, Result, Ok, Err, refl, sym, ap, subst, ◌∙◌, arith}
use Rattle.std.specs.Prelude.{◌||◌, ◌==◌, if◌then◌else◌, nat_lt, sum_by}
use Rattle.std.proofs.lemmas.Bool.Decides.{nat_tests}
use Rattle.std.specs.List.{list_all}
use Rattle.std.proofs.lemmas.List.Sums.{sum_by-cons}
use Rattle.hex.specs.Hex.{is_hex_digit}
use Rattle.fetch_lines.specs.declared.lines.section.LineError.{LineError}
use Rattle.fetch_lines.specs.declared.lines.section.LineError.TheVariants as lines
use Rattle.fetch_replies.specs.declared.replies.reply.ReplyError.{ReplyError}
use Rattle.fetch_replies.specs.declared.replies.reply.ReplyError.TheVariants.{TooLong}
use Rattle.fetch_lines.specs.declared.lines.line.Line.{Line}
use Rattle.fetch_replies.specs.Bounds.{Moves, PassesBound, IsTooLong}
use Rattle.fetch_lines.specs.Lines.{is_no_line, line_counted, announced, number_in, line_at, line_len}
use Rattle.fetch_lines.specs.LineLaws.{IsLine, line_at-is}
use Rattle.fetch_replies.specs.LinesTold.{Writes, Tells}
use Rattle.fetch_lines.specs.SectionLaws.{short_or_broken}
use Rattle.fetch_replies.specs.StepLaws.{line_then, read_by-step}
use Rattle.fetch_replies.specs.Stepping.{Step, goes, ends, breaks, says, after_step, after_line, read_within, read_by}
use Rattle.fetch_lines.specs.WrittenLaws.{is-line_at, digits_four}

-- ---- what was told

-- lines that these bytes write, and which tell this
abbrev Were : {S T : Type 0} → (S → Line → Step S T) → ℕ → ℕ → S → List ℕ → List ℕ → T → Type 0
Were step bound place s rest bytes told = (ls : List Line) × Writes bound place ls rest bytes × Tells step s ls told

first_tells : {S T : Type 0} (step : S → Line → Step S T) (s t : S) (line : Line) (ls : List Line) (told : T) → step s line ≡ goes t → Tells step t ls told → Tells step s (line ∷ ls) told
first_tells step s t line [] told goes_on tells = absurd tells
first_tells step s t line (next ∷ ls) told goes_on tells = (t, goes_on, tells)

before_others : {S T : Type 0} (step : S → Line → Step S T) (bound place : ℕ) (s t : S) (line : Line) (behind rest bytes : List ℕ) (told : T) → IsLine bound place line behind bytes → step s line ≡ goes t
    → Were step bound (place + line_len line) t rest behind told → Were step bound place s rest bytes told
before_others step bound place s t line behind rest bytes told is goes_on (ls, writes, tells) = (line ∷ ls, (behind, is, writes), first_tells step s t line ls told goes_on tells)

ok_told : {T : Type 0} → T → Result (T × List ℕ) ReplyError → T
ok_told other (Ok x) = x.0
ok_told other (Err e) = other

ok_rest : {T : Type 0} → List ℕ → Result (T × List ℕ) ReplyError → List ℕ
ok_rest other (Ok x) = x.1
ok_rest other (Err e) = other

abbrev read_ok : {T : Type 0} → T → List ℕ → Result (T × List ℕ) ReplyError
read_ok x rest = Ok (x, rest)

module _ {S T : Type 0} where
  last_line : (step : S → Line → Step S T) (bound place : ℕ) (s : S) (line : Line) (behind rest bytes : List ℕ) (x told : T) → IsLine bound place line behind bytes → step s line ≡ ends x
      → read_ok x behind ≡ read_ok told rest → Were step bound place s rest bytes told
  unfolding ok_rest ok_told
  last_line step bound place s line behind rest bytes x told is ends_so same =
      (line ∷ [], (behind, is, ap (ok_rest rest) same), ends_so ∙ ap (λ (t : T). ends t) (ap (ok_told told) same))

  step_were : (step : S → Line → Step S T) (n bound place : ℕ) (s : S) (line : Line) (behind rest bytes : List ℕ) (told : T) (found : Step S T) → step s line ≡ found → IsLine bound place line behind bytes
      → ((t : S) → read_within n step bound t (place + line_len line) behind ≡ Ok (told, rest) → Were step bound (place + line_len line) t rest behind told)
      → after_step place behind (λ t. read_within n step bound t (place + line_len line) behind) found ≡ Ok (told, rest) → Were step bound place s rest bytes told
  step_were step n bound place s line behind rest bytes told (goes t) does is again reads = before_others step bound place s t line behind rest bytes told is does (again t reads)
  step_were step n bound place s line behind rest bytes told (ends x) does is again reads = last_line step bound place s line behind rest bytes x told is does reads
  step_were step n bound place s line behind rest bytes told breaks does is again reads = absurd cc
  step_were step n bound place s line behind rest bytes told (says text) does is again reads = absurd cc

  line_were : (step : S → Line → Step S T) (n bound place : ℕ) (s : S) (bytes rest : List ℕ) (told : T) (found : Result (Line × List ℕ) LineError) → line_at bound place bytes ≡ found
      → ((t : S) (p : ℕ) (behind : List ℕ) → read_within n step bound t p behind ≡ Ok (told, rest) → Were step bound p t rest behind told)
      → after_line found (λ line behind. after_step place behind (λ t. read_within n step bound t (place + line_len line) behind) (step s line)) ≡ Ok (told, rest) → Were step bound place s rest bytes told
  line_were step n bound place s bytes rest told (Err e) is again reads = absurd cc
  line_were step n bound place s bytes rest told (Ok x) is again reads =
      step_were step n bound place s x.0 x.1 rest bytes told (step s x.0) refl (line_at-is bound place bytes x.1 x.0 is) (λ t. again t (place + line_len x.0) x.1) reads

  were : (step : S → Line → Step S T) (n bound place : ℕ) (s : S) (bytes rest : List ℕ) (told : T) → read_within n step bound s place bytes ≡ Ok (told, rest) → Were step bound place s rest bytes told
  unfolding read_within
  were step zero bound place s bytes rest told reads = absurd cc
  were step (suc n) bound place s bytes rest told reads = line_were step n bound place s bytes rest told (line_at bound place bytes) refl (λ t p behind. were step n bound p t behind rest told) reads

  pub told_were : (step : S → Line → Step S T) (bound place : ℕ) (s : S) (bytes rest : List ℕ) (told : T) → read_by step bound s place bytes ≡ Ok (told, rest) → (ls : List Line) × Writes bound place ls rest bytes × Tells step s ls told
  told_were step bound place s bytes rest told reads = were step (suc (length bytes)) bound place s bytes rest told reads

-- ---- a line that passes the bound

no_three : (count : ℕ) → is_no_line count ≡ false → (count ≡ 3 → ⊥) × (count ≤ 65520)
no_three count none = by_parts (count == 3) refl none
  where
    by_parts : (b : Bool) → (count == 3) ≡ b → (b || nat_lt 65520 count) ≡ false → (count ≡ 3 → ⊥) × (count ≤ 65520)
    by_parts true three none = absurd cc
    by_parts false other none =
        let short : nat_lt 65520 count ≡ false = none in
        ((λ e. let t : (count == 3) ≡ true = ap (λ (n : ℕ). n == 3) e in let f : true ≡ false = sym t ∙ other in cc), grind (arith, nat_tests))

counted_fits : (count place : ℕ) (bytes : List ℕ) → line_counted count place bytes ≡ Err lines.TooLong → ⊥
counted_fits zero place bytes is = cc
counted_fits (suc zero) place bytes is = cc
counted_fits (suc (suc zero)) place bytes is = cc
counted_fits (suc (suc (suc zero))) place bytes is = cc
counted_fits (suc (suc (suc (suc n)))) place bytes is = by_len (nat_lt (length bytes) n) refl is
  where
    by_len : (b : Bool) → nat_lt (length bytes) n ≡ b → line_counted (suc (suc (suc (suc n)))) place bytes ≡ Err lines.TooLong → ⊥
    by_len true lt is = let e = rw lt at is in cc
    by_len false ge is = let e = rw ge at is in cc

tested_far : (bound place count : ℕ) (no long : Bool) (digits bytes : List ℕ) → is_no_line count ≡ no → nat_lt bound (place + max count 4) ≡ long → length digits ≡ 4 → number_in digits ≡ Some count
    → (if no then Err (lines.Broken place) else (if long then Err lines.TooLong else line_counted count place bytes)) ≡ Err lines.TooLong → PassesBound bound place (digits ++ bytes)
tested_far bound place count true long digits bytes none far four number is = absurd cc
tested_far bound place count false true digits bytes none far four number is =
    let p = no_three count none in
    let over : bound < place + max count 4 = grind (arith, nat_tests) in
    record { digits = digits; behind = bytes; count = count; is = refl; four = four; number = number; proper = p.0; fits = p.1; far = over }
tested_far bound place count false false digits bytes none far four number is = absurd (counted_fits count place bytes is)

announced_far : (bound place : ℕ) (found : Option ℕ) (digits bytes : List ℕ) → length digits ≡ 4 → number_in digits ≡ found → announced bound place found bytes ≡ Err lines.TooLong → PassesBound bound place (digits ++ bytes)
unfolding announced
announced_far bound place None digits bytes four number is = absurd cc
announced_far bound place (Some count) digits bytes four number is = tested_far bound place count (is_no_line count) (nat_lt bound (place + max count 4)) digits bytes refl refl four number is

no_choice : (place : ℕ) (b : Bool) → short_or_broken place b ≡ Err lines.TooLong → ⊥
no_choice place true is = cc
no_choice place false is = cc

far_line : (bound place : ℕ) (bytes : List ℕ) → line_at bound place bytes ≡ Err lines.TooLong → PassesBound bound place bytes
unfolding line_at
far_line bound place (a ∷ b ∷ c ∷ d ∷ bytes) is = announced_far bound place (number_in (a ∷ b ∷ c ∷ d ∷ [])) (a ∷ b ∷ c ∷ d ∷ []) bytes refl refl is
far_line bound place [] is = absurd cc
far_line bound place (a ∷ []) is = absurd (no_choice place (list_all is_hex_digit (a ∷ [])) is)
far_line bound place (a ∷ b ∷ []) is = absurd (no_choice place (list_all is_hex_digit (a ∷ b ∷ [])) is)
far_line bound place (a ∷ b ∷ c ∷ []) is = absurd (no_choice place (list_all is_hex_digit (a ∷ b ∷ c ∷ [])) is)

passes : (bound place count : ℕ) (bytes : List ℕ) → (count ≡ 3 → ⊥) → count ≤ 65520 → bound < place + max count 4 → announced bound place (Some count) bytes ≡ Err lines.TooLong
unfolding announced
passes bound place count bytes proper fits far =
    let three : (count == 3) ≡ false = grind (arith, nat_tests) in
    let long : nat_lt 65520 count ≡ false = grind (arith, nat_tests) in
    let over : nat_lt bound (place + max count 4) ≡ true = grind (arith, nat_tests) in
    rw (three, long, over) refl

passing_line : (bound place : ℕ) (bytes : List ℕ) → PassesBound bound place bytes → line_at bound place bytes ≡ Err lines.TooLong
passing_line bound place bytes p =
    ap (line_at bound place) p.is ∙ digits_four bound place p.digits p.behind p.four ∙ ap (λ (o : Option ℕ). announced bound place o p.behind) p.number
    ∙ passes bound place p.count p.behind p.proper p.fits p.far

-- ---- a reply that is too long

module _ {S T : Type 0} where
  abbrev Passes : (S → Line → Step S T) → ℕ → ℕ → S → List ℕ → Type 0
  Passes step bound place s bytes = (ls : List Line) × (behind : List ℕ) × (t : S) × Writes bound place ls behind bytes × Moves step s ls t × PassesBound bound (place + sum_by line_len ls) behind

  more_lines : (step : S → Line → Step S T) (bound place : ℕ) (s t : S) (line : Line) (behind bytes : List ℕ) → IsLine bound place line behind bytes → step s line ≡ goes t
      → Passes step bound (place + line_len line) t behind → Passes step bound place s bytes
  more_lines step bound place s t line behind bytes is goes_on (ls, rest, u, writes, moves, far) =
      (line ∷ ls, rest, u, (behind, is, writes), (t, goes_on, moves), subst (λ (n : ℕ). PassesBound bound n rest) (omega (arith, sum_by-cons line_len line ls)) far)

  step_far : (step : S → Line → Step S T) (n bound place : ℕ) (s : S) (line : Line) (behind bytes : List ℕ) (found : Step S T) → step s line ≡ found → IsLine bound place line behind bytes
      → ((t : S) → read_within n step bound t (place + line_len line) behind ≡ Err TooLong → Passes step bound (place + line_len line) t behind)
      → after_step place behind (λ t. read_within n step bound t (place + line_len line) behind) found ≡ Err TooLong → Passes step bound place s bytes
  step_far step n bound place s line behind bytes (goes t) does is again reads = more_lines step bound place s t line behind bytes is does (again t reads)
  step_far step n bound place s line behind bytes (ends x) does is again reads = absurd cc
  step_far step n bound place s line behind bytes breaks does is again reads = absurd cc
  step_far step n bound place s line behind bytes (says text) does is again reads = absurd cc

  line_far : (step : S → Line → Step S T) (n bound place : ℕ) (s : S) (bytes : List ℕ) (found : Result (Line × List ℕ) LineError) → line_at bound place bytes ≡ found
      → ((t : S) (p : ℕ) (behind : List ℕ) → read_within n step bound t p behind ≡ Err TooLong → Passes step bound p t behind)
      → after_line found (λ line behind. after_step place behind (λ t. read_within n step bound t (place + line_len line) behind) (step s line)) ≡ Err TooLong → Passes step bound place s bytes
  line_far step n bound place s bytes (Err lines.TooLong) is again reads =
      ([], bytes, s, refl, refl, subst (λ (m : ℕ). PassesBound bound m bytes) (omega arith) (far_line bound place bytes is))
  line_far step n bound place s bytes (Err (lines.Short p)) is again reads = absurd cc
  line_far step n bound place s bytes (Err (lines.Broken p)) is again reads = absurd cc
  line_far step n bound place s bytes (Ok x) is again reads =
      step_far step n bound place s x.0 x.1 bytes (step s x.0) refl (line_at-is bound place bytes x.1 x.0 is) (λ t. again t (place + line_len x.0) x.1) reads

  far : (step : S → Line → Step S T) (n bound place : ℕ) (s : S) (bytes : List ℕ) → read_within n step bound s place bytes ≡ Err TooLong → Passes step bound place s bytes
  unfolding read_within
  far step zero bound place s bytes reads = absurd cc
  far step (suc n) bound place s bytes reads = line_far step n bound place s bytes (line_at bound place bytes) refl (λ t p behind. far step n bound p t behind) reads

  read_far : (step : S → Line → Step S T) (bound place : ℕ) (s : S) (bytes : List ℕ) (ls : List Line) (behind : List ℕ) (t : S) → Writes bound place ls behind bytes → Moves step s ls t
      → PassesBound bound (place + sum_by line_len ls) behind → read_by step bound s place bytes ≡ Err TooLong
  read_far step bound place s bytes [] behind t writes moves over =
      read_by-step step bound place s bytes ∙ ap (λ x. after_line x (line_then step bound s place))
      (ap (line_at bound place) writes ∙ passing_line bound place behind (subst (λ (m : ℕ). PassesBound bound m behind) (omega arith) over))
  read_far step bound place s bytes (line ∷ ls) behind t (next, is, writes) (u, goes_on, moves) over =
      read_by-step step bound place s bytes ∙ ap (λ x. after_line x (line_then step bound s place)) (is-line_at bound place bytes next line is)
      ∙ ap (λ x. after_step place next (λ v. read_by step bound v (place + line_len line) next) x) goes_on
      ∙ read_far step bound (place + line_len line) u next ls behind t writes moves (subst (λ (m : ℕ). PassesBound bound m behind) (omega (arith, sum_by-cons line_len line ls)) over)

  from_start : (step : S → Line → Step S T) (bound : ℕ) (s : S) (bytes : List ℕ) → Passes step bound 0 s bytes → IsTooLong step bound s bytes
  from_start step bound s bytes (ls, behind, t, writes, moves, over) = (ls, behind, t, writes, moves, subst (λ (m : ℕ). PassesBound bound m behind) (omega arith) over)

  pub is_too_long : (step : S → Line → Step S T) (bound : ℕ) (s : S) (bytes : List ℕ) → read_by step bound s 0 bytes ≡ Err TooLong → IsTooLong step bound s bytes
  is_too_long step bound s bytes reads = from_start step bound s bytes (far step (suc (length bytes)) bound 0 s bytes reads)

  pub too_long : (step : S → Line → Step S T) (bound : ℕ) (s : S) (bytes : List ℕ) → IsTooLong step bound s bytes → read_by step bound s 0 bytes ≡ Err TooLong
  too_long step bound s bytes (ls, behind, t, writes, moves, over) = read_far step bound 0 s bytes ls behind t writes moves (subst (λ (m : ℕ). PassesBound bound m behind) (omega arith) over)
