-- A text is read line by line, and what was read stays when more bytes come.
use Rattle.std.specs.Prelude.{◌≡◌, ◌≢◌, ℕ, zero, suc, ◌+◌, ◌≤◌, List, [], ◌∷◌, ◌++◌, length, Result, Ok, Err, refl}
use Rattle.std.proofs.Common.{sym, ap, ◌∙◌, arith, length-append, append_assoc}
use Rattle.std.proofs.lemmas.List.{append-nil}
use Rattle.std.specs.List.{concat}
use Rattle.fetch_lines.specs.declared.lines.section.LineError.{LineError}
use Rattle.fetch_lines.specs.declared.lines.section.LineError.TheVariants as lines
use Rattle.fetch_replies.specs.declared.replies.reply.ReplyError.{ReplyError}
use Rattle.fetch_replies.specs.declared.replies.reply.ReplyError.TheVariants.{Short, Broken, TooLong, Said}
use Rattle.fetch_lines.specs.declared.lines.line.Line.{Line}
use Rattle.fetch_lines.specs.Lines.{◌>>=◌, line_at, line_len}
use Rattle.fetch_lines.specs.LineLaws.{line_at-len, least}
use Rattle.fetch_lines.specs.SectionLaws as section
use Rattle.fetch_replies.specs.Stepping.{Step, goes, ends, breaks, says, after_step, after_line, read_within, read_by}

-- more bytes after what a reading found
abbrev pub with_more : {A : Type 0} → Result (A × List ℕ) ReplyError → List ℕ → Result (A × List ℕ) ReplyError
with_more found more = found >>= λ x. Ok (x.0, x.1 ++ more)

-- a reading that isn't short
abbrev pub IsSettled : {A : Type 0} → Result A ReplyError → Type 0
IsSettled found = (place : ℕ) → found ≢ Err (Short place)

-- what a line does, and the reading of what follows it
abbrev pub line_then : {S T : Type 0} → (S → Line → Step S T) → ℕ → S → ℕ → Line → List ℕ → Result (T × List ℕ) ReplyError
line_then step bound s place line rest = after_step place rest (λ t. read_by step bound t (place + line_len line) rest) (step s line)

after_step-more : {S T : Type 0} (place : ℕ) (rest more : List ℕ) (f g : S → Result (T × List ℕ) ReplyError) (found : Step S T)
    → ((t : S) → IsSettled (f t) → g t ≡ with_more (f t) more)
    → IsSettled (after_step place rest f found) → after_step place (rest ++ more) g found ≡ with_more (after_step place rest f found) more
after_step-more place rest more f g (goes t) h settled = h t settled
after_step-more place rest more f g (ends x) h settled = refl
after_step-more place rest more f g breaks h settled = refl
after_step-more place rest more f g (says text) h settled = refl

line-more : {S T : Type 0} (step : S → Line → Step S T) (n m bound place : ℕ) (s : S) (more : List ℕ)
    (first longer : Result (Line × List ℕ) LineError) → (section.IsSettled first → longer ≡ section.with_more first more)
    → ((t : S) (p : ℕ) (bytes : List ℕ) → IsSettled (read_within n step bound t p bytes)
    → read_within m step bound t p (bytes ++ more) ≡ with_more (read_within n step bound t p bytes) more)
    → IsSettled (after_line first (λ line rest.
    after_step place rest (λ t. read_within n step bound t (place + line_len line) rest) (step s line)))
    → after_line longer (λ line rest. after_step place rest (λ t. read_within m step bound t (place + line_len line) rest) (step s line))
    ≡ with_more (after_line first (λ line rest.
    after_step place rest (λ t. read_within n step bound t (place + line_len line) rest) (step s line))) more
line-more step n m bound place s more (Ok x) longer h again settled =
    rw (h (λ p e. cc)) (after_step-more place x.1 more (λ t. read_within n step bound t (place + line_len x.0) x.1) (λ t.
    read_within m step bound t (place + line_len x.0) (x.1 ++ more)) (step s x.0) (λ t. again t (place + line_len x.0) x.1) settled)
line-more step n m bound place s more (Err (lines.Short p)) longer h again settled = absurd (settled p refl)
line-more step n m bound place s more (Err (lines.Broken p)) longer h again settled = rw (h (λ q e. cc)) refl
line-more step n m bound place s more (Err lines.TooLong) longer h again settled = rw (h (λ q e. cc)) refl

within-more : {S T : Type 0} (step : S → Line → Step S T) (n m bound place : ℕ) (s : S) (bytes more : List ℕ) → n ≤ m
    → IsSettled (read_within n step bound s place bytes)
    → read_within m step bound s place (bytes ++ more) ≡ with_more (read_within n step bound s place bytes) more
unfolding read_within
within-more step zero m bound place s bytes more le settled = absurd (settled place refl)
within-more step (suc n) zero bound place s bytes more le settled = absurd (omega arith)
within-more step (suc n) (suc m) bound place s bytes more le settled =
    line-more step n m bound place s more (line_at bound place bytes) (line_at bound place (bytes ++ more))
    (section.line_at-more bound place bytes more) (λ t p rest. within-more step n m bound p t rest more (omega arith)) settled

-- What was told, and a text that can't become a reply, stay so when more bytes come.
pub read_by-more : {S T : Type 0} (step : S → Line → Step S T) (bound place : ℕ) (s : S) (bytes more : List ℕ)
    → IsSettled (read_by step bound s place bytes)
    → read_by step bound s place (bytes ++ more) ≡ with_more (read_by step bound s place bytes) more
read_by-more step bound place s bytes more settled =
    within-more step (suc (length bytes)) (suc (length (bytes ++ more))) bound place s bytes more
    (omega (arith, length-append bytes more)) settled

after_step-same : {S T : Type 0} (place : ℕ) (rest : List ℕ) (f g : S → Result (T × List ℕ) ReplyError) (found : Step S T)
    → ((t : S) → f t ≡ g t) → after_step place rest f found ≡ after_step place rest g found
after_step-same place rest f g (goes t) h = h t
after_step-same place rest f g (ends x) h = refl
after_step-same place rest f g breaks h = refl
after_step-same place rest f g (says text) h = refl

line-enough : {S T : Type 0} (step : S → Line → Step S T) (n m bound place : ℕ) (s : S) (bytes : List ℕ)
    (found : Result (Line × List ℕ) LineError) → line_at bound place bytes ≡ found
    → ((t : S) (p : ℕ) (rest : List ℕ) → length rest + 4 ≤ length bytes
    → read_within n step bound t p rest ≡ read_within m step bound t p rest)
    → after_line found (λ line rest. after_step place rest (λ t. read_within n step bound t (place + line_len line) rest) (step s line))
    ≡ after_line found (λ line rest. after_step place rest (λ t. read_within m step bound t (place + line_len line) rest) (step s line))
line-enough step n m bound place s bytes (Err t) is again = refl
line-enough step n m bound place s bytes (Ok x) is again =
    after_step-same place x.1 (λ t. read_within n step bound t (place + line_len x.0) x.1)
    (λ t. read_within m step bound t (place + line_len x.0) x.1) (step s x.0)
    (λ t. again t (place + line_len x.0) x.1 (omega (arith, line_at-len bound place bytes x.1 x.0 is, least x.0)))

-- more lines than bytes are never read
enough : {S T : Type 0} (step : S → Line → Step S T) (n m bound place : ℕ) (s : S) (bytes : List ℕ) → length bytes ≤ n → length bytes ≤ m
    → read_within (suc n) step bound s place bytes ≡ read_within (suc m) step bound s place bytes
unfolding read_within
enough step zero m bound place s bytes le le' =
    line-enough step zero m bound place s bytes (line_at bound place bytes) refl (λ t p rest few. absurd (omega arith))
enough step (suc n) zero bound place s bytes le le' =
    line-enough step (suc n) zero bound place s bytes (line_at bound place bytes) refl (λ t p rest few. absurd (omega arith))
enough step (suc n) (suc m) bound place s bytes le le' =
    line-enough step (suc n) (suc m) bound place s bytes (line_at bound place bytes) refl
    (λ t p rest few. enough step n m bound p t rest (omega arith) (omega arith))

line-step : {S T : Type 0} (step : S → Line → Step S T) (n bound place : ℕ) (s : S) (bytes : List ℕ)
    (found : Result (Line × List ℕ) LineError) → line_at bound place bytes ≡ found → length bytes ≡ n
    → after_line found (λ line rest. after_step place rest (λ t. read_within n step bound t (place + line_len line) rest) (step s line))
    ≡ after_line found (line_then step bound s place)
line-step step n bound place s bytes (Err t) is len = refl
line-step step zero bound place s bytes (Ok x) is len = absurd (omega (arith, line_at-len bound place bytes x.1 x.0 is, least x.0))
line-step step (suc n) bound place s bytes (Ok x) is len =
    after_step-same place x.1 (λ t. read_within (suc n) step bound t (place + line_len x.0) x.1)
    (λ t. read_by step bound t (place + line_len x.0) x.1) (step s x.0)
    (λ t. enough step n (length x.1) bound (place + line_len x.0) t x.1 (omega (arith, line_at-len bound place bytes x.1 x.0 is, least x.0))
    (omega arith))

-- A text is its first line, and what follows it.
pub read_by-step : {S T : Type 0} (step : S → Line → Step S T) (bound place : ℕ) (s : S) (bytes : List ℕ)
    → read_by step bound s place bytes ≡ after_line (line_at bound place bytes) (line_then step bound s place)
unfolding read_within
read_by-step step bound place s bytes = line-step step (length bytes) bound place s bytes (line_at bound place bytes) refl refl

-- what was found of the bytes so far, or of more of them where they are short
abbrev pub unless_short : {A : Type 0} → Result (A × List ℕ) ReplyError → List ℕ → Result (A × List ℕ) ReplyError
    → Result (A × List ℕ) ReplyError
unless_short (Ok x) more others = Ok (x.0, x.1 ++ more)
unless_short (Err (Short place)) more others = others
unless_short (Err (Broken place)) more others = Err (Broken place)
unless_short (Err TooLong) more others = Err TooLong
unless_short (Err (Said text)) more others = Err (Said text)

-- What pieces tell after the bytes so far, where reading is tried as soon as each of them comes.
abbrev pub in_pieces : {A : Type 0} → (List ℕ → Result (A × List ℕ) ReplyError) → List ℕ → List (List ℕ) → Result (A × List ℕ) ReplyError
in_pieces read so_far [] = read so_far
in_pieces read so_far (piece ∷ pieces) = unless_short (read so_far) (piece ++ concat pieces) (in_pieces read (so_far ++ piece) pieces)

unless_short-is : {A : Type 0} (found longer others : Result (A × List ℕ) ReplyError) (more : List ℕ)
    → (IsSettled found → longer ≡ with_more found more) → others ≡ longer → unless_short found more others ≡ longer
unless_short-is (Ok x) longer others more h same = sym (h (λ p e. cc))
unless_short-is (Err (Short place)) longer others more h same = same
unless_short-is (Err (Broken place)) longer others more h same = sym (h (λ p e. cc))
unless_short-is (Err TooLong) longer others more h same = sym (h (λ p e. cc))
unless_short-is (Err (Said text)) longer others more h same = sym (h (λ p e. cc))

-- Pieces tell what the whole text tells.
pub in_pieces-is : {A : Type 0} (read : List ℕ → Result (A × List ℕ) ReplyError)
    → ((bytes more : List ℕ) → IsSettled (read bytes) → read (bytes ++ more) ≡ with_more (read bytes) more)
    → (pieces : List (List ℕ)) (so_far : List ℕ) → in_pieces read so_far pieces ≡ read (so_far ++ concat pieces)
in_pieces-is read stays [] so_far = ap read (sym (append-nil so_far))
in_pieces-is read stays (piece ∷ pieces) so_far =
    unless_short-is (read so_far) (read (so_far ++ (piece ++ concat pieces))) (in_pieces read (so_far ++ piece) pieces) (piece
    ++ concat pieces) (stays so_far (piece ++ concat pieces))
    (in_pieces-is read stays pieces (so_far ++ piece) ∙ ap read (append_assoc so_far piece (concat pieces)))
