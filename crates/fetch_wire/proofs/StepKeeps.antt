-- What holds while a text is read line by line, and of what it tells.
use Rattle.std.proofs.Common.{ℕ, zero, suc, ◌+◌, List, Result, Ok, Err}
use Rattle.std.specs.Prelude.{⊤}
use Rattle.fetch_replies.specs.declared.replies.reply.ReplyError.{ReplyError}
use Rattle.fetch_lines.specs.declared.lines.line.Line.{Line}
use Rattle.fetch_lines.specs.declared.lines.section.LineError.{LineError}
use Rattle.fetch_lines.specs.Lines.{line_at, line_len}
use Rattle.fetch_replies.specs.Stepping.{Step, goes, ends, breaks, says, after_step, after_line, read_within}

-- of what a line does
abbrev pub OfStep : {S T : Type 0} → (S → Type 0) → (T → Type 0) → Step S T → Type 0
OfStep holds tells (goes s) = holds s
OfStep holds tells (ends t) = tells t
OfStep holds tells breaks = ⊤
OfStep holds tells (says text) = ⊤

-- of what is told
abbrev pub OfTold : {T : Type 0} → (T → Type 0) → Result (T × List ℕ) ReplyError → Type 0
OfTold tells (Ok x) = tells x.0
OfTold tells (Err fault) = ⊤

step-keeps : {S T : Type 0} (holds : S → Type 0) (tells : T → Type 0) (place : ℕ) (rest : List ℕ) (f : S → Result (T × List ℕ) ReplyError) (found : Step S T)
    → ((s : S) → holds s → OfTold tells (f s)) → OfStep holds tells found → OfTold tells (after_step place rest f found)
step-keeps holds tells place rest f (goes s) again h = again s h
step-keeps holds tells place rest f (ends t) again h = h
step-keeps holds tells place rest f breaks again h = tt
step-keeps holds tells place rest f (says text) again h = tt

line-keeps : {S T : Type 0} (holds : S → Type 0) (tells : T → Type 0) (step : S → Line → Step S T) (n bound place : ℕ) (s : S) (found : Result (Line × List ℕ) LineError)
    → ((line : Line) → OfStep holds tells (step s line)) → ((t : S) (p : ℕ) (bytes : List ℕ) → holds t → OfTold tells (read_within n step bound t p bytes))
    → OfTold tells (after_line found (λ line rest. after_step place rest (λ t. read_within n step bound t (place + line_len line) rest) (step s line)))
line-keeps holds tells step n bound place s (Err trouble) keeps again = tt
line-keeps holds tells step n bound place s (Ok x) keeps again =
    step-keeps holds tells place x.1 (λ t. read_within n step bound t (place + line_len x.0) x.1) (step s x.0) (λ t h. again t (place + line_len x.0) x.1 h) (keeps x.0)

-- what each line keeps holds to the end
pub within-keeps : {S T : Type 0} (holds : S → Type 0) (tells : T → Type 0) (step : S → Line → Step S T) (n bound place : ℕ) (s : S) (bytes : List ℕ)
    → ((t : S) (line : Line) → holds t → OfStep holds tells (step t line)) → holds s → OfTold tells (read_within n step bound s place bytes)
unfolding read_within
within-keeps holds tells step zero bound place s bytes keeps h = tt
within-keeps holds tells step (suc n) bound place s bytes keeps h =
    line-keeps holds tells step n bound place s (line_at bound place bytes) (λ line. keeps s line h) (λ t p rest k. within-keeps holds tells step n bound p t rest keeps k)
