-- What lines tell, apart from how they are written.
use Rattle.std.specs.Prelude.{◌≡◌, ℕ, ◌+◌, List, [], ◌∷◌, Ok}
use Rattle.std.proofs.Common.{ap, ◌∙◌}
use Rattle.fetch_lines.specs.declared.lines.line.Line.{Line}
use Rattle.fetch_lines.specs.Lines.{line_len}
use Rattle.fetch_lines.specs.LineLaws.{IsLine}
use Rattle.fetch_lines.specs.WrittenLaws.{is-line_at}
use Rattle.fetch_replies.specs.Stepping.{Step, goes, ends, after_step, after_line, read_by}
use Rattle.fetch_replies.specs.StepLaws.{line_then, read_by-step}

-- Bytes at a place of a reply of bounded length write these lines, each with digits of either case, before this rest.
abbrev pub Writes : ℕ → ℕ → List Line → List ℕ → List ℕ → Type 0
Writes bound place [] rest bytes = bytes ≡ rest
Writes bound place (line ∷ lines) rest bytes = (behind : List ℕ) × IsLine bound place line behind bytes
    × Writes bound (place + line_len line) lines rest behind

-- Lines move a reading on, one after another, and the last of them ends it with what it tells.
abbrev pub Tells : {S T : Type 0} → (S → Line → Step S T) → S → List Line → T → Type 0
Tells step s [] told = ⊥
Tells step s (line ∷ []) told = step s line ≡ ends told
Tells step s (line ∷ next ∷ lines) told = (t : _) × (step s line ≡ goes t) × Tells step t (next ∷ lines) told

-- Lines that tell something are told by the bytes that write them.
pub lines_tell : {S T : Type 0} (step : S → Line → Step S T) (bound place : ℕ) (s : S) (lines : List Line) (rest bytes : List ℕ) (told : T)
    → Writes bound place lines rest bytes → Tells step s lines told → read_by step bound s place bytes ≡ Ok (told, rest)
lines_tell step bound place s [] rest bytes told writes tells = absurd tells
lines_tell step bound place s (line ∷ []) rest bytes told (behind, is, same) tells =
    read_by-step step bound place s bytes ∙ ap (λ x. after_line x (line_then step bound s place))
    (is-line_at bound place bytes behind line is)
    ∙ ap (λ x. after_step place behind (λ t. read_by step bound t (place + line_len line) behind) x) tells
    ∙ ap (λ (r : List ℕ). Ok (told, r)) same
lines_tell step bound place s (line ∷ next ∷ lines) rest bytes told (behind, is, writes) (t, goes_on, tells) =
    read_by-step step bound place s bytes ∙ ap (λ x. after_line x (line_then step bound s place))
    (is-line_at bound place bytes behind line is)
    ∙ ap (λ x. after_step place behind (λ u. read_by step bound u (place + line_len line) behind) x) goes_on
    ∙ lines_tell step bound (place + line_len line) t (next ∷ lines) rest behind told writes tells
