-- The lines of a text that is written of lines, each at its place.
use Rattle.std.proofs.Common.{◌≡◌, ◌≢◌, ℕ, zero, suc, ◌+◌, ◌≤◌, List, [], ◌∷◌, ◌++◌, length, Some, None, refl, ap, ◌∙◌, arith, length-append}
use Rattle.std.specs.List.{AllByRecursion}
use Rattle.std.specs.Prelude.{Result}
use Rattle.std.specs.Result.{result_ok}
use Rattle.fetch_lines.specs.declared.lines.line.Line.{Line}
use Rattle.fetch_lines.specs.declared.lines.line.Line.TheVariants.{Payload, Flush, Delim, End}
use Rattle.fetch_lines.specs.declared.lines.section.LineError.{LineError}
use Rattle.fetch_lines.specs.Lines.{line_at, line_len}
use Rattle.fetch_lines.specs.LineLaws.{least}
use Rattle.fetch_lines.specs.Written.{line_text, lines_text, too_long_in, four_digits}
use Rattle.fetch_lines.specs.WrittenLaws.{written-line_at}
use Rattle.hex.specs.Hex.{encode_with}
use Rattle.fetch_scene.specs.SceneLines.{Placed, Lines, unbounded, line_found, onto, lines_within, lines_of}

-- lines from a place on
abbrev pub placed : ℕ → List Line → List Placed
placed place [] = []
placed place (line ∷ lines) = record { place = place; line = line } ∷ placed (place + line_len line) lines

-- it is written as it is, and others may follow
abbrev pub IsWritten : Line → Type 0
IsWritten line = (line ≢ End) × (too_long_in line ≡ None)

pub line_length : (line : Line) → length (line_text line) ≡ line_len line
unfolding line_text four_digits encode_with
line_length (Payload payload) = omega arith
line_length Flush = refl
line_length Delim = refl
line_length End = refl

found : (place : ℕ) (line : Line) (rest : List ℕ) → IsWritten line → place + line_len line ≤ unbounded → line_found place (line_text line ++ rest) ≡ Some (line, rest)
unfolding line_found
found place line rest is within = ap (λ (r : Result (Line × List ℕ) LineError). result_ok r) (written-line_at unbounded place line rest is.0 is.1 within)

none : (count place : ℕ) → lines_within count place [] ≡ record { lines = []; last = place }
unfolding lines_within line_found line_at
none zero place = refl
none (suc count) place = refl

one : (count place : ℕ) (bytes rest : List ℕ) (line : Line) → line_found place bytes ≡ Some (line, rest)
    → lines_within (suc count) place bytes ≡ onto (record { place = place; line = line }) (lines_within count (place + line_len line) rest)
unfolding lines_within
one count place bytes rest line is = rw is refl

abbrev ended : ℕ → List Placed → Lines
ended last lines = record { lines = lines; last = last }

read_within : (lines : List Line) (count place last : ℕ) → AllByRecursion IsWritten lines → last ≡ place + length (lines_text lines) → last ≤ unbounded → length (lines_text lines) ≤ count
    → lines_within count place (lines_text lines) ≡ ended last (placed place lines)
read_within [] count place last all is within enough =
    let same : place ≡ last = omega (arith, is) in none count place ∙ ap (λ (n : ℕ). ended n []) same
read_within (line ∷ lines) zero place last all is within enough =
    absurd (omega (arith, least line, line_length line, length-append (line_text line) (lines_text lines), enough))
read_within (line ∷ lines) (suc count) place last all is within enough =
    let len = length-append (line_text line) (lines_text lines) in
    let own = line_length line in
    one count place (line_text line ++ lines_text lines) (lines_text lines) line (found place line (lines_text lines) all.0 (omega (arith, is, within, len, own)))
    ∙ ap (onto (record { place = place; line = line })) (read_within lines count (place + line_len line) last all.1 (omega (arith, is, len, own)) within (omega (arith, least line, len, own, enough)))

-- lines that are written are read, each at its place
pub read_placed : (lines : List Line) → AllByRecursion IsWritten lines → length (lines_text lines) ≤ unbounded
    → lines_of (lines_text lines) ≡ record { lines = placed 0 lines; last = length (lines_text lines) }
read_placed lines all within = read_within lines (length (lines_text lines)) 0 (length (lines_text lines)) all (omega arith) within (omega arith)
