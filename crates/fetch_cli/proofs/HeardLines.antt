-- Going over the lines that a peer heard.
use Rattle.std.proofs.Common.{◌≡◌, ℕ, zero, suc, ◌-◌, ◌<◌, ◌≤◌, List, [], ◌∷◌, ◌++◌, length, take, drop, Some, None, refl, sym, ap, ◌∙◌, append_assoc, arith, length-drop}
use Rattle.std.proofs.lemmas.List.{append-nil, take_all}
use Rattle.fetch_lines.specs.declared.lines.line.Line.{Line}
use Rattle.fetch_cli.specs.Heard.{heard_within, lines_heard}
use Rattle.fetch_cli.specs.Report.{sent_lines}
use Rattle.fetch_cli.specs.ReportLines.{sent_line}
use Rattle.fetch_scene.specs.SceneLines.{line_found}

-- The lines that are left, after those written, are the lines of the bytes after what was there.
pub record IsLeft (start out rest bytes : List ℕ) : Type 0 where
  pub count : ℕ
  pub enough : length rest ≤ count
  pub lines : out ++ sent_lines (heard_within count rest) ≡ start ++ sent_lines (lines_heard bytes)

pub starts : (out bytes : List ℕ) → IsLeft out out bytes bytes
starts out bytes = record { count = length bytes; enough = omega arith; lines = refl }

one : (n : ℕ) (rest behind : List ℕ) (line : Line) → line_found 0 rest ≡ Some (line, behind) → heard_within (suc n) rest ≡ line ∷ heard_within n behind
unfolding heard_within
one n rest behind line is = rw is refl

none : (n : ℕ) (rest : List ℕ) → line_found 0 rest ≡ None → heard_within n rest ≡ []
unfolding heard_within
none zero rest is = refl
none (suc n) rest is = rw is refl

counted : (n len : ℕ) (start out rest bytes : List ℕ) (line : Line) → 0 < len → len ≤ length rest → line_found 0 rest ≡ Some (line, drop len rest) → length rest ≤ n
    → out ++ sent_lines (heard_within n rest) ≡ start ++ sent_lines (lines_heard bytes) → IsLeft start (out ++ sent_line line) (drop len rest) bytes
counted zero len start out rest bytes line some within found enough lines = absurd (omega (arith, some, within, enough))
counted (suc n) len start out rest bytes line some within found enough lines = record {
  count = n;
  enough = omega (arith, length-drop len rest, some, within, enough);
  lines = append_assoc out (sent_line line) (sent_lines (heard_within n (drop len rest))) ∙ ap (λ (l : List Line). out ++ sent_lines l) (sym (one n rest (drop len rest) line found)) ∙ lines;
}

-- what a slice from a place on is
pub from_place : (len : ℕ) (rest : List ℕ) → take (length rest - len) (drop len rest) ≡ drop len rest
from_place len rest = take_all (length rest - len) (drop len rest) (omega (arith, length-drop len rest))

pub goes : (len : ℕ) (start out now rest behind bytes : List ℕ) (line : Line) → 0 < len → len ≤ length rest → line_found 0 rest ≡ Some (line, drop len rest) → now ≡ out ++ sent_line line → behind ≡ drop len rest
    → IsLeft start out rest bytes → IsLeft start now behind bytes
goes len start out now rest behind bytes line some within found wrote is left =
    rw (wrote, is) (counted left.count len start out rest bytes line some within found left.enough left.lines)

pub ends : (start out rest bytes : List ℕ) → line_found 0 rest ≡ None → IsLeft start out rest bytes → out ≡ start ++ sent_lines (lines_heard bytes)
ends start out rest bytes found left =
    sym (append-nil out) ∙ ap (λ (l : List Line). out ++ sent_lines l) (sym (none left.count rest found)) ∙ left.lines
