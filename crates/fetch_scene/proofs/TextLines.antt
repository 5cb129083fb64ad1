-- Going over the lines of a text.
use Rattle.std.proofs.Common.{◌≡◌, ℕ, zero, suc, ◌+◌, ◌≤◌, List, [], ◌∷◌, ◌++◌, length, drop, Some, None, refl, sym, ap, ◌∙◌, append_assoc, arith, length-drop}
use Rattle.std.proofs.lemmas.List.{append-nil}
use Rattle.fetch_lines.specs.declared.lines.line.Line.{Line}
use Rattle.fetch_lines.specs.declared.lines.line.Line.TheVariants.{Payload, Flush, Delim, End}
use Rattle.fetch_lines.specs.Lines.{line_len}
use Rattle.fetch_scene.specs.SceneLines.{Placed, Lines, line_found, onto, lines_within, lines_of}

-- lines that were read before others
abbrev pub joined : List Placed → Lines → Lines
joined front more = record { lines = front ++ more.lines; last = more.last }

-- what is left of a text at a place: enough lines are counted, and with those before they are the text's
pub record IsLeft (bytes : List ℕ) (front : List Placed) (place : ℕ) : Type 0 where
  pub within : place ≤ length bytes
  pub count : ℕ
  pub enough : length (drop place bytes) ≤ count
  pub rest : joined front (lines_within count place (drop place bytes)) ≡ lines_of bytes

pub starts : (bytes : List ℕ) → IsLeft bytes [] 0
starts bytes = record { within = omega arith; count = length bytes; enough = omega arith; rest = refl }

some_bytes : (line : Line) → 4 ≤ line_len line
some_bytes (Payload payload) = omega arith
some_bytes Flush = omega arith
some_bytes Delim = omega arith
some_bytes End = omega arith

regroup : (front : List Placed) (p : Placed) (more : Lines) → joined (front ++ p ∷ []) more ≡ joined front (onto p more)
regroup front p more = ap (λ (l : List Placed). record { lines = l; last = more.last }) (append_assoc front (p ∷ []) more.lines)

one : (n place : ℕ) (rest behind : List ℕ) (line : Line) → line_found place rest ≡ Some (line, behind) → lines_within (suc n) place rest ≡ onto (record { place = place; line = line }) (lines_within n (place + line_len line) behind)
unfolding lines_within
one n place rest behind line is = rw is refl

none : (n place : ℕ) (rest : List ℕ) → line_found place rest ≡ None → lines_within n place rest ≡ record { lines = []; last = place }
unfolding lines_within
none zero place rest is = refl
none (suc n) place rest is = rw is refl

counted : (n place next : ℕ) (bytes : List ℕ) (front : List Placed) (line : Line) → place ≤ length bytes → next ≤ length bytes → next ≡ place + line_len line → length (drop place bytes) ≤ n
    → line_found place (drop place bytes) ≡ Some (line, drop next bytes) → joined front (lines_within n place (drop place bytes)) ≡ lines_of bytes
    → IsLeft bytes (front ++ (record { place = place; line = line }) ∷ []) next
counted zero place next bytes front line within next_within is enough found rest =
    let some = some_bytes line in absurd (omega (arith, length-drop place bytes))
counted (suc n) place next bytes front line within next_within is enough found rest =
    let some = some_bytes line in
    record {
      within = next_within;
      count = n;
      enough = omega (arith, length-drop place bytes, length-drop next bytes);
      rest = regroup front (record { place = place; line = line }) (lines_within n next (drop next bytes)) ∙ ap (joined front) (ap (λ (q : ℕ). onto (record { place = place; line = line }) (lines_within n q (drop next bytes))) is ∙ sym (one n place (drop place bytes) (drop next bytes) line found)) ∙ rest;
    }

pub goes : (place next : ℕ) (bytes : List ℕ) (front : List Placed) (line : Line) → IsLeft bytes front place → next ≤ length bytes → next ≡ place + line_len line
    → line_found place (drop place bytes) ≡ Some (line, drop next bytes) → IsLeft bytes (front ++ (record { place = place; line = line }) ∷ []) next
goes place next bytes front line left next_within is found = counted left.count place next bytes front line left.within next_within is left.enough found left.rest

pub ends : (place : ℕ) (bytes : List ℕ) (front : List Placed) → IsLeft bytes front place → line_found place (drop place bytes) ≡ None → record { lines = front; last = place } ≡ lines_of bytes
ends place bytes front left found =
    let e = none left.count place (drop place bytes) found in
    ap (λ (l : List Placed). record { lines = l; last = place }) (sym (append-nil front)) ∙ ap (joined front) (sym e) ∙ left.rest
