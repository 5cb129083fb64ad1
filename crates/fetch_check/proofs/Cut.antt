-- A text whose first bytes are put into lines, from the last one on.
use Rattle.std.proofs.Common.{◌≡◌, ℕ, ◌+◌, ◌*◌, ◌-◌, ◌≤◌, ◌<◌, inl, inr, List, [], ◌++◌, length, take, drop, min, append_assoc, refl, sym, ap, ap₂, ◌∙◌, arith}
use Rattle.std.proofs.lemmas.Bool.{cases_lt}
use Rattle.std.proofs.lemmas.List.{length-append, length-drop, length-take, length-take-le, take-take, take-append-le, drop_all, drop_at, drop-drop}
use Rattle.std.proofs.lemmas.Slice.{between_is}
use Rattle.fetch_lines.specs.Written.{line_text, lines_text}
use Rattle.fetch_lines.specs.declared.lines.line.Line.TheVariants.{Payload}
use Rattle.fetch_check.specs.Bundles.{piece_lines}
use Rattle.fetch_check.proofs.Digits.{line_size}
use Rattle.fetch_check.proofs.Lines.{piece_more, piece_none}

-- The first pieces stand as in the pack, and the lines of the others stand at the end.
pub record IsCut (pack text : List ℕ) (len count left : ℕ) : Type 0 where
  pub whole : length text ≡ len + 4 * count
  pub few : left ≤ count
  pub front : take (min (65000 * left) len) text ≡ take (min (65000 * left) len) pack
  pub back : drop (65004 * left) text ≡ lines_text (piece_lines (drop (65000 * left) pack))

pub none_cut : (text : List ℕ) (len count : ℕ) → length text ≡ len + 4 * count → len ≤ 65000 * count → IsCut (take len text) text len count count
none_cut text len count whole all = record {
  whole = whole;
  few = omega arith;
  front = sym (take-take (min (65000 * count) len) len text (omega arith));
  back =
      drop_all (65004 * count) text (omega arith)
      ∙ sym (piece_none (drop (65000 * count) (take len text)) (ap (length {A = ℕ}) (drop_all (65000 * count) (take len text) (let n = length-take-le len text (omega arith) in omega arith))));
}

pub all_cut : (pack text : List ℕ) (len count left : ℕ) → IsCut pack text len count left → left ≡ 0 → text ≡ lines_text (piece_lines pack)
all_cut pack text len count left is none =
    sym (ap (λ (n : ℕ). drop (65004 * n) text) none) ∙ is.back ∙ ap (λ (n : ℕ). lines_text (piece_lines (drop (65000 * n) pack))) none

-- ---- one piece more

abbrev end_of : ℕ → ℕ → ℕ
end_of len j = 65000 * j + min (len - 65000 * j) 65000

pub the_piece : (pack text : List ℕ) (len count left j : ℕ) → IsCut pack text len count left → left ≡ j + 1 → length pack ≡ len → 65000 * j < len
    → take (end_of len j - 65000 * j) (drop (65000 * j) text) ≡ take (min (length (drop (65000 * j) pack)) 65000) (drop (65000 * j) pack)
the_piece pack text len count left j is next n lt =
    let from = 65000 * j in
    let to = end_of len j in
    let size : length (drop from pack) ≡ len - from = length-drop from pack ∙ ap (λ (k : ℕ). k - from) n in
    let same : take to text ≡ take to pack =
    ap (λ (k : ℕ). take k text) (let e : to ≡ min (65000 * left) len = omega arith in e) ∙ is.front ∙ ap (λ (k : ℕ). take k pack) (let e : min (65000 * left) len ≡ to = omega arith in e) in
    between_is text from to ∙ ap (drop from) same ∙ sym (between_is pack from to)
    ∙ ap (λ (k : ℕ). take k (drop from pack)) (let e : to - from ≡ min (length (drop from pack)) 65000 = omega arith in e)

-- the line of a piece goes to its place
pub piece_cut : (pack text line now : List ℕ) (len count left j : ℕ) → IsCut pack text len count left → left ≡ j + 1 → length pack ≡ len → 65000 * j < len
    → line ≡ line_text (Payload (take (end_of len j - 65000 * j) (drop (65000 * j) text)))
    → now ≡ take (65004 * j) text ++ line ++ drop (65004 * j + length line) text → 65000 * count < len + 65000 → IsCut pack now len count j
piece_cut pack text line now len count left j is next n lt made put least =
    let from = 65000 * j in
    let at = 65004 * j in
    let rest = drop from pack in
    let piece = take (min (length rest) 65000) rest in
    let behind = drop (min (length rest) 65000) rest in
    let whole : length text ≡ len + 4 * count = is.whole in
    let size : length rest ≡ len - from = length-drop from pack ∙ ap (λ (k : ℕ). k - from) n in
    let few : length piece ≡ min (len - from) 65000 = length-take-le (min (length rest) 65000) rest (omega arith) ∙ ap (λ (k : ℕ). min k 65000) size in
    let line_is : line ≡ line_text (Payload piece) = made ∙ ap (λ (p : List ℕ). line_text (Payload p)) (the_piece pack text len count left j is next n lt) in
    let line_len : length line ≡ 4 + length piece = ap (length {A = ℕ}) line_is ∙ line_size (Payload piece) in
    let j_few : j < count = (let f = is.few in omega arith) in
    let front_len : length (take at text) ≡ at = length-take-le at text (omega arith) in
    let placed : now ≡ take at text ++ (line ++ drop (at + length line) text) = put ∙ append_assoc (take at text) line (drop (at + length line) text) in
    let after : drop at now ≡ line ++ drop (at + length line) text = ap (drop at) placed ∙ drop_at (take at text) (line ++ drop (at + length line) text) at front_len in
    let tail : drop (at + length line) text ≡ lines_text (piece_lines behind) =
    elim (cases_lt 65000 (len - from)) [
      | inl more ↦
          ap (λ (k : ℕ). drop k text) (let e : at + length line ≡ 65004 * left = omega arith in e) ∙ is.back
          ∙ ap (λ (xs : List ℕ). lines_text (piece_lines xs))
          (ap (λ (k : ℕ). drop k pack) (let e : 65000 * left ≡ from + min (length rest) 65000 = omega arith in e) ∙ sym (drop-drop (min (length rest) 65000) from pack))
      | inr short ↦
          drop_all (at + length line) text (omega arith)
          ∙ sym (piece_none behind (length-drop (min (length rest) 65000) rest ∙ (let e : length rest - min (length rest) 65000 ≡ 0 = omega arith in e)))
    ] in
    record {
      whole =
          ap (length {A = ℕ}) placed ∙ length-append (take at text) (line ++ drop (at + length line) text) ∙ ap₂ (λ (a b : ℕ). a + b) front_len (length-append line (drop (at + length line) text))
          ∙ (let d = length-drop (at + length line) text in let e : at + (length line + length (drop (at + length line) text)) ≡ len + 4 * count = omega arith in e);
      few = omega arith;
      front =
          (let e = min (65000 * j) len in
          let up = min (65000 * left) len in
          ap (take e) placed ∙ take-append-le e (take at text) (line ++ drop (at + length line) text) (omega arith) ∙ take-take e at text (omega arith)
          ∙ sym (take-take e up text (omega arith)) ∙ ap (take e) is.front ∙ take-take e up pack (omega arith));
      back = after ∙ ap₂ (λ (a b : List ℕ). a ++ b) line_is tail ∙ sym (piece_more rest piece behind (omega arith) refl refl);
    }

-- a line that is made in an empty list
pub line_made : (old out piece : List ℕ) → old ≡ [] → out ≡ old ++ line_text (Payload piece) → out ≡ line_text (Payload piece)
line_made old out piece none more = more ∙ ap (λ (t : List ℕ). t ++ line_text (Payload piece)) none

-- the line of a piece ends within the text
pub line_within : (pack text line : List ℕ) (len count left j : ℕ) → IsCut pack text len count left → left ≡ j + 1 → 65000 * j < len
    → line ≡ line_text (Payload (take (end_of len j - 65000 * j) (drop (65000 * j) text))) → 65004 * j + length line ≤ length text
line_within pack text line len count left j is next lt made =
    let whole = is.whole in
    let few = is.few in
    let piece = take (end_of len j - 65000 * j) (drop (65000 * j) text) in
    let size : length line ≡ 4 + length piece = ap (length {A = ℕ}) made ∙ line_size (Payload piece) in
    let most = length-take (end_of len j - 65000 * j) (drop (65000 * j) text) in
    omega arith
