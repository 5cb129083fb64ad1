-- Lines that are written are told apart in their text.
use Rattle.std.proofs.Common.{◌≡◌, ℕ, ◌≤◌, ◌⊎◌, inl, inr, List, [], ◌∷◌, ◌++◌, length, drop, append_assoc, append-nil, Result, Ok, Err, refl, sym, ap, subst, ◌∙◌, arith}
use Rattle.std.specs.List.{AllByRecursion}
use Rattle.std.proofs.lemmas.List.{length-append}
use Rattle.fetch_lines.specs.declared.lines.line.Line.{Line}
use Rattle.fetch_lines.specs.declared.lines.section.LineError.{LineError}
use Rattle.fetch_lines.specs.Lines.{line_at}
use Rattle.fetch_lines.specs.Written.{line_text, lines_text}
use Rattle.fetch_lines.specs.WrittenLaws.{written-line_at}
use Rattle.fetch_check.specs.Scanning.{IsWritten, Stands, Stand}
use Rattle.fetch_check.proofs.Digits.{within_longest}
use Rattle.fetch_check.proofs.Lines.{lines_more}

abbrev read_of : Line → List ℕ → Result (Line × List ℕ) LineError
read_of line rest = Ok (line, rest)

abbrev from_ok : {A : Type 0} → A → Result A LineError → A
from_ok other (Ok x) = x
from_ok other (Err e) = other

ok_parts : (a b : Line) (r s : List ℕ) → read_of a r ≡ read_of b s → (a ≡ b) × (r ≡ s)
ok_parts a b r s e = let p = ap (from_ok (a, r)) e in (ap (λ (x : Line × List ℕ). x.0) p, ap (λ (x : Line × List ℕ). x.1) p)

at_front : (line : Line) (rest : List ℕ) → IsWritten line → line_at 65520 0 (line_text line ++ rest) ≡ Ok (line, rest)
at_front line rest w = written-line_at 65520 0 line rest w.proper w.fits (within_longest line w.fits)

pub one_line : (a b : Line) (r s : List ℕ) → IsWritten a → IsWritten b → line_text a ++ r ≡ line_text b ++ s → (a ≡ b) × (r ≡ s)
one_line a b r s wa wb same = ok_parts a b r s (sym (at_front a r wa) ∙ ap (line_at 65520 0) same ∙ at_front b s wb)

pub first_line : (x : Line) (xs : List Line) (r : List ℕ) → lines_text (x ∷ xs) ++ r ≡ line_text x ++ (lines_text xs ++ r)
first_line x xs r = append_assoc (line_text x) (lines_text xs) r

-- Of two lists whose text begins one text, one goes on with the other.
pub ahead : (xs ys : List Line) (r s : List ℕ) → AllByRecursion IsWritten xs → AllByRecursion IsWritten ys → lines_text xs ++ r ≡ lines_text ys ++ s
    → ((gs : List Line) × (ys ≡ xs ++ gs) × (r ≡ lines_text gs ++ s)) ⊎ ((gs : List Line) × (xs ≡ ys ++ gs) × (s ≡ lines_text gs ++ r))
ahead [] ys r s wx wy same = inl (ys, refl, same)
ahead (x ∷ xs) [] r s wx wy same = inr (x ∷ xs, refl, sym same)
ahead (x ∷ xs) (y ∷ ys) r s wx wy same =
    let one = one_line x y (lines_text xs ++ r) (lines_text ys ++ s) wx.0 wy.0 (sym (first_line x xs r) ∙ same ∙ first_line y ys s) in
    elim (ahead xs ys r s wx.1 wy.1 one.1) [
      | inl p ↦ inl (p.0, ap (λ (z : Line). z ∷ ys) (sym one.0) ∙ ap (λ (zs : List Line). x ∷ zs) p.1, p.2)
      | inr p ↦ inr (p.0, ap (λ (z : Line). z ∷ xs) one.0 ∙ ap (λ (zs : List Line). y ∷ zs) p.1, p.2)
    ]

-- ---- lines that stand one after the other

pub stands_then : (bytes : List ℕ) (a b c : ℕ) (t u : List ℕ) → Stands bytes a t b → Stands bytes b u c → Stands bytes a (t ++ u) c
stands_then bytes a b c t u p q = record {
  text_is = p.text_is ∙ ap (λ (x : List ℕ). t ++ x) q.text_is ∙ sym (append_assoc t u (drop c bytes));
  len = let n = length-append t u in let one = p.len in let two = q.len in omega arith;
  within = q.within;
}

pub all_of : {X : Type 0} (P : X → Type 0) (xs ys : List X) → AllByRecursion P xs → AllByRecursion P ys → AllByRecursion P (xs ++ ys)
all_of P [] ys p q = q
all_of P (x ∷ xs) ys p q = (p.0, all_of P xs ys p.1 q)

pub stand_then : (bytes : List ℕ) (a b c : ℕ) (xs ys : List Line) → Stand bytes a xs b → Stand bytes b ys c → Stand bytes a (xs ++ ys) c
stand_then bytes a b c xs ys p q = record {
  stands = subst (λ (t : List ℕ). Stands bytes a t c) (sym (lines_more xs ys)) (stands_then bytes a b c (lines_text xs) (lines_text ys) p.stands q.stands);
  written = all_of IsWritten xs ys p.written q.written;
}

-- no lines
pub stand_none : (bytes : List ℕ) (a : ℕ) → a ≤ length bytes → Stand bytes a [] a
stand_none bytes a le = record { stands = record { text_is = refl; len = omega arith; within = le }; written = tt }

-- one line, whose text is told
pub stand_one : (bytes : List ℕ) (a b : ℕ) (line : Line) → IsWritten line → Stands bytes a (line_text line) b → Stand bytes a (line ∷ []) b
stand_one bytes a b line w s = record { stands = subst (λ (t : List ℕ). Stands bytes a t b) (sym (append-nil (line_text line))) s; written = (w, tt) }
