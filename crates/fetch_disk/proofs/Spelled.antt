-- Records behind one another, and what bytes stand for that are read to their end.
use Rattle.std.proofs.Common.{◌≡◌, ◌≢◌, inl, inr, ℕ, ◌+◌, ◌^◌, ◌<◌, true, false, not, List, [], ◌∷◌, ◌++◌, length, get_or, take, Some, None, refl, sym, ap, subst, ◌∙◌, append_assoc, arith, length-append}
use Rattle.std.specs.Prelude.{◌==◌}
use Rattle.std.proofs.lemmas.Bool.Decides.{eqb_tells}
use Rattle.std.proofs.lemmas.List.{append-nil, take_more}
use Rattle.fetch_base.specs.Id.{byte_len}
use Rattle.fetch_base.specs.declared.id.Kind.{Kind}
use Rattle.fetch_disk.specs.declared.record.Record.{Record}
use Rattle.fetch_disk.specs.Reading.{first}
use Rattle.fetch_disk.specs.Records.{payload, spelled, front, opened, IsDamagedAt, is_shut, IsRead}
use Rattle.fetch_disk.proofs.Found.{AreBytes, AreBytes-back, written, again, length-payload}

pub spelled-push : (hash : Kind) (es : List Record) (e : Record) → spelled hash (es ++ e ∷ []) ≡ spelled hash es ++ 1 ∷ payload hash e
spelled-push hash [] e = ap (λ (l : List ℕ). 1 ∷ l) (append-nil (payload hash e))
spelled-push hash (f ∷ es) e = ap (λ (l : List ℕ). 1 ∷ l) (ap (λ (l : List ℕ). payload hash f ++ l) (spelled-push hash es e) ∙ sym (append_assoc (payload hash f) (spelled hash es) (1 ∷ payload hash e)))

pub opened-push : (hash : Kind) (es : List Record) (e : Record) → opened hash (es ++ e ∷ []) ≡ opened hash es ++ 1 ∷ payload hash e
unfolding opened
opened-push hash es e = ap (λ (l : List ℕ). front ++ l) (spelled-push hash es e) ∙ sym (append_assoc front (spelled hash es) (1 ∷ payload hash e))

pub opened-pushed : (hash : Kind) (es : List Record) (e : Record) (rest : List ℕ) → opened hash (es ++ e ∷ []) ++ rest ≡ opened hash es ++ 1 ∷ (payload hash e ++ rest)
opened-pushed hash es e rest = ap (λ (l : List ℕ). l ++ rest) (opened-push hash es e) ∙ append_assoc (opened hash es) (1 ∷ payload hash e) rest

pub length-opened-push : (hash : Kind) (es : List Record) (e : Record) → length (opened hash (es ++ e ∷ [])) ≡ length (opened hash es) + 10 + length e.body + byte_len hash
length-opened-push hash es e = omega (arith, ap length (opened-push hash es e), length-append (opened hash es) (1 ∷ payload hash e), length-payload hash e)

pub opened-nil : (hash : Kind) (rest : List ℕ) → front ++ rest ≡ opened hash [] ++ rest
unfolding opened
opened-nil hash rest = ap (λ (l : List ℕ). l ++ rest) (sym (append-nil front))

-- ---- reading to the end

pub one_more : (hash : Kind) (bytes rest after : List ℕ) (es : List Record) (e : Record) → AreBytes bytes → bytes ≡ opened hash es ++ rest → first hash rest ≡ Some (e, after) → bytes ≡ opened hash (es ++ e ∷ []) ++ after
one_more hash bytes rest after es e fits is found =
    let w = written hash rest e after (AreBytes-back (opened hash es) rest (subst AreBytes is fits)) found in
    is ∙ ap (λ (l : List ℕ). opened hash es ++ l) w.is ∙ sym (opened-pushed hash es e after)

-- what follows a record is shorter
pub shorter : (hash : Kind) (bytes rest after : List ℕ) (es : List Record) (e : Record) → AreBytes bytes → bytes ≡ opened hash es ++ rest → first hash rest ≡ Some (e, after) → length after < length rest
shorter hash bytes rest after es e fits is found =
    let w = written hash rest e after (AreBytes-back (opened hash es) rest (subst AreBytes is fits)) found in
    omega (arith, ap length w.is, length-append (payload hash e) after)

-- a gate that isn't open, and what is behind it
pub record Gate (bytes : List ℕ) : Type 0 where
  pub gate : ℕ
  pub behind : List ℕ
  pub shut : gate ≢ 1
  pub is : bytes ≡ gate ∷ behind

pub shut_gate : (bytes : List ℕ) → is_shut bytes ≡ true → Gate bytes
shut_gate [] is = absurd cc
shut_gate (gate ∷ behind) is = elim (eqb_tells gate 1) [
  | inl same ↦ absurd cc
  | inr other ↦ record { gate = gate; behind = behind; shut = other.1; is = refl }
]

pub ended : (hash : Kind) (bytes rest : List ℕ) (es : List Record) (end : ℕ) → bytes ≡ opened hash es ++ rest → length bytes < 2 ^ 64 → end + length rest ≡ length bytes → is_shut rest ≡ true → IsRead hash bytes es end
ended hash bytes rest es end is small there shut =
    let g = shut_gate rest shut in
    let size = length-append (opened hash es) rest in
    record {
      stands = record { gate = g.gate; behind = g.behind; shut = g.shut; whole = is ∙ ap (λ (l : List ℕ). opened hash es ++ l) g.is; small = omega (arith, ap length is) };
      gate = omega (arith, ap length is);
    }

open_gate : (gate : ℕ) → not (gate == 1) ≡ false → gate ≡ 1
open_gate gate is = elim (eqb_tells gate 1) [
  | inl same ↦ same.1
  | inr other ↦ absurd cc
]

no_gate : (bytes : List ℕ) (gate : ℕ) (behind : List ℕ) → is_shut bytes ≡ false → bytes ≡ gate ∷ behind → gate ≡ 1
no_gate bytes gate behind open_ is = open_gate gate (sym (ap is_shut is) ∙ open_)

no_record : (hash : Kind) (bytes : List ℕ) (e : Record) (behind : List ℕ) → first hash bytes ≡ None → length e.body < 2 ^ 64 → bytes ≡ 1 ∷ (payload hash e ++ behind) → ⊥
no_record hash bytes e behind none small is =
    let some : first hash bytes ≡ Some (e, behind) = ap (first hash) is ∙ again hash e behind small in cc

pub damaged : (hash : Kind) (bytes rest : List ℕ) (es : List Record) (place : ℕ) → bytes ≡ opened hash es ++ rest → length bytes < 2 ^ 64 → place + length rest ≡ length bytes → first hash rest ≡ None → is_shut rest ≡ false → IsDamagedAt hash bytes place
damaged hash bytes rest es place is small there none open_ =
    let size = length-append (opened hash es) rest in
    record {
      before = es;
      rest = rest;
      whole = is;
      stands = omega (arith, ap length is);
      small = omega (arith, ap length is);
      nothing = record { no_gate = λ gate behind h. no_gate rest gate behind open_ h; no_record = λ e behind h k. no_record hash rest e behind none h k };
    }

-- ---- spelling

pub opened-empty : (hash : Kind) → front ≡ opened hash []
unfolding opened
opened-empty hash = sym (append-nil front)

pub opened-more : (hash : Kind) (es : List Record) (i : ℕ) (e : Record) → i < length es → e ≡ get_or es i e → opened hash (take i es) ++ 1 ∷ payload hash e ≡ opened hash (take (i + 1) es)
opened-more hash es i e within is =
    let one : take (i + 1) es ≡ take i es ++ e ∷ [] = take_more es i e within ∙ ap (λ (x : Record). take i es ++ x ∷ []) (sym is) in
    sym (opened-push hash (take i es) e) ∙ ap (opened hash) (sym one)
