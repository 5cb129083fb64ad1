-- Splitting at the last such byte, and putting the text together again.
use Rattle.std.proofs.Common.{◌≡◌, ℕ, ◌+◌, ◌-◌, ◌<◌, Bool, true, false, cond, not, eqb, ltb, List, [], ◌∷◌, ◌++◌, reverse, length, get_or, take, drop, Some, None, refl, sym, ap, ap₂, subst, ◌∙◌, arith, eq-eqb, append_assoc, length-append, length-drop, take-append-drop}
use Rattle.std.specs.List.{suffix_len}
use Rattle.std.proofs.lemmas.Bool.{eqb-true, lt-ltb, ltb-true, not-false}
use Rattle.std.proofs.lemmas.List.{take_at, drop_at, drop_more, get_or-drop, get_or-reverse, length-reverse}
use Rattle.std.proofs.lemmas.List.Sums.{prefix_len_passes, prefix_len_stops, suffix_len_is, AllPass-from_list_all, list_all-from_AllPass}
use Rattle.fetch_base.specs.Scan.{split_last}
use Rattle.fetch_base.specs.Lines.{IsWithout, SplitsLastExactly}

module _ (c : ℕ) (bytes : List ℕ) (within : suffix_len (λ b. not (eqb b c)) bytes < length bytes) where
  here : get_or bytes (length bytes - suffix_len (λ b. not (eqb b c)) bytes - 1) 0 ≡ c
  here =
      let n = suffix_len (λ b. not (eqb b c)) bytes in
      let stops = prefix_len_stops (λ b. not (eqb b c)) (reverse bytes) 0 (omega (arith, length-reverse bytes)) in
      let place : length bytes - 1 - n ≡ length bytes - n - 1 = omega arith in
      let read : get_or (reverse bytes) n 0 ≡ get_or bytes (length bytes - n - 1) 0 = get_or-reverse bytes n 0 within ∙ ap (λ k. get_or bytes k 0) place in
      eqb-true _ _ (not-false _ (ap (λ b. not (eqb b c)) (sym read) ∙ stops))

  later : IsWithout c (drop (length bytes - suffix_len (λ b. not (eqb b c)) bytes) bytes)
  later =
      let n = suffix_len (λ b. not (eqb b c)) bytes in
      let k = length bytes - n in
      list_all-from_AllPass (λ b. not (eqb b c)) (drop k bytes) (λ j d lt.
      let inside : k + j < length bytes = omega (arith, length-drop k bytes) in
      let m = length bytes - 1 - (k + j) in
      let turned : length bytes - 1 - m ≡ k + j = omega arith in
      let passes = prefix_len_passes (λ b. not (eqb b c)) (reverse bytes) m d (omega arith) in
      let read : get_or (reverse bytes) m d ≡ get_or (drop k bytes) j d =
      get_or-reverse bytes m d (omega arith) ∙ ap (λ i. get_or bytes i d) turned ∙ sym (get_or-drop k bytes j d) in
      ap (λ b. not (eqb b c)) (sym read) ∙ passes)

  whole : bytes ≡ take (length bytes - suffix_len (λ b. not (eqb b c)) bytes - 1) bytes ++ c ∷ drop (length bytes - suffix_len (λ b. not (eqb b c)) bytes) bytes
  whole =
      let n = suffix_len (λ b. not (eqb b c)) bytes in
      let at = length bytes - n - 1 in
      let next : at + 1 ≡ length bytes - n = omega arith in
      sym (take-append-drop at bytes)
      ∙ ap (λ ys. take at bytes ++ ys) (drop_more bytes at 0 (omega arith) ∙ ap₂ (λ b k. b ∷ drop k bytes) here next)

some_is : (x y : List ℕ × List ℕ) → Some x ≡ Some y → x ≡ y
some_is x y e = cc

parts : (c : ℕ) (bytes : List ℕ) (x : List ℕ × List ℕ) (t : Bool) → ltb (suffix_len (λ b. not (eqb b c)) bytes) (length bytes) ≡ t
    → cond t (Some (take (length bytes - suffix_len (λ b. not (eqb b c)) bytes - 1) bytes, drop (length bytes - suffix_len (λ b. not (eqb b c)) bytes) bytes)) None ≡ Some x
    → (bytes ≡ x.0 ++ c ∷ x.1) × IsWithout c x.1
parts c bytes x true lt e =
    let n = suffix_len (λ b. not (eqb b c)) bytes in
    let within : n < length bytes = ltb-true _ _ lt in
    subst (λ (y : List ℕ × List ℕ). (bytes ≡ y.0 ++ c ∷ y.1) × IsWithout c y.1) (some_is (take (length bytes - n - 1) bytes, drop (length bytes - n) bytes) x e) (whole c bytes within, later c bytes within)
parts c bytes x false lt e = absurd cc

-- the length after the last c
behind_last : (c : ℕ) (before behind : List ℕ) → IsWithout c behind → suffix_len (λ b. not (eqb b c)) (before ++ c ∷ behind) ≡ length behind
behind_last c before behind none =
    let text : List ℕ = before ++ c ∷ behind in
    let n = length before + 1 in
    let long : length text ≡ length before + length (c ∷ behind) = length-append before (c ∷ behind) in
    let rest : drop n text ≡ behind = ap (drop n) (sym (append_assoc before (c ∷ []) behind)) ∙ drop_at (before ++ c ∷ []) behind n (length-append before (c ∷ [])) in
    let all = AllPass-from_list_all (λ b. not (eqb b c)) behind none in
    suffix_len_is (λ b. not (eqb b c)) text n 0 (omega arith)
    (λ k low high.
    let place : n + (k - n) ≡ k = omega arith in
    let read : get_or behind (k - n) 0 ≡ get_or text k 0 = ap (λ ys. get_or ys (k - n) 0) (sym rest) ∙ get_or-drop n text (k - n) 0 ∙ ap (λ i. get_or text i 0) place in
    ap (λ b. not (eqb b c)) (sym read) ∙ all (k - n) 0 (omega arith))
    (λ some.
    let place : length before + 0 ≡ n - 1 = omega arith in
    let read : c ≡ get_or text (n - 1) 0 = ap (λ ys. get_or ys 0 0) (sym (drop_at before (c ∷ behind) (length before) refl)) ∙ get_or-drop (length before) text 0 0 ∙ ap (λ i. get_or text i 0) place in
    ap (λ b. not (eqb b c)) (sym read) ∙ ap not (eq-eqb c c refl))
    ∙ omega arith

apart : (c : ℕ) (bytes before behind : List ℕ) (n : ℕ) → suffix_len (λ b. not (eqb b c)) bytes ≡ n → ltb n (length bytes) ≡ true
    → take (length bytes - n - 1) bytes ≡ before → drop (length bytes - n) bytes ≡ behind → split_last c bytes ≡ Some (before, behind)
apart c bytes before behind n len inside front back =
    ap (λ (k : ℕ). cond (ltb k (length bytes)) (Some (take (length bytes - k - 1) bytes, drop (length bytes - k) bytes)) None) len
    ∙ ap (λ (t : Bool). cond t (Some (take (length bytes - n - 1) bytes, drop (length bytes - n) bytes)) None) inside
    ∙ ap₂ (λ a b. Some (a, b)) front back

again : (c : ℕ) (before behind : List ℕ) → IsWithout c behind → split_last c (before ++ c ∷ behind) ≡ Some (before, behind)
again c before behind none =
    let long : length (before ++ c ∷ behind) ≡ length before + length (c ∷ behind) = length-append before (c ∷ behind) in
    let at : length before ≡ length (before ++ c ∷ behind) - length behind - 1 = omega arith in
    let next : length (before ++ c ∷ []) ≡ length (before ++ c ∷ behind) - length behind = omega (arith, length-append before (c ∷ [])) in
    apart c (before ++ c ∷ behind) before behind (length behind) (behind_last c before behind none) (lt-ltb _ _ (omega arith)) (take_at before (c ∷ behind) _ at)
    (ap (drop (length (before ++ c ∷ behind) - length behind)) (sym (append_assoc before (c ∷ []) behind)) ∙ drop_at (before ++ c ∷ []) behind _ next)

pub splits_last : (c : ℕ) (bytes : List ℕ) → SplitsLastExactly c bytes
splits_last c bytes = record {
  found = λ before behind e. parts c bytes (before, behind) (ltb (suffix_len (λ b. not (eqb b c)) bytes) (length bytes)) refl e;
  only = λ before behind is none. ap (split_last c) is ∙ again c before behind none;
}
