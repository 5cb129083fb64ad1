-- Splitting at a byte, and putting the text together again.
use Rattle.std.proofs.Common.{◌≡◌, ℕ, suc, ◌+◌, ◌<◌, Bool, true, false, cond, not, ◌&&◌, eqb, ltb, List, [], ◌∷◌, ◌++◌, length, get_or, take, drop, Some, None, refl, sym, ap, subst, ◌∙◌, arith, eq-eqb, append_assoc}
use Rattle.std.specs.List.{list_all, position_or_len, prefix_len}
use Rattle.std.specs.Option.{option_map}
use Rattle.std.proofs.lemmas.Bool.{eqb-true, lt-ltb, ltb-true}
use Rattle.std.proofs.lemmas.List.{take_at, drop_at, length-append}
use Rattle.std.proofs.lemmas.List.Sums.{split_at_first, passes_at_first}
use Rattle.fetch_base.specs.Scan.{split_first}
use Rattle.fetch_base.specs.Lines.{IsWithout, SplitsExactly}

both : (a b : Bool) → (a && b) ≡ true → (a ≡ true) × (b ≡ true)
both true b e = (refl, e)
both false b e = absurd cc

-- one byte more at the front that has no c
front_by_test : (c x : ℕ) (bytes : List ℕ) (t : Bool) → list_all (λ b. not (eqb b c)) (take (prefix_len (λ b. not (eqb b c)) bytes) bytes) ≡ true → not (eqb x c) ≡ t
    → list_all (λ b. not (eqb b c)) (take (cond t (1 + prefix_len (λ b. not (eqb b c)) bytes) 0) (x ∷ bytes)) ≡ true
front_by_test c x bytes true rest is =
    let n = prefix_len (λ b. not (eqb b c)) bytes in
    let one : 1 + n ≡ suc n = omega arith in
    ap (λ (k : ℕ). list_all (λ b. not (eqb b c)) (take k (x ∷ bytes))) one ∙ ap (λ (t : Bool). t && list_all (λ b. not (eqb b c)) (take n bytes)) is ∙ rest
front_by_test c x bytes false rest is = refl

-- the front that has no c
front : (c : ℕ) (bytes : List ℕ) → list_all (λ b. not (eqb b c)) (take (prefix_len (λ b. not (eqb b c)) bytes) bytes) ≡ true
front c [] = refl
front c (x ∷ bytes) = front_by_test c x bytes (not (eqb x c)) (front c bytes) refl

-- the place of the first c
place : (c : ℕ) (before behind : List ℕ) → list_all (λ b. not (eqb b c)) before ≡ true → prefix_len (λ b. not (eqb b c)) (before ++ c ∷ behind) ≡ length before
place c [] behind none = ap (λ (t : Bool). cond (not t) (1 + prefix_len (λ b. not (eqb b c)) behind) 0) (eq-eqb c c refl)
place c (x ∷ before) behind none =
    let t = both (not (eqb x c)) (list_all (λ b. not (eqb b c)) before) none in
    let n = place c before behind t.1 in
    let one : 1 + length before ≡ suc (length before) = omega arith in
    ap (λ (t : Bool). cond t (1 + prefix_len (λ b. not (eqb b c)) (before ++ c ∷ behind)) 0) t.0 ∙ ap (λ (k : ℕ). 1 + k) n ∙ one

some_is : (x y : List ℕ × List ℕ) → Some x ≡ Some y → x ≡ y
some_is x y e = cc

parts : (c : ℕ) (bytes : List ℕ) (x : List ℕ × List ℕ) (t : Bool) → ltb (position_or_len (λ b. eqb b c) bytes) (length bytes) ≡ t
    → option_map (λ i. (take i bytes, drop (i + 1) bytes)) (cond t (Some (position_or_len (λ b. eqb b c) bytes)) None) ≡ Some x → (bytes ≡ x.0 ++ c ∷ x.1) × IsWithout c x.0
parts c bytes x true lt e =
    let i = position_or_len (λ b. eqb b c) bytes in
    let inside : i < length bytes = ltb-true _ _ lt in
    let here : get_or bytes i 0 ≡ c = eqb-true _ _ (passes_at_first (λ b. eqb b c) bytes 0 inside) in
    let whole : bytes ≡ take i bytes ++ c ∷ drop (i + 1) bytes = split_at_first (λ b. eqb b c) bytes 0 inside ∙ ap (λ (b : ℕ). take i bytes ++ b ∷ drop (i + 1) bytes) here in
    subst (λ (y : List ℕ × List ℕ). (bytes ≡ y.0 ++ c ∷ y.1) × IsWithout c y.0) (some_is (take i bytes, drop (i + 1) bytes) x e) (whole, front c bytes)
parts c bytes x false lt e = absurd cc

again : (c : ℕ) (before behind : List ℕ) → IsWithout c before → split_first c (before ++ c ∷ behind) ≡ Some (before, behind)
again c before behind none =
    let whole : List ℕ = before ++ c ∷ behind in
    let i : position_or_len (λ b. eqb b c) whole ≡ length before = place c before behind none in
    let inside : ltb (length before) (length whole) ≡ true = lt-ltb _ _ (omega (arith, length-append before (c ∷ behind))) in
    let later : drop (length before + 1) whole ≡ behind =
    ap (drop (length before + 1)) (sym (append_assoc before (c ∷ []) behind)) ∙ drop_at (before ++ c ∷ []) behind (length before + 1) (length-append before (c ∷ [])) in
    ap (λ (n : ℕ). option_map (λ j. (take j whole, drop (j + 1) whole)) (cond (ltb n (length whole)) (Some n) None)) i
    ∙ ap (λ (t : Bool). option_map (λ j. (take j whole, drop (j + 1) whole)) (cond t (Some (length before)) None)) inside
    ∙ ap (λ (t : List ℕ). Some (t, drop (length before + 1) whole)) (take_at before (c ∷ behind) (length before) refl)
    ∙ ap (λ (t : List ℕ). Some (before, t)) later

pub splits : (c : ℕ) (bytes : List ℕ) → SplitsExactly c bytes
splits c bytes = record {
  found = λ before behind e. parts c bytes (before, behind) (ltb (position_or_len (λ b. eqb b c) bytes) (length bytes)) refl e;
  only = λ before behind whole none. ap (split_first c) whole ∙ again c before behind none;
}
