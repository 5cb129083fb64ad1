-- One turn of the loop over a name's bytes.
use Rattle.std.proofs.Common.{◌≡◌, ℕ, ◌+◌, ◌-◌, ◌<◌, ◌≤◌, Bool, true, false, cond, eqb, List, [], ◌∷◌, ◌++◌, length, get_or, take, drop, ap, ◌∙◌, arith, length-drop}
use Rattle.std.specs.List.{slice_range}
use Rattle.std.proofs.lemmas.List.{take_more, drop_more, get_or-drop}
use Rattle.fetch_specs.specs.Scans.{may_follow, onward, scan, last_part}

pub next_part : (text : List ℕ) (start i : ℕ) → start ≤ i → i < length text → slice_range text (cond (eqb (get_or text i 0) 47) (i + 1) start) (i + 1) ≡ onward (slice_range text start i) (get_or text i 0)
next_part text start i before within = by_test (eqb (get_or text i 0) 47)
  where
    byte : get_or (drop start text) (i - start) 0 ≡ get_or text i 0
    byte = get_or-drop start text (i - start) 0 ∙ ap (λ (n : ℕ). get_or text n 0) (omega arith)

    here : slice_range text start (i + 1) ≡ slice_range text start i ++ get_or text i 0 ∷ []
    here =
        let n : (i + 1) - start ≡ (i - start) + 1 = omega arith in
        ap (λ (n : ℕ). take n (drop start text)) n
        ∙ take_more (drop start text) (i - start) 0 (omega (arith, length-drop start text))
        ∙ ap (λ (b : ℕ). slice_range text start i ++ b ∷ []) byte

    none : slice_range text (i + 1) (i + 1) ≡ []
    none = let n : (i + 1) - (i + 1) ≡ 0 = omega arith in ap (λ (n : ℕ). take n (drop (i + 1) text)) n

    by_test : (t : Bool) → slice_range text (cond t (i + 1) start) (i + 1) ≡ cond t [] (slice_range text start i ++ get_or text i 0 ∷ [])
    by_test true = none
    by_test false = here

pub scan-turn : (star : Bool) (text c : List ℕ) (i : ℕ) → i < length text → scan star c (drop i text) ≡ cond (may_follow star c (get_or text i 0)) (scan star (onward c (get_or text i 0)) (drop (i + 1) text) + 1) 0
scan-turn star text c i within = ap (scan star c) (drop_more text i 0 within)

pub part-turn : (text c : List ℕ) (i : ℕ) → i < length text → last_part c (drop i text) ≡ last_part (onward c (get_or text i 0)) (drop (i + 1) text)
part-turn text c i within = ap (last_part c) (drop_more text i 0 within)
