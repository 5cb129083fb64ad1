-- Names that are dealt are divided.
use Rattle.std.proofs.Common.{◌≡◌, ℕ, zero, suc, ◌+◌, ◌%◌, Bool, true, false, cond, eqb, List, [], ◌∷◌, Some, refl, sym, ap, ◌∙◌, arith, Contains}
use Rattle.std.specs.Prelude.{slice_get}
use Rattle.std.proofs.lemmas.Bool.{eqb-true, eq-eqb}
use Rattle.std.proofs.lemmas.Option.{slice_get-get_or, get_or_from_slice_get, slice_get_within}
use Rattle.fetch_mirror.specs.Shares.{at_places, dealt_to, AreOnce, AreDivided}

-- what stands at a passing place
record IsAt {X : Type 0} (passes : ℕ → Bool) (k : ℕ) (xs : List X) (x : X) : Type 0 where
  place : ℕ
  there : slice_get xs place ≡ Some x
  passed : passes (k + place) ≡ true

first_at : {X : Type 0} (x y : X) (xs : List X) → slice_get (x ∷ xs) 0 ≡ Some y → x ≡ y
first_at x y xs is = let h = get_or_from_slice_get (x ∷ xs) 0 y x is in h

later_at : {X : Type 0} (x y : X) (xs : List X) (j : ℕ) → slice_get (x ∷ xs) (suc j) ≡ Some y → slice_get xs j ≡ Some y
later_at x y xs j is =
    let low = slice_get_within (x ∷ xs) (suc j) y is in
    let here = get_or_from_slice_get (x ∷ xs) (suc j) y y is in
    slice_get-get_or xs j y (omega arith) ∙ ap Some here

pub at_later : {X : Type 0} (x y : X) (xs : List X) (j : ℕ) → slice_get xs j ≡ Some y → slice_get (x ∷ xs) (suc j) ≡ Some y
at_later x y xs j is =
    let low = slice_get_within xs j y is in
    let here = get_or_from_slice_get xs j y y is in
    slice_get-get_or (x ∷ xs) (suc j) y (omega arith) ∙ ap Some here

shifted : {X : Type 0} (passes : ℕ → Bool) (k : ℕ) (y x : X) (xs : List X) → IsAt passes (k + 1) xs x → IsAt passes k (y ∷ xs) x
shifted passes k y x xs at = record {
  place = suc at.place;
  there = at_later y x xs at.place at.there;
  passed = (let same : k + suc at.place ≡ (k + 1) + at.place = omega arith in ap passes same ∙ at.passed);
}

none_there : {X : Type 0} (j : ℕ) (x : X) → slice_get [] j ≡ Some x → ⊥
none_there j x is = let low = slice_get_within [] j x is in omega arith

found : {X : Type 0} (passes : ℕ → Bool) (k : ℕ) (xs : List X) (j : ℕ) (x : X) → slice_get (at_places passes k xs) j ≡ Some x → IsAt passes k xs x
found passes k [] j x is = absurd (none_there j x is)
found {X} passes k (y ∷ xs) j x is = step (passes k) refl (λ i at. found passes (k + 1) xs i x at) j is
  where
    step : (t : Bool) → passes k ≡ t → ((i : ℕ) → slice_get (at_places passes (k + 1) xs) i ≡ Some x → IsAt passes (k + 1) xs x)
        → (j : ℕ) → slice_get (cond t (y ∷ at_places passes (k + 1) xs) (at_places passes (k + 1) xs)) j ≡ Some x → IsAt passes k (y ∷ xs) x
    step false here again j is = shifted passes k y x xs (again j is)
    step true here again zero is = record {
      place = 0;
      there = slice_get-get_or (y ∷ xs) 0 y (omega arith) ∙ ap Some (first_at y x (at_places passes (k + 1) xs) is);
      passed = (let same : k + 0 ≡ k = omega arith in ap passes same ∙ here);
    }
    step true here again (suc j) is = shifted passes k y x xs (again j (later_at y x (at_places passes (k + 1) xs) j is))

kept : {X : Type 0} (passes : ℕ → Bool) (k : ℕ) (xs : List X) (i : ℕ) (x : X) → slice_get xs i ≡ Some x → passes (k + i) ≡ true → (j : ℕ) × (slice_get (at_places passes k xs) j ≡ Some x)
kept passes k [] i x is passed = absurd (none_there i x is)
kept {X} passes k (y ∷ xs) zero x is passed = here (passes k) (let same : k + 0 ≡ k = omega arith in sym (ap passes same) ∙ passed)
  where
    here : (t : Bool) → t ≡ true → (j : ℕ) × (slice_get (cond t (y ∷ at_places passes (k + 1) xs) (at_places passes (k + 1) xs)) j ≡ Some x)
    here true so = (0, slice_get-get_or (y ∷ at_places passes (k + 1) xs) 0 y (omega arith) ∙ ap Some (first_at y x xs is))
    here false so = absurd cc
kept {X} passes k (y ∷ xs) (suc i) x is passed =
    let same : k + suc i ≡ (k + 1) + i = omega arith in
    behind (passes k) (kept passes (k + 1) xs i x (later_at y x xs i is) (sym (ap passes same) ∙ passed))
  where
    behind : (t : Bool) → (j : ℕ) × (slice_get (at_places passes (k + 1) xs) j ≡ Some x) → (j : ℕ) × (slice_get (cond t (y ∷ at_places passes (k + 1) xs) (at_places passes (k + 1) xs)) j ≡ Some x)
    behind true (j, is) = (suc j, at_later y x (at_places passes (k + 1) xs) j is)
    behind false (j, is) = (j, is)

-- ---- none comes twice

once_behind : (name : List ℕ) (names : List (List ℕ)) → AreOnce (name ∷ names) → AreOnce names
once_behind name names once i j x at at' = let same = once (suc i) (suc j) x (at_later name x names i at) (at_later name x names j at') in omega arith

no_more : (name : List ℕ) (names : List (List ℕ)) → AreOnce (name ∷ names) → (j : ℕ) → slice_get names j ≡ Some name → ⊥
no_more name names once j at =
    let same = once 0 (suc j) name (slice_get-get_or (name ∷ names) 0 name (omega arith)) (at_later name name names j at) in omega arith

once_places : (passes : ℕ → Bool) (k : ℕ) (names : List (List ℕ)) → AreOnce names → AreOnce (at_places passes k names)
once_places passes k [] once = once
once_places passes k (name ∷ names) once = step (passes k) (once_places passes (k + 1) names (once_behind name names once))
  where
    rest : List (List ℕ)
    rest = at_places passes (k + 1) names

    no_name : (j : ℕ) → slice_get rest j ≡ Some name → ⊥
    no_name j at = let h = found passes (k + 1) names j name at in no_more name names once h.place h.there

    first : (x : List ℕ) → slice_get (name ∷ rest) 0 ≡ Some x → (j : ℕ) → slice_get (name ∷ rest) (suc j) ≡ Some x → ⊥
    first x at j at' = no_name j (later_at name x rest j at' ∙ ap Some (sym (first_at name x rest at)))

    with_first : AreOnce rest → AreOnce (name ∷ rest)
    with_first h zero zero x at at' = refl
    with_first h zero (suc j) x at at' = absurd (first x at j at')
    with_first h (suc i) zero x at at' = absurd (first x at' i at)
    with_first h (suc i) (suc j) x at at' = ap suc (h i j x (later_at name x rest i at) (later_at name x rest j at'))

    step : (t : Bool) → AreOnce rest → AreOnce (cond t (name ∷ rest) rest)
    step true h = with_first h
    step false h = h

contains_at : {X : Type 0} (xs : List X) (j : ℕ) (x : X) → slice_get xs j ≡ Some x → Contains xs x
contains_at xs j x is = (j, slice_get_within xs j x is, get_or_from_slice_get xs j x x is)

at_contains : {X : Type 0} (xs : List X) (x : X) → Contains xs x → (j : ℕ) × (slice_get xs j ≡ Some x)
at_contains xs x (j, low, is) = (j, slice_get-get_or xs j x low ∙ ap Some is)

pub divided : (workers : ℕ) (names : List (List ℕ)) → AreDivided workers names
divided workers names = record {
  each = λ i name is.
      let h = kept (λ (k : ℕ). eqb (k % workers) (i % workers)) 0 names i name is (let same : 0 + i ≡ i = omega arith in ap (λ (k : ℕ). eqb (k % workers) (i % workers)) same ∙ eq-eqb (i % workers) (i % workers) refl) in
      contains_at (dealt_to workers (i % workers) names) h.0 name h.1;
  among = λ worker name there.
      let at = at_contains (dealt_to workers worker names) name there in
      let h = found (λ (k : ℕ). eqb (k % workers) worker) 0 names at.0 name at.1 in
      let same : 0 + h.place ≡ h.place = omega arith in
      (h.place, h.there, sym (ap (λ (k : ℕ). k % workers) same) ∙ eqb-true ((0 + h.place) % workers) worker h.passed);
  own = λ worker owns. record {
    under = λ j name at. let h = found (λ (k : ℕ). eqb (k % workers) worker) 0 names j name at in owns.under h.place name h.there;
    once = once_places (λ (k : ℕ). eqb (k % workers) worker) 0 names owns.once;
  };
}
