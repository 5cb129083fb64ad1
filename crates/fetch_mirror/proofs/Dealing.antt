-- Names that are dealt to workers, one after the other.
use Rattle.std.proofs.Common.{◌≡◌, ℕ, suc, ◌+◌, ◌<◌, ◌%◌, Bool, true, false, cond, eqb, List, [], ◌∷◌, ◌++◌, length, take, map, set, get_or, replicate, Some, sym, ap, subst, ◌∙◌, ⊎_elim, arith}
use Rattle.std.proofs.lemmas.Bool.{cases_eq, eq-eqb, ne_eqb}
use Rattle.std.proofs.lemmas.List.{append-nil, map-append, replicate_more, take_more, length-take-le, length-set, get_or-set_same, get_or-set_other, length-replicate, get_or-replicate, take_all}
use Rattle.std.proofs.lemmas.Option.{slice_get-get_or, slice_get_within}
use Rattle.fetch_specs.specs.Specs.{Spec}
use Rattle.fetch_mirror.specs.Shares.{as_itself, at_places, share_of, AreShares}

pub one_more_empty : (n : ℕ) → replicate n [] ++ [] ∷ [] ≡ replicate {A = List Spec} (n + 1) []
one_more_empty n = replicate_more n []

-- one element more
at_places-more : {X : Type 0} (passes : ℕ → Bool) (k : ℕ) (xs : List X) (x : X) → at_places passes k (xs ++ x ∷ []) ≡ at_places passes k xs ++ cond (passes (k + length xs)) (x ∷ []) []
at_places-more passes k [] x =
    let here : k ≡ k + 0 = omega arith in ap (λ (n : ℕ). cond (passes n) (x ∷ []) []) here
at_places-more passes k (y ∷ ys) x =
    let place : (k + 1) + length ys ≡ k + suc (length ys) = omega arith in
    step (passes k) (at_places-more passes (k + 1) ys x ∙ ap (λ (n : ℕ). at_places passes (k + 1) ys ++ cond (passes n) (x ∷ []) []) place)
  where
    step : (t : Bool) → at_places passes (k + 1) (ys ++ x ∷ []) ≡ at_places passes (k + 1) ys ++ cond (passes (k + suc (length ys))) (x ∷ []) []
        → cond t (y ∷ at_places passes (k + 1) (ys ++ x ∷ [])) (at_places passes (k + 1) (ys ++ x ∷ [])) ≡ cond t (y ∷ at_places passes (k + 1) ys) (at_places passes (k + 1) ys) ++ cond (passes (k + suc (length ys))) (x ∷ []) []
    step true is = ap (λ (l : List _). y ∷ l) is
    step false is = is

-- a share with one name more before it
share-more : (workers worker i : ℕ) (names : List (List ℕ)) (name : List ℕ) → i < length names → get_or names i name ≡ name
    → share_of workers worker (take (i + 1) names) ≡ share_of workers worker (take i names) ++ map as_itself (cond (eqb (i % workers) worker) (name ∷ []) [])
share-more workers worker i names name low is =
    let passes : ℕ → Bool = λ (k : ℕ). eqb (k % workers) worker in
    let count : 0 + length (take i names) ≡ i = omega (arith, length-take-le i names) in
    ap (λ (l : List (List ℕ)). map as_itself (at_places passes 0 l)) (take_more names i name low ∙ ap (λ (x : List ℕ). take i names ++ x ∷ []) is)
    ∙ ap (map as_itself) (at_places-more passes 0 (take i names) name ∙ ap (λ (n : ℕ). at_places passes 0 (take i names) ++ cond (passes n) (name ∷ []) []) count)
    ∙ map-append as_itself (at_places passes 0 (take i names)) (cond (passes i) (name ∷ []) [])

-- The first names were dealt.
pub record AreDealt (workers i : ℕ) (names : List (List ℕ)) (shares : List (List Spec)) : Type 0 where
  pub count : length shares ≡ workers
  pub each : (worker : ℕ) → worker < workers → get_or shares worker [] ≡ share_of workers worker (take i names)

-- none was
pub dealt_none : (workers : ℕ) (names : List (List ℕ)) (shares : List (List Spec)) → shares ≡ replicate workers [] → AreDealt workers 0 names shares
dealt_none workers names shares is = record {
  count = ap length is ∙ length-replicate workers [];
  each = λ worker low. ap (λ (l : List (List Spec)). get_or l worker []) is ∙ get_or-replicate workers worker [] [] low;
}

-- one more was
pub dealt_more : (workers i : ℕ) (names : List (List ℕ)) (name : List ℕ) (shares now : List (List Spec)) → 0 < workers → i < length names → get_or names i name ≡ name
    → now ≡ set shares (i % workers) (get_or shares (i % workers) [] ++ as_itself name ∷ []) → AreDealt workers i names shares → AreDealt workers (i + 1) names now
dealt_more workers i names name shares now some low is now_is dealt = record {
  count = ap length now_is ∙ length-set shares (i % workers) _ ∙ dealt.count;
  each = λ worker less. ap (λ (l : List (List Spec)). get_or l worker []) now_is ∙ ⊎_elim
      (λ (same : i % workers ≡ worker).
      let here : i % workers < length shares = omega (arith, dealt.count) in
      subst (λ (w : ℕ). get_or (set shares (i % workers) (get_or shares (i % workers) [] ++ as_itself name ∷ [])) w [] ≡ get_or shares w [] ++ as_itself name ∷ []) same (get_or-set_same shares (i % workers) _ [] here)
      ∙ ap (λ (l : List Spec). l ++ as_itself name ∷ []) (dealt.each worker less)
      ∙ ap (λ (t : Bool). share_of workers worker (take i names) ++ map as_itself (cond t (name ∷ []) [])) (sym (eq-eqb (i % workers) worker same))
      ∙ sym (share-more workers worker i names name low is))
      (λ (other : i % workers ≡ worker → ⊥).
      get_or-set_other shares (i % workers) worker _ [] (λ e. other (sym e))
      ∙ dealt.each worker less
      ∙ sym (append-nil (share_of workers worker (take i names)))
      ∙ ap (λ (t : Bool). share_of workers worker (take i names) ++ map as_itself (cond t (name ∷ []) [])) (sym (ne_eqb (i % workers) worker other))
      ∙ sym (share-more workers worker i names name low is))
      (cases_eq (i % workers) worker);
}

-- all were
pub dealt_all : (workers i : ℕ) (names : List (List ℕ)) (shares : List (List Spec)) → i ≡ length names → AreDealt workers i names shares → AreShares workers names shares
dealt_all workers i names shares end dealt = record {
  count = dealt.count;
  each = λ worker share is.
      let low = slice_get_within shares worker share is in
      let found : Some share ≡ Some (get_or shares worker []) = sym is ∙ slice_get-get_or shares worker [] low in
      let same : share ≡ get_or shares worker [] = cc in
      same ∙ dealt.each worker (omega (arith, dealt.count)) ∙ ap (share_of workers worker) (take_all i names (omega arith));
}
