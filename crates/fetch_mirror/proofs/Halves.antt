-- What holds of two halves of a row holds of the row.
use Rattle.std.proofs.Common.{◌≡◌, ℕ, ◌-◌, ◌<◌, ◌≤◌, List, [], ◌∷◌, ◌++◌, length, set, get_or, refl, sym, ap, ◌∙◌, subst, ⊎_elim, arith, length-append, length-set}
use Rattle.std.proofs.lemmas.Bool.{cases_lt}
use Rattle.std.proofs.lemmas.List.{get_or_append_left, get_or-append_right}
use denote.Ref.{MutBor}
use denote.Param.Members.{Shared}
use Rattle.fetch_mirror.specs.Pairs.{ChangesPair, ChangesPairs}

-- a read of the front, and of the back, of what is two rows
front_at : {X : Type 0} (all xs ys : List X) (i : ℕ) (d : X) → all ≡ xs ++ ys → i < length xs → get_or all i d ≡ get_or xs i d
front_at all xs ys i d is low = ap (λ l. get_or l i d) is ∙ get_or_append_left xs ys d i low

back_at : {X : Type 0} (all xs ys : List X) (n i : ℕ) (d : X) → all ≡ xs ++ ys → length xs ≡ n → n ≤ i → get_or all i d ≡ get_or ys (i - n) d
back_at all xs ys n i d is count high = ap (λ l. get_or l i d) is ∙ get_or-append_right xs ys n i d count high

module _ {F A B : Type 0} (g : Shared F (MutBor A × (MutBor B × Unit {0})) ((Unit {0}) × (MutBor A × (MutBor B × Unit {0})))) (f : F) where
  moved : {x x' u u' : A} {y y' v v' : B} → x ≡ x' → y ≡ y' → u ≡ u' → v ≡ v' → ChangesPair g f x y u v → ChangesPair g f x' y' u' v'
  moved a b c d h = subst (λ (z : A × B × A × B). ChangesPair g f z.0 z.1 z.2 z.3) (λ i. (a i, b i, c i, d i)) h

  -- what a call left of rows of one element
  pub changes_first : (xs : List A) (ys : List B) (x u : A) (y v : B) → length xs ≡ 1 → length xs ≡ length ys → ChangesPair g f (get_or xs 0 x) (get_or ys 0 y) u v → ChangesPairs g f xs ys (set xs 0 u) (set ys 0 v)
  changes_first [] ys x u y v one same h = absurd (omega arith)
  changes_first (x' ∷ xs) [] x u y v one same h = absurd (omega arith)
  changes_first (x' ∷ xs) (y' ∷ ys) x u y v one same h = record {
    left_count = length-set (x' ∷ xs) 0 u;
    right_count = length-set (y' ∷ ys) 0 v;
    each = λ i d e low. let first : 0 ≡ i = omega arith in
        subst (λ k. ChangesPair g f (get_or (x' ∷ xs) k d) (get_or (y' ∷ ys) k e) (get_or (u ∷ xs) k d) (get_or (v ∷ ys) k e)) first h;
  }

  -- what calls left of two halves
  pub changes_both : (all xs zs : List A) (both ys ws : List B) → all ≡ xs ++ zs → both ≡ ys ++ ws → length xs ≡ length ys → (xs_now zs_now : List A) (ys_now ws_now : List B)
      → ChangesPairs g f xs ys xs_now ys_now → ChangesPairs g f zs ws zs_now ws_now → ChangesPairs g f all both (xs_now ++ zs_now) (ys_now ++ ws_now)
  changes_both all xs zs both ys ws all_is both_is same xs_now zs_now ys_now ws_now a b = record {
    left_count = omega (arith, a.left_count, b.left_count, ap length all_is, length-append xs zs, length-append xs_now zs_now);
    right_count = omega (arith, a.right_count, b.right_count, ap length both_is, length-append ys ws, length-append ys_now ws_now);
    each = λ i x y low. ⊎_elim
        (λ (front : i < length xs). moved
        (sym (front_at all xs zs i x all_is front))
        (sym (front_at both ys ws i y both_is (omega arith)))
        (sym (get_or_append_left xs_now zs_now x i (omega (arith, a.left_count))))
        (sym (get_or_append_left ys_now ws_now y i (omega (arith, a.right_count))))
        (a.each i x y front))
        (λ (back : length xs ≤ i). moved
        (sym (back_at all xs zs (length xs) i x all_is refl back))
        (sym (back_at both ys ws (length xs) i y both_is (sym same) back))
        (sym (get_or-append_right xs_now zs_now (length xs) i x a.left_count back))
        (sym (get_or-append_right ys_now ws_now (length xs) i y (a.right_count ∙ sym same) back))
        (b.each (i - length xs) x y (omega (arith, ap length all_is, length-append xs zs))))
        (cases_lt i (length xs));
  }
