-- Numbers of workers, and what stands at which place.
use Rattle.std.proofs.Common.{◌≡◌, ℕ, zero, suc, ◌+◌, ◌*◌, ◌<◌, ◌≤◌, ◌%◌, min, Bool, true, false, List, [], ◌∷◌, ◌++◌, length, replicate, Some, refl, sym, ap, ◌∙◌, subst, inl, inr, ⊎_elim, arith, Contains}
use Rattle.std.specs.Prelude.{◌⊎◌, slice_get}
use Rattle.std.specs.Str.{bytes_eq}
use Rattle.std.proofs.lemmas.Bool.{cases_lt}
use Rattle.std.proofs.lemmas.Nat.{mod-mul-add, mod_below}
use Rattle.std.proofs.lemmas.Slice.Eq.{bytes_eq-Decides}
use Rattle.fetch_store.proofs.Members.{cases_in, first_in, later_in, none_in}

pub small : (i w : ℕ) → i < w → i % w ≡ i
small i w low =
    let same : 0 * w + i ≡ i = omega arith in
    subst (λ (n : ℕ). n % w ≡ i) same (mod-mul-add 0 w i low)

pub mod_within : (k w : ℕ) → 0 < w → k % w ≤ k
mod_within k w some =
    ⊎_elim
    (λ (low : k < w). let same = small k w low in at_most (k % w) k same)
    (λ (high : w ≤ k). let below = mod_below k w some in less (k % w) w k below high)
    (cases_lt k w)
  where
    at_most : (r k : ℕ) → r ≡ k → r ≤ k
    at_most r k same = omega arith

    less : (r w k : ℕ) → r < w → w ≤ k → r ≤ k
    less r w k below high = omega arith

pub below_both : (r k w n l : ℕ) → l ≡ min w n → r < w → r ≤ k → k < n → r < l
below_both r k w n l is below less within = omega arith

pub front_at : {X : Type 0} (xs ys all : List X) → xs ++ ys ≡ all → (k : ℕ) (x : X) → slice_get xs k ≡ Some x → slice_get all k ≡ Some x
front_at {X} xs ys all is k x at = ap (λ (l : List X). slice_get l k) (sym is) ∙ further xs ys k x at
  where
    further : {X : Type 0} (xs ys : List X) (k : ℕ) (x : X) → slice_get xs k ≡ Some x → slice_get (xs ++ ys) k ≡ Some x
    further [] ys k x at = absurd cc
    further (z ∷ xs) ys zero x at = at
    further (z ∷ xs) ys (suc k) x at = further xs ys k x at

pub in_front : {X : Type 0} (xs ys all : List X) → xs ++ ys ≡ all → (k : ℕ) (x : X) → k < length xs → slice_get all k ≡ Some x → slice_get xs k ≡ Some x
in_front {X} xs ys all is k x low at = nearer xs ys k x low (ap (λ (l : List X). slice_get l k) is ∙ at)
  where
    nearer : {X : Type 0} (xs ys : List X) (k : ℕ) (x : X) → k < length xs → slice_get (xs ++ ys) k ≡ Some x → slice_get xs k ≡ Some x
    nearer [] ys k x low at = absurd (omega arith)
    nearer (z ∷ xs) ys zero x low at = at
    nearer (z ∷ xs) ys (suc k) x low at = nearer xs ys k x (omega arith) at

pub same_replicated : {X : Type 0} (n i : ℕ) (x y : X) → slice_get (replicate n x) i ≡ Some y → y ≡ x
same_replicated zero i x y at = absurd cc
same_replicated (suc n) zero x y at = let same : x ≡ y = cc in sym same
same_replicated (suc n) (suc i) x y at = same_replicated n i x y at

pub nothing_at : {X : Type 0} (xs : List X) (j : ℕ) (x : X) → xs ≡ [] → slice_get xs j ≡ Some x → ⊥
nothing_at [] j x is at = absurd cc
nothing_at (y ∷ xs) j x is at = absurd cc

pub first_of : {X : Type 0} (xs : List X) (x : X) → Contains xs x → (y : X) × (slice_get xs 0 ≡ Some y)
first_of [] x h = absurd (none_in x h)
first_of (y ∷ xs) x h = (y, refl)

pub first_some : {X : Type 0} (xs : List X) → (xs ≡ [] → ⊥) → (y : X) × Contains xs y
first_some [] some = absurd (some refl)
first_some (y ∷ xs) some = (y, first_in y xs)

pub in_or_not : (names : List (List ℕ)) (name : List ℕ) → Contains names name ⊎ (Contains names name → ⊥)
in_or_not [] name = inr (λ h. none_in name h)
in_or_not (x ∷ names) name = by (bytes_eq x name) refl (in_or_not names name)
  where
    by : (b : Bool) → bytes_eq x name ≡ b → Contains names name ⊎ (Contains names name → ⊥) → Contains (x ∷ names) name ⊎ (Contains (x ∷ names) name → ⊥)
    by true is rest = inl (subst (λ (y : List ℕ). Contains (y ∷ names) name) (sym ((bytes_eq-Decides x name).0 is)) (first_in name names))
    by false is rest = ⊎_elim
        (λ (later : Contains names name). inl (later_in name x names later))
        (λ (no : Contains names name → ⊥). inr (λ h. ⊎_elim
        (λ (same : x ≡ name). let yes = (bytes_eq-Decides x name).1 same in absurd cc)
        no (cases_in name x names h)))
        rest
