-- Ascending lists, from their last element.
use Rattle.std.proofs.Common.{◌≡◌, List, [], ◌∷◌, ◌++◌}
use Rattle.std.specs.List.{AllByRecursion}
use Rattle.std.specs.List.Sorted.{IsStrictlySortedBy}
use Rattle.std.specs.Cmp.{IsTotalOrder}
use Rattle.std.specs.declared.cmp.Ordering.{Ordering}
use Rattle.std.specs.declared.cmp.Ordering.TheVariants.{Less}

module _ {K : Type 0} {R : K → K → Ordering} (o : IsTotalOrder R) where
  below_more : (k : K) (ks : List K) (q : K) → AllByRecursion (λ y. R k y ≡ Less) ks → R k q ≡ Less → AllByRecursion (λ y. R k y ≡ Less) (ks ++ q ∷ [])
  below_more k [] q all one = (one, tt)
  below_more k (x ∷ ks) q all one = (all.0, below_more k ks q all.1 one)

  is_last : (k : K) (ks : List K) (last : K) → AllByRecursion (λ y. R k y ≡ Less) (ks ++ last ∷ []) → R k last ≡ Less
  is_last k [] last all = all.0
  is_last k (x ∷ ks) last all = is_last k ks last all.1

  pub sorted_more : (ks : List K) (last k : K) → IsStrictlySortedBy R (ks ++ last ∷ []) → R last k ≡ Less → IsStrictlySortedBy R ((ks ++ last ∷ []) ++ k ∷ [])
  unfolding IsStrictlySortedBy
  sorted_more [] last k s less = ((less, tt), (tt, tt))
  sorted_more (x ∷ ks) last k s less = (below_more x (ks ++ last ∷ []) k s.0 (o.trans x last k (is_last x ks last s.0) less), sorted_more ks last k s.1 less)

  pub last_below : (ks : List K) (last k : K) → IsStrictlySortedBy R ((ks ++ last ∷ []) ++ k ∷ []) → R last k ≡ Less
  unfolding IsStrictlySortedBy
  last_below [] last k s = s.0.0
  last_below (x ∷ ks) last k s = last_below ks last k s.1

  pub one_sorted : (k : K) → IsStrictlySortedBy R (k ∷ [])
  unfolding IsStrictlySortedBy
  one_sorted k = (tt, tt)

all_front : {X : Type 0} (P : X → Type 0) (xs ys : List X) → AllByRecursion P (xs ++ ys) → AllByRecursion P xs
all_front P [] ys all = tt
all_front P (x ∷ xs) ys all = (all.0, all_front P xs ys all.1)

pub in_front : {X : Type 0} (P : X → Type 0) (xs ys : List X) → AllByRecursion P (xs ++ ys) → AllByRecursion P xs
in_front P xs ys all = all_front P xs ys all

pub behind : {X : Type 0} (P : X → Type 0) (xs ys : List X) → AllByRecursion P (xs ++ ys) → AllByRecursion P ys
behind P [] ys all = all
behind P (x ∷ xs) ys all = behind P xs ys all.1

pub sorted_front : {K : Type 0} (R : K → K → Ordering) (xs ys : List K) → IsStrictlySortedBy R (xs ++ ys) → IsStrictlySortedBy R xs
unfolding IsStrictlySortedBy
sorted_front R [] ys s = tt
sorted_front R (x ∷ xs) ys s = (all_front (λ y. R x y ≡ Less) xs ys s.0, sorted_front R xs ys s.1)

pub all_more : {X : Type 0} (P : X → Type 0) (xs : List X) (x : X) → AllByRecursion P xs → P x → AllByRecursion P (xs ++ x ∷ [])
all_more P [] x all one = (one, tt)
all_more P (y ∷ xs) x all one = (all.0, all_more P xs x all.1 one)

pub last_of : {X : Type 0} (P : X → Type 0) (xs : List X) (x : X) → AllByRecursion P (xs ++ x ∷ []) → P x
last_of P [] x all = all.0
last_of P (y ∷ xs) x all = last_of P xs x all.1
