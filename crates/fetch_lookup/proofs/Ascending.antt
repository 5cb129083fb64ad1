-- What is placed in order ascends, and is what there was.
use Rattle.std.proofs.Common.{◌≡◌, Bool, true, false, ◌||◌, List, [], ◌∷◌, refl, sym, ap, ◌∙◌}
use Rattle.std.specs.Cmp.{IsTotalOrder}
use Rattle.std.specs.BTreeSet.{insert_key}
use Rattle.std.specs.List.{AllByRecursion}
use Rattle.std.specs.List.Sorted.{IsStrictlySortedBy}
use Rattle.std.specs.Ordering.{eq_by_cmp, is_eq, match_ordering, ordering_reverse}
use Rattle.std.specs.declared.cmp.Ordering.{Ordering}
use Rattle.std.specs.declared.cmp.Ordering.TheVariants.{Less, Equal, Greater}
use Rattle.std.specs.Cmp.Lexicographic.{nat_list_cmp_total, options_total}
use Rattle.std.proofs.lemmas.Cmp.{alike_right, nat_cmp_total, on_total, then_total}
use Rattle.fetch_lookup.specs.Ordered.{placed, ascending, is_among, AscendsThrough}
use Rattle.fetch_lookup.specs.SpecOrder.{spec_cmp, operation_rank, mode_rank}

or-front : (a b : Bool) → (a || b) ≡ (a || (a || b))
or-front true b = refl
or-front false b = refl

or-swap : (a b c : Bool) → (a || (b || c)) ≡ (b || (a || c))
or-swap true true c = refl
or-swap true false c = refl
or-swap false b c = refl

or-turn : (a b c : Bool) → ((a || b) || c) ≡ (b || (a || c))
or-turn true true c = refl
or-turn true false c = refl
or-turn false b c = refl

or-none : (a : Bool) → a ≡ (a || false)
or-none true = refl
or-none false = refl

module _ {K : Type 0} {R : K → K → Ordering} (o : IsTotalOrder R) where
  below-all : (k y : K) (ys : List K) → R k y ≡ Less → AllByRecursion (λ z. R y z ≡ Less) ys → AllByRecursion (λ z. R k z ≡ Less) ys
  below-all k y [] less all = tt
  below-all k y (z ∷ ys) less all = (o.trans k y z less all.0, below-all k y ys less all.1)

  all-by : (P : K → Type 0) (k y : K) (ys : List K) (r : Ordering) → P k → P y → AllByRecursion P ys → AllByRecursion P (insert_key R ys k) → AllByRecursion P (match_ordering r (k ∷ y ∷ ys) (y ∷ ys) (y ∷ insert_key R ys k))
  all-by P k y ys Less pk py ps qs = (pk, (py, ps))
  all-by P k y ys Equal pk py ps qs = (py, ps)
  all-by P k y ys Greater pk py ps qs = (py, qs)

  all-insert : (P : K → Type 0) (k : K) (ys : List K) → P k → AllByRecursion P ys → AllByRecursion P (insert_key R ys k)
  all-insert P k [] pk ps = (pk, tt)
  all-insert P k (y ∷ ys) pk ps = all-by P k y ys (R k y) pk ps.0 ps.1 (all-insert P k ys pk ps.1)

  sorted-by : (k y : K) (ys : List K) (r : Ordering) → R k y ≡ r → IsStrictlySortedBy R (y ∷ ys) → IsStrictlySortedBy R (insert_key R ys k) → IsStrictlySortedBy R (match_ordering r (k ∷ y ∷ ys) (y ∷ ys) (y ∷ insert_key R ys k))
  unfolding IsStrictlySortedBy
  sorted-by k y ys Less is s t = ((is, below-all k y ys is s.0), s)
  sorted-by k y ys Equal is s t = s
  sorted-by k y ys Greater is s t = (all-insert (λ z. R y z ≡ Less) k ys (o.antisymm y k ∙ ap ordering_reverse is) s.0, t)

  sorted-insert : (k : K) (ys : List K) → IsStrictlySortedBy R ys → IsStrictlySortedBy R (insert_key R ys k)
  unfolding IsStrictlySortedBy
  sorted-insert k [] s = (tt, tt)
  sorted-insert k (y ∷ ys) s = sorted-by k y ys (R k y) refl s (sorted-insert k ys s.1)

  sorted-placed : (keys xs : List K) → IsStrictlySortedBy R keys → IsStrictlySortedBy R (placed R keys xs)
  unfolding placed
  sorted-placed keys [] s = s
  sorted-placed keys (x ∷ xs) s = sorted-placed (insert_key R keys x) xs (sorted-insert x keys s)

  among-by : (x k y : K) (ys : List K) (r : Ordering) → R k y ≡ r → is_among R (insert_key R ys k) x ≡ (eq_by_cmp R x k || is_among R ys x)
      → is_among R (match_ordering r (k ∷ y ∷ ys) (y ∷ ys) (y ∷ insert_key R ys k)) x ≡ (eq_by_cmp R x k || (eq_by_cmp R x y || is_among R ys x))
  among-by x k y ys Less is more = refl
  among-by x k y ys Equal is more =
      or-front (eq_by_cmp R x y) (is_among R ys x) ∙ ap (λ b. b || (eq_by_cmp R x y || is_among R ys x)) (sym (ap is_eq (alike_right o k y x is)))
  among-by x k y ys Greater is more = ap (λ b. eq_by_cmp R x y || b) more ∙ or-swap (eq_by_cmp R x y) (eq_by_cmp R x k) (is_among R ys x)

  among-insert : (x k : K) (ys : List K) → is_among R (insert_key R ys k) x ≡ (eq_by_cmp R x k || is_among R ys x)
  among-insert x k [] = refl
  among-insert x k (y ∷ ys) = among-by x k y ys (R k y) refl (among-insert x k ys)

  among-placed : (x : K) (keys xs : List K) → is_among R (placed R keys xs) x ≡ (is_among R keys x || is_among R xs x)
  unfolding placed
  among-placed x keys [] = or-none (is_among R keys x)
  among-placed x keys (y ∷ xs) =
      among-placed x (insert_key R keys y) xs ∙ ap (λ b. b || is_among R xs x) (among-insert x y keys)
      ∙ or-turn (eq_by_cmp R x y) (is_among R keys x) (is_among R xs x)

  nothing-sorted : IsStrictlySortedBy R []
  unfolding IsStrictlySortedBy
  nothing-sorted = tt

  pub ascends : (values : List K) → AscendsThrough R values (ascending R values)
  ascends values = record { ascends = sorted-placed [] values nothing-sorted; same = λ x. among-placed x [] values }

pub spec_total : IsTotalOrder spec_cmp
spec_total =
    then_total (on_total (λ s. operation_rank s.operation) nat_cmp_total)
    (then_total (on_total (λ s. mode_rank s.mode) nat_cmp_total)
    (then_total (on_total (λ s. s.source) (options_total nat_list_cmp_total)) (on_total (λ s. s.destination) (options_total nat_list_cmp_total))))
