-- Which numbers the views hold, each once.
use Rattle.std.proofs.Common.{◌≡◌, ◌≢◌, ℕ, zero, suc, ◌+◌, ◌<◌, ◌≤◌, ◌&&◌, Bool, true, false, cond, nat_le, nat_lt, List, [], ◌∷◌, ◌++◌, set, refl, sym, ap, arith}
use Rattle.std.proofs.lemmas.Bool.Decides.{nat_tests}
use mathlib.Core.Option.{some, some-injective, some-ne-none}
use lib.ListN.{get_elem?}
use Rattle.fetch_shared.specs.declared.view.Span.{Span}
use Rattle.fetch_shared.specs.declared.view.View.{View}
use Rattle.fetch_shared.specs.declared.view.Stage.{Stage}
use Rattle.fetch_shared.specs.declared.view.Stage.TheVariants.{Resting}
use Rattle.fetch_shared.specs.Numbers.{span, times_in, times_held, Holds}
use Rattle.fetch_shared.specs.LockRule.{own_at, own, held_by, times_over}

pub times_in-le : (n : ℕ) (r : Span) → times_in n r ≤ 1
times_in-le n r = at (nat_le r.first n && nat_lt n r.end)
  where
    at : (b : Bool) → cond b 1 0 ≤ 1
    at true = omega arith
    at false = omega arith

pub times_in-here : (n : ℕ) → times_in n (span n (n + 1)) ≡ 1
times_in-here n = grind (arith, nat_tests)

pub times_in-yes : (n : ℕ) (r : Span) → r.first ≤ n → n < r.end → times_in n r ≡ 1
times_in-yes n r low high = grind (arith, nat_tests)

pub times_in-below : (n : ℕ) (r : Span) → n < r.first → times_in n r ≡ 0
times_in-below n r low = grind (arith, nat_tests)

pub times_in-above : (n : ℕ) (r : Span) → r.end ≤ n → times_in n r ≡ 0
times_in-above n r high = grind (arith, nat_tests)

pub in_range : (n : ℕ) (r : Span) → 0 < times_in n r → (r.first ≤ n) × (n < r.end)
in_range n r inside = grind (arith, nat_tests)

pub times_held-append : (n : ℕ) (xs ys : List Span) → times_held n (xs ++ ys) ≡ times_held n xs + times_held n ys
times_held-append n [] ys = omega arith
times_held-append n (x ∷ xs) ys = omega (arith, times_held-append n xs ys)

pub times_over-set : (n : ℕ) (vs : List View) (i : ℕ) (v w : View) → get_elem? vs i ≡ some v → times_over n (set vs i w) + times_held n (held_by v) ≡ times_over n vs + times_held n (held_by w)
times_over-set n [] i v w at = absurd (some-ne-none v (sym at))
times_over-set n (x ∷ xs) zero v w at = let same : times_held n (held_by x) ≡ times_held n (held_by v) = ap (λ (u : View). times_held n (held_by u)) (some-injective x v at) in omega arith
times_over-set n (x ∷ xs) (suc i) v w at = omega (arith, times_over-set n xs i v w at)

pub times_over-append : (n : ℕ) (vs : List View) (v : View) → times_over n (vs ++ v ∷ []) ≡ times_over n vs + times_held n (held_by v)
times_over-append n [] v = omega arith
times_over-append n (x ∷ xs) v = omega (arith, times_over-append n xs v)

pub one_of : (n : ℕ) (vs : List View) (i : ℕ) (v : View) → get_elem? vs i ≡ some v → times_held n (held_by v) ≤ times_over n vs
one_of n [] i v at = absurd (some-ne-none v (sym at))
one_of n (x ∷ xs) zero v at = let same : times_held n (held_by x) ≡ times_held n (held_by v) = ap (λ (u : View). times_held n (held_by u)) (some-injective x v at) in omega arith
one_of n (x ∷ xs) (suc i) v at = omega (arith, one_of n xs i v at)

pub two_of : (n : ℕ) (vs : List View) (i j : ℕ) (v w : View) → i ≢ j → get_elem? vs i ≡ some v → get_elem? vs j ≡ some w → times_held n (held_by v) + times_held n (held_by w) ≤ times_over n vs
two_of n [] i j v w apart at there = absurd (some-ne-none v (sym at))
two_of n (x ∷ xs) zero zero v w apart at there = absurd (apart refl)
two_of n (x ∷ xs) zero (suc j) v w apart at there = let same : times_held n (held_by x) ≡ times_held n (held_by v) = ap (λ (u : View). times_held n (held_by u)) (some-injective x v at) in omega (arith, one_of n xs j w there)
two_of n (x ∷ xs) (suc i) zero v w apart at there = let same : times_held n (held_by x) ≡ times_held n (held_by w) = ap (λ (u : View). times_held n (held_by u)) (some-injective x w there) in omega (arith, one_of n xs i v at)
two_of n (x ∷ xs) (suc i) (suc j) v w apart at there = omega (arith, two_of n xs i j v w (λ e. apart (ap suc e)) at there)

-- the numbers of a range, cut after the first `count`
pub times_in-cut : (n first count end : ℕ) → 1 ≤ count → first + count ≤ end
    → times_in n (span (first + count) end) + (times_in n (span first (first + 1)) + times_in n (span (first + 1) (first + count))) ≡ times_in n (span first end)
times_in-cut n first count end more room = grind (arith, nat_tests)

pub times_in-first : (n end : ℕ) → 1 ≤ end → times_in n (span 0 1) + times_in n (span 1 end) ≡ times_in n (span 0 end)
times_in-first n end more = grind (arith, nat_tests)

-- a view at rest holds its own number
pub holds_own : (v : View) → v.stage ≡ Resting → Holds (own v) v.number
holds_own v is =
    let here = times_in-here v.number in
    let same : times_held v.number (own v) ≡ times_held v.number (own_at v Resting) = ap (λ (st : Stage). times_held v.number (own_at v st)) is in
    omega arith
