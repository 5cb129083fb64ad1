-- What stands at which place of a list.
use Rattle.std.proofs.Common.{◌≡◌, ◌≢◌, ◌⊎◌, ℕ, zero, suc, ◌<◌, List, [], ◌∷◌, ◌++◌, length, map, set, take, Option, Some, None, refl, sym, ap, ◌∙◌, inl, inr, ⊎_elim, arith}
use Rattle.std.specs.Prelude.{slice_get}
use Rattle.std.proofs.lemmas.Option.{slice_get_within}

pub same : {X : Type 0} (o : Option X) (x y : X) → o ≡ Some x → o ≡ Some y → x ≡ y
same o x y p q = cc (p, q)

pub not_both : {X : Type 0} (o : Option X) (x : X) → o ≡ Some x → o ≡ None → ⊥
not_both o x p q = absurd (cc (p, q))

-- what stands in a list of which one place was written
pub set_cases : {X : Type 0} (xs : List X) (i : ℕ) (y : X) (k : ℕ) (x : X) → slice_get (set xs i y) k ≡ Some x → ((k ≡ i) × (x ≡ y)) ⊎ ((k ≢ i) × (slice_get xs k ≡ Some x))
set_cases [] i y k x is = absurd cc
set_cases (z ∷ zs) zero y zero x is = inl (refl, cc)
set_cases (z ∷ zs) zero y (suc k) x is = inr (λ e. absurd cc, is)
set_cases (z ∷ zs) (suc i) y zero x is = inr (λ e. absurd cc, is)
set_cases (z ∷ zs) (suc i) y (suc k) x is =
    ⊎_elim (λ (h : (k ≡ i) × (x ≡ y)). inl (ap suc h.0, h.1)) (λ (h : (k ≢ i) × (slice_get zs k ≡ Some x)). inr (λ e. h.0 (cc e), h.1)) (set_cases zs i y k x is)

-- what a value at a place of a mapped list comes from
pub unmapped : {X Y : Type 0} (f : X → Y) (xs : List X) (i : ℕ) (y : Y) → slice_get (map f xs) i ≡ Some y → (x : X) × (slice_get xs i ≡ Some x) × (f x ≡ y)
unmapped f [] i y is = absurd cc
unmapped f (x ∷ xs) zero y is = (x, refl, cc)
unmapped f (x ∷ xs) (suc i) y is = unmapped f xs i y is

pub mapped_at : {X Y : Type 0} (f : X → Y) (xs : List X) (i : ℕ) (x : X) → slice_get xs i ≡ Some x → slice_get (map f xs) i ≡ Some (f x)
mapped_at f [] i x at = absurd cc
mapped_at f (y ∷ xs) zero x at = let e : y ≡ x = cc in ap (λ z. Some (f z)) e
mapped_at f (y ∷ xs) (suc i) x at = mapped_at f xs i x at

-- lists that a function maps alike have at each place what it maps alike
pub mapped_same : {X Y : Type 0} (f : X → Y) (xs ys : List X) (i : ℕ) (x y : X) → map f xs ≡ map f ys → slice_get xs i ≡ Some x → slice_get ys i ≡ Some y → f x ≡ f y
mapped_same {X} {Y} f xs ys i x y is x_at y_at = same (slice_get (map f ys) i) (f x) (f y) (ap (λ (zs : List Y). slice_get zs i) (sym is) ∙ mapped_at f xs i x x_at) (mapped_at f ys i y y_at)

-- there is something below the length
pub there : {X : Type 0} (xs : List X) (i : ℕ) → i < length xs → (x : X) × (slice_get xs i ≡ Some x)
there [] i lt = absurd (omega arith)
there (x ∷ xs) zero lt = (x, refl)
there (x ∷ xs) (suc i) lt = there xs i (omega arith)

-- what comes next of a list stands at the length of what came
pub next_at : {X : Type 0} (front rest all : List X) (x : X) → front ++ x ∷ rest ≡ all → slice_get all (length front) ≡ Some x
next_at {X} front rest all x is = ap (λ (l : List X). slice_get l (length front)) (sym is) ∙ here front
  where
    here : (front : List X) → slice_get (front ++ x ∷ rest) (length front) ≡ Some x
    here [] = refl
    here (y ∷ front) = here front

pub within : {X : Type 0} (xs : List X) (i : ℕ) (x : X) → slice_get xs i ≡ Some x → i < length xs
within xs i x at = slice_get_within xs i x at

-- what was written to the front of a list
pub front_is : {X : Type 0} (n : ℕ) (front rest : List X) → n ≡ length front → take n (front ++ rest) ≡ front
front_is zero [] rest is = refl
front_is zero (x ∷ front) rest is = absurd (omega arith)
front_is (suc n) [] rest is = absurd (omega arith)
front_is (suc n) (x ∷ front) rest is = ap (λ xs. x ∷ xs) (front_is n front rest (omega arith))
