-- What stands at which place of a list.
use Rattle.std.proofs.Common.{◌≡◌, ℕ, zero, suc, List, [], ◌∷◌, length, map, arith, Option, Some, None, refl, sym, ap, ◌∙◌}
use Rattle.std.specs.Prelude.{slice_get}
use Rattle.std.specs.List.{Contains, cons_option, filter_map}
use Rattle.std.proofs.lemmas.Option.{get_or_from_slice_get, slice_get_within, slice_get_read}

pub contains_at : {X : Type 0} (xs : List X) (k : ℕ) (x : X) → slice_get xs k ≡ Some x → Contains xs x
contains_at xs k x at = (k, slice_get_within xs k x at, get_or_from_slice_get xs k x x at)

pub at_contains : {X : Type 0} (xs : List X) (x : X) → Contains xs x → (k : ℕ) × (slice_get xs k ≡ Some x)
at_contains xs x h = (h.0, slice_get_read xs (length xs) h.0 x refl h.1 (sym h.2))

pub mapped_at : {X Y : Type 0} (f : X → Y) (xs : List X) (i : ℕ) (x : X) → slice_get xs i ≡ Some x → slice_get (map f xs) i ≡ Some (f x)
mapped_at f [] i x at = absurd cc
mapped_at f (y ∷ xs) zero x at = let e : y ≡ x = cc in ap (λ z. Some (f z)) e
mapped_at f (y ∷ xs) (suc i) x at = mapped_at f xs i x at

-- what a value of a filtered list comes from
pub record IsFrom {X Y : Type 0} (f : X → Option Y) (xs : List X) (y : Y) : Type 0 where
  pub x : X
  pub among : Contains xs x
  pub is : f x ≡ Some y

next : {X Y : Type 0} (f : X → Option Y) (z : X) (xs : List X) (y : Y) → IsFrom f xs y → IsFrom f (z ∷ xs) y
next f z xs y h = record { x = h.x; among = (suc h.among.0, omega (arith, h.among.1), h.among.2); is = h.is }

from_cons : {X Y : Type 0} (f : X → Option Y) (z : X) (xs : List X) (o : Option Y) → f z ≡ o → ((i : ℕ) (y : Y) → slice_get (filter_map f xs) i ≡ Some y → IsFrom f xs y) → (i : ℕ) (y : Y) → slice_get (cons_option o (filter_map f xs)) i ≡ Some y → IsFrom f (z ∷ xs) y
from_cons f z xs None is h i y at = next f z xs y (h i y at)
from_cons f z xs (Some w) is h zero y at = let same : w ≡ y = cc in record { x = z; among = (0, omega arith, refl); is = is ∙ ap (λ v. Some v) same }
from_cons f z xs (Some w) is h (suc i) y at = next f z xs y (h i y at)

pub from : {X Y : Type 0} (f : X → Option Y) (xs : List X) (i : ℕ) (y : Y) → slice_get (filter_map f xs) i ≡ Some y → IsFrom f xs y
from f [] i y at = absurd cc
from f (z ∷ xs) i y at = from_cons f z xs (f z) refl (from f xs) i y at

-- what a value at a place of a mapped list comes from
pub unmapped : {X Y : Type 0} (f : X → Y) (xs : List X) (i : ℕ) (y : Y) → slice_get (map f xs) i ≡ Some y → (x : X) × (slice_get xs i ≡ Some x) × (f x ≡ y)
unmapped f [] i y is = absurd cc
unmapped f (x ∷ xs) zero y is = (x, refl, cc)
unmapped f (x ∷ xs) (suc i) y is = unmapped f xs i y is
