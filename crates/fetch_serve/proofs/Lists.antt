-- What lists have, and what is made of them.
use Rattle.std.proofs.Common.{◌≡◌, Bool, true, false, List, [], ◌∷◌, ◌++◌, filter, Option, Some, None, refl, sym, ap, ◌∙◌, subst, inl, inr, Contains}
use Rattle.std.specs.Prelude.{slice_get}
use Rattle.std.specs.List.{cons_option, filter_map, flat_map}
use Rattle.std.specs.List.Sorted.{IsStrictlySortedBy}
use Rattle.fetch_store.specs.Borders.{ids_of}
use Rattle.fetch_base.specs.Id.{id_cmp}
use Rattle.fetch_base.specs.declared.id.ObjectId.{ObjectId}
use Rattle.fetch_store.proofs.Borders.{ids_of-set, same_sets}
use Rattle.fetch_store.proofs.Members.{first_in, later_in, cases_in, none_in}
use Rattle.fetch_serve.proofs.Reached.{keeps}

-- ---- what is made of some

from_one_by : {X Y : Type 0} (f : X → Option Y) (y : Y) (x : X) (xs : List X) (o : Option Y) → f x ≡ o → Contains (cons_option o (filter_map f xs)) y
    → (Contains (filter_map f xs) y → (z : X) × Contains xs z × (f z ≡ Some y)) → (z : X) × Contains (x ∷ xs) z × (f z ≡ Some y)
from_one_by f y x xs None is h again = let o = again h in (o.0, later_in o.0 x xs o.1, o.2)
from_one_by f y x xs (Some w) is h again =
    elim (cases_in y w (filter_map f xs) h) [
      | inl same ↦ (x, first_in x xs, is ∙ ap (λ v. Some v) same)
      | inr later ↦ (let o = again later in (o.0, later_in o.0 x xs o.1, o.2))
    ]

-- what is made of some is made of one of them
pub from_one : {X Y : Type 0} (f : X → Option Y) (y : Y) (xs : List X) → Contains (filter_map f xs) y → (x : X) × Contains xs x × (f x ≡ Some y)
from_one f y [] h = absurd (none_in y h)
from_one f y (x ∷ xs) h = from_one_by f y x xs (f x) refl h (from_one f y xs)

-- ---- what passes no test

no_items : {X : Type 0} (x : X) (xs : List X) → xs ≡ [] → Contains xs x → ⊥
no_items x xs none h = none_in x (subst (λ ys. Contains ys x) none h)

fails_by : {X : Type 0} (p : X → Bool) (x : X) (xs : List X) (b : Bool) → p x ≡ b → filter p xs ≡ [] → Contains xs x → p x ≡ false
fails_by p x xs true is none h = absurd (no_items x (filter p xs) none (keeps p x xs h is))
fails_by p x xs false is none h = is

-- what none of a list passes, each fails
pub fails : {X : Type 0} (p : X → Bool) (x : X) (xs : List X) → filter p xs ≡ [] → Contains xs x → p x ≡ false
fails p x xs none h = fails_by p x xs (p x) refl none h

pub none_first : {X : Type 0} (xs : List X) → slice_get xs 0 ≡ None → xs ≡ []
none_first [] e = refl
none_first (x ∷ xs) e = absurd (cc)

-- ---- ascending ids

-- two ascending lists with the same ids are one
pub same_ids : (xs ys : List ObjectId) → IsStrictlySortedBy id_cmp xs → IsStrictlySortedBy id_cmp ys → ((id : ObjectId) → Contains xs id → Contains ys id) → ((id : ObjectId) → Contains ys id → Contains xs id) → xs ≡ ys
same_ids xs ys rise rise' f g = sym (ids_of-set xs rise) ∙ ap ids_of (same_sets xs ys f g) ∙ ids_of-set ys rise'

-- ---- the same function of each

pub each_same : {X Y : Type 0} (f g : X → List Y) (xs : List X) → ((x : X) → f x ≡ g x) → flat_map f xs ≡ flat_map g xs
each_same f g [] same = refl
each_same f g (x ∷ xs) same = ap (λ l. l ++ flat_map f xs) (same x) ∙ ap (λ l. g x ++ l) (each_same f g xs same)
