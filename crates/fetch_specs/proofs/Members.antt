-- What is in a list that was filtered or mapped.
use Rattle.std.proofs.Common.{◌≡◌, zero, suc, Bool, true, cond, ◌⊎◌, List, [], ◌∷◌, ◌++◌, Option, Some, None, refl, sym, ap, subst, ◌∙◌, inl, inr, arith}
use Rattle.std.specs.List.{Contains, filter, filter_map}
use Rattle.std.proofs.lemmas.List.Elements.{All-contains, filter_passes, filter_map-append, Contains-append_left, Contains-append_right, Contains-append_cases}
use Rattle.fetch_specs.proofs.Keys.{filter-append}

pub none_in : {X : Type 0} (x : X) → Contains [] x → ⊥
none_in x (k, less, is) = omega (arith, less)

pub first_in : {X : Type 0} (x : X) (xs : List X) → Contains (x ∷ xs) x
first_in x xs = (0, omega arith, refl)

pub only : {X : Type 0} (y x : X) → Contains (y ∷ []) x → y ≡ x
only y x (zero, less, is) = is
only y x (suc k, less, is) = absurd (omega (arith, less))

pub first_or_rest : {X : Type 0} (y : X) (ys : List X) (x : X) → Contains (y ∷ ys) x → (y ≡ x) ⊎ Contains ys x
first_or_rest {X = X} y ys x there = step (Contains-append_cases (y ∷ []) ys x there)
  where
    step : Contains (y ∷ []) x ⊎ Contains ys x → (y ≡ x) ⊎ Contains ys x
    step (inl one) = inl (only y x one)
    step (inr rest) = inr rest

pub in_rest : {X : Type 0} (y : X) (ys : List X) (x : X) → Contains ys x → Contains (y ∷ ys) x
in_rest y ys x there = Contains-append_right (y ∷ []) ys x there

-- what a map of some keeps comes from an element
pub from_filter_map : {X Y : Type 0} (f : X → Option Y) (xs : List X) (y : Y) → Contains (filter_map f xs) y → (x : X) × Contains xs x × (f x ≡ Some y)
from_filter_map f [] y there = absurd (none_in y there)
from_filter_map {X = X} {Y = Y} f (x ∷ xs) y there =
    step (Contains-append_cases (filter_map f (x ∷ [])) (filter_map f xs) y (subst (λ (ys : List Y). Contains ys y) (filter_map-append f (x ∷ []) xs) there)) (from_filter_map f xs y)
  where
    here : (o : Option Y) → f x ≡ o → Contains (filter_map f (x ∷ [])) y → f x ≡ Some y
    here None is one =
        let e : filter_map f (x ∷ []) ≡ [] = rw is refl in
        absurd (none_in y (subst (λ (ys : List Y). Contains ys y) e one))
    here (Some z) is one =
        let e : filter_map f (x ∷ []) ≡ z ∷ [] = rw is refl in
        is ∙ ap Some (only z y (subst (λ (ys : List Y). Contains ys y) e one))

    step : Contains (filter_map f (x ∷ [])) y ⊎ Contains (filter_map f xs) y → (Contains (filter_map f xs) y → (w : X) × Contains xs w × (f w ≡ Some y)) → (w : X) × Contains (x ∷ xs) w × (f w ≡ Some y)
    step (inl one) on = (x, first_in x xs, here (f x) refl one)
    step (inr rest) on = let w = on rest in (w.0, in_rest x xs w.0 w.1, w.2)

pub to_filter_map : {X Y : Type 0} (f : X → Option Y) (xs : List X) (x : X) (y : Y) → Contains xs x → f x ≡ Some y → Contains (filter_map f xs) y
to_filter_map f [] x y there is = absurd (none_in x there)
to_filter_map {X = X} {Y = Y} f (z ∷ xs) x y there is =
    subst (λ (ys : List Y). Contains ys y) (sym (filter_map-append f (z ∷ []) xs)) (step (first_or_rest z xs x there) (λ rest. to_filter_map f xs x y rest is))
  where
    step : (z ≡ x) ⊎ Contains xs x → (Contains xs x → Contains (filter_map f xs) y) → Contains (filter_map f (z ∷ []) ++ filter_map f xs) y
    step (inl same) on =
        let e : filter_map f (z ∷ []) ≡ y ∷ [] = rw (ap f same ∙ is) refl in
        Contains-append_left (filter_map f (z ∷ [])) (filter_map f xs) y (subst (λ (ys : List Y). Contains ys y) (sym e) (first_in y []))
    step (inr rest) on = Contains-append_right (filter_map f (z ∷ [])) (filter_map f xs) y (on rest)

pub to_filter : {X : Type 0} (p : X → Bool) (xs : List X) (x : X) → Contains xs x → p x ≡ true → Contains (filter p xs) x
to_filter p [] x there is = absurd (none_in x there)
to_filter {X = X} p (z ∷ xs) x there is =
    subst (λ (ys : List X). Contains ys x) (sym (filter-append p (z ∷ []) xs)) (step (first_or_rest z xs x there) (λ rest. to_filter p xs x rest is))
  where
    step : (z ≡ x) ⊎ Contains xs x → (Contains xs x → Contains (filter p xs) x) → Contains (filter p (z ∷ []) ++ filter p xs) x
    step (inl same) on =
        let e : filter p (z ∷ []) ≡ z ∷ [] = ap (λ (t : Bool). cond t (z ∷ []) []) (ap p same ∙ is) in
        Contains-append_left (filter p (z ∷ [])) (filter p xs) x (subst (λ (ys : List X). Contains ys x) (sym e) (subst (λ (w : X). Contains (w ∷ []) x) (sym same) (first_in x [])))
    step (inr rest) on = Contains-append_right (filter p (z ∷ [])) (filter p xs) x (on rest)

pub passed : {X : Type 0} (p : X → Bool) (xs : List X) (x : X) → Contains (filter p xs) x → p x ≡ true
passed p xs x there = All-contains (λ y. p y ≡ true) (filter p xs) x (filter_passes p xs) there
