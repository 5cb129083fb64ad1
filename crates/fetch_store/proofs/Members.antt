-- What a list contains.
use Rattle.std.proofs.Common.{◌≡◌, ℕ, zero, suc, ◌<◌, Bool, true, false, cond, List, [], ◌∷◌, length, filter, refl, sym, ap, subst, ◌∙◌, inl, inr, arith, get_or, Contains}
use Rattle.std.specs.Prelude.{◌⊎◌}

pub first_in : {X : Type 0} (x : X) (xs : List X) → Contains (x ∷ xs) x
first_in x xs = (zero, omega arith, refl)

pub later_in : {X : Type 0} (x y : X) (xs : List X) → Contains xs x → Contains (y ∷ xs) x
later_in x y xs h = (suc h.0, omega (arith, h.1), h.2)

pub cases_in : {X : Type 0} (x y : X) (xs : List X) → Contains (y ∷ xs) x → (y ≡ x) ⊎ Contains xs x
cases_in {X} x y xs h = by_index h.0 h.1 h.2
  where
    by_index : (k : ℕ) → k < suc (length xs) → get_or (y ∷ xs) k x ≡ x → (y ≡ x) ⊎ Contains xs x
    by_index zero within found = inl found
    by_index (suc k) within found = inr (k, omega arith, found)

pub none_in : {X : Type 0} (x : X) → Contains [] x → ⊥
none_in x h = absurd (omega (arith, h.1))

either : {A B C : Type 0} → (B → C) → A ⊎ B → A ⊎ C
either f (inl a) = inl a
either f (inr b) = inr (f b)

module _ {X : Type 0} (p : X → Bool) where
  kept_by : (x y : X) (rest : List X) → p x ≡ true → (y ≡ x) ⊎ Contains rest x → (b : Bool) → p y ≡ b → Contains (cond b (y ∷ rest) rest) x
  kept_by x y rest is (inl same) true test = subst (λ (z : X). Contains (z ∷ rest) x) (sym same) (first_in x rest)
  kept_by x y rest is (inl same) false test = let none : false ≡ true = sym test ∙ ap p same ∙ is in absurd (cc)
  kept_by x y rest is (inr later) true test = later_in x y rest later
  kept_by x y rest is (inr later) false test = later

  -- a filter keeps what passes
  pub kept_in : (xs : List X) (x : X) → p x ≡ true → Contains xs x → Contains (filter p xs) x
  kept_in [] x is h = absurd (omega (arith, h.1))
  kept_in (y ∷ xs) x is h = kept_by x y (filter p xs) is (either (kept_in xs x is) (cases_in x y xs h)) (p y) refl

  passed_by : (x y : X) (xs : List X) → (Contains (filter p xs) x → Contains xs x × (p x ≡ true)) → (b : Bool) → p y ≡ b → Contains (cond b (y ∷ filter p xs) (filter p xs)) x → Contains (y ∷ xs) x × (p x ≡ true)
  passed_by x y xs on true test h = at (cases_in x y (filter p xs) h)
    where
      at : (y ≡ x) ⊎ Contains (filter p xs) x → Contains (y ∷ xs) x × (p x ≡ true)
      at (inl same) = (subst (λ (z : X). Contains (y ∷ xs) z) same (first_in y xs), ap p (sym same) ∙ test)
      at (inr later) = (later_in x y xs (on later).0, (on later).1)
  passed_by x y xs on false test h = (later_in x y xs (on h).0, (on h).1)

  -- and nothing else
  pub passed_in : (xs : List X) (x : X) → Contains (filter p xs) x → Contains xs x × (p x ≡ true)
  passed_in [] x h = absurd (omega (arith, h.1))
  passed_in (y ∷ xs) x h = passed_by x y xs (passed_in xs x) (p y) refl h
