-- A full name has no space.
use Rattle.std.proofs.Common.{◌≡◌, ℕ, Bool, true, false, cond, not, ◌&&◌, eqb, List, [], ◌∷◌, subst, refl, ap}
use Rattle.std.specs.Prelude.{IsTrue}
use Rattle.std.specs.List.{list_all, slice_split, onto_first}
use Rattle.std.proofs.lemmas.Bool.{and_parts, eqb-true}
use Rattle.fetch_specs.specs.Names.{may_stand, is_component, components, is_name, is_full_name}
use Rattle.fetch_base.specs.Lines.{IsWithout}

abbrev is_else : ℕ → Bool
is_else b = not (eqb b 32)

both : (t u : Bool) → t ≡ true → u ≡ true → (t && u) ≡ true
both true true a b = refl
both true false a b = b
both false u a b = a

-- what may stand in a name is above 32
stands_else : (b : ℕ) → may_stand false b ≡ true → is_else b ≡ true
stands_else b stands = by_test (eqb b 32) refl
  where
    by_test : (t : Bool) → eqb b 32 ≡ t → not t ≡ true
    by_test false is = refl
    by_test true is = absurd (let h : may_stand false 32 ≡ true = subst (λ (x : ℕ). may_stand false x ≡ true) (eqb-true b 32 is) stands in cc)

all_else : (c : List ℕ) → list_all (may_stand false) c ≡ true → list_all is_else c ≡ true
all_else [] all = refl
all_else (b ∷ c) all =
    let t = and_parts (may_stand false b) (list_all (may_stand false) c) all in
    both (is_else b) (list_all is_else c) (stands_else b t.0) (all_else c t.1)

first_of_six : (t u v w x y : Bool) → (t && u && v && w && x && y) ≡ true → t ≡ true
first_of_six true u v w x y is = refl
first_of_six false u v w x y is = absurd cc

first_of_three : (t u v : Bool) → (t && u && v) ≡ true → t ≡ true
first_of_three true u v is = refl
first_of_three false u v is = absurd cc

in_component : (c : List ℕ) → is_component false c ≡ true → list_all is_else c ≡ true
in_component c is = all_else c (first_of_six (list_all (may_stand false) c) _ _ _ _ _ is)

in_components : (parts : List (List ℕ)) → list_all (is_component false) parts ≡ true → list_all (list_all is_else) parts ≡ true
in_components [] all = refl
in_components (c ∷ parts) all =
    let t = and_parts (is_component false c) (list_all (is_component false) parts) all in
    both (list_all is_else c) (list_all (list_all is_else) parts) (in_component c t.0) (in_components parts t.1)

-- a byte put onto the first part
first_parts : (x : ℕ) (parts : List (List ℕ)) → list_all (list_all is_else) (onto_first x parts) ≡ true → (is_else x ≡ true) × (list_all (list_all is_else) parts ≡ true)
first_parts x [] all = ((and_parts (is_else x) true (and_parts (is_else x && true) true all).0).0, refl)
first_parts x (c ∷ parts) all =
    let t = and_parts (is_else x && list_all is_else c) (list_all (list_all is_else) parts) all in
    let u = and_parts (is_else x) (list_all is_else c) t.0 in
    (u.0, both (list_all is_else c) (list_all (list_all is_else) parts) u.1 t.1)

whole : (text : List ℕ) → list_all (list_all is_else) (slice_split (λ b. eqb b 47) text) ≡ true → list_all is_else text ≡ true
whole [] all = refl
whole (x ∷ text) all = step (eqb x 47) refl all (whole text)
  where
    step : (t : Bool) → eqb x 47 ≡ t → list_all (list_all is_else) (cond t ([] ∷ slice_split (λ b. eqb b 47) text) (onto_first x (slice_split (λ b. eqb b 47) text))) ≡ true
        → (list_all (list_all is_else) (slice_split (λ b. eqb b 47) text) ≡ true → list_all is_else text ≡ true) → (is_else x && list_all is_else text) ≡ true
    step true is h rest = both (is_else x) (list_all is_else text) (ap is_else (eqb-true x 47 is)) (rest h)
    step false is h rest =
        let p = first_parts x (slice_split (λ b. eqb b 47) text) h in
        both (is_else x) (list_all is_else text) p.0 (rest p.1)

pub spaceless_name : (name : List ℕ) → IsTrue (is_full_name name) → IsWithout 32 name
unfolding is_full_name is_name
spaceless_name name is =
    let named = and_parts (is_name false name) _ is in
    whole name (in_components (components name) (first_of_three (list_all (is_component false) (components name)) _ _ named.0))
