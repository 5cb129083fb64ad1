-- A loop over a list that takes what each element gives.
use Rattle.std.proofs.Common.{◌≡◌, ℕ, suc, ◌+◌, ◌<◌, ◌≤◌, Bool, true, false, cond, List, [], ◌∷◌, ◌++◌, length, get_or, drop, Option, Some, None, refl, sym, ap, ◌∙◌, arith, append_assoc, append-nil, drop-cons, add-one, ◌-◌, ◌^◌, length-append}
use Rattle.std.specs.Prelude.{min}
use Rattle.std.specs.List.{flat_map, filter}
use Rattle.std.proofs.lemmas.List.{at_drop_all}
use Rattle.fetch_config.specs.Lookups.{last_or, explicit}

pub drop_item : {A : Type 0} (xs : List A) (i : ℕ) (x : A) → i < length xs → x ≡ get_or xs i x → drop i xs ≡ x ∷ drop (i + 1) xs
drop_item xs i x lt is = drop-cons xs i x lt ∙ ap (λ y. y ∷ drop (suc i) xs) (sym is) ∙ ap (λ n. x ∷ drop n xs) (sym (add-one i))

-- bytes written: what is written, and what the rest gives, are the whole
pub emit-step : {A B : Type 0} (f : A → List B) (xs : List A) (i : ℕ) (x : A) (out new whole : List B) → i < length xs → x ≡ get_or xs i x → new ≡ out ++ f x
    → out ++ flat_map f (drop i xs) ≡ whole → new ++ flat_map f (drop (i + 1) xs) ≡ whole
emit-step f xs i x out new whole lt is more so_far =
    ap (λ o. o ++ flat_map f (drop (i + 1) xs)) more
    ∙ append_assoc out (f x) (flat_map f (drop (i + 1) xs))
    ∙ ap (λ ys. out ++ flat_map f ys) (sym (drop_item xs i x lt is)) ∙ so_far

pub emit-end : {A B : Type 0} (f : A → List B) (xs : List A) (i : ℕ) (out whole : List B) → length xs ≤ i → out ++ flat_map f (drop i xs) ≡ whole → out ≡ whole
emit-end f xs i out whole over so_far = sym (append-nil out) ∙ sym (at_drop_all (λ ys. out ++ flat_map f ys) xs i over) ∙ so_far

pub last_or-append : {A : Type 0} (o : Option A) (xs ys : List A) → last_or o (xs ++ ys) ≡ last_or (last_or o xs) ys
unfolding last_or
last_or-append o [] ys = refl
last_or-append o (x ∷ xs) ys = last_or-append (Some x) xs ys

-- the last one so far, and the last of what the rest gives
pub last-step : {A B : Type 0} (f : A → List B) (xs : List A) (i : ℕ) (x : A) (o new whole : Option B) → i < length xs → x ≡ get_or xs i x → new ≡ last_or o (f x)
    → last_or o (flat_map f (drop i xs)) ≡ whole → last_or new (flat_map f (drop (i + 1) xs)) ≡ whole
last-step f xs i x o new whole lt is more so_far =
    ap (λ o. last_or o (flat_map f (drop (i + 1) xs))) more
    ∙ sym (last_or-append o (f x) (flat_map f (drop (i + 1) xs)))
    ∙ ap (λ ys. last_or o (flat_map f ys)) (sym (drop_item xs i x lt is)) ∙ so_far

pub last-end : {A B : Type 0} (f : A → List B) (xs : List A) (i : ℕ) (o whole : Option B) → length xs ≤ i → last_or o (flat_map f (drop i xs)) ≡ whole → o ≡ whole
unfolding last_or
last-end f xs i o whole over so_far = sym (at_drop_all (λ ys. last_or o (flat_map f ys)) xs i over) ∙ so_far

explicit-append : (xs ys : List (Option (List ℕ))) → explicit (xs ++ ys) ≡ explicit xs ++ explicit ys
unfolding explicit
explicit-append [] ys = refl
explicit-append (None ∷ xs) ys = explicit-append xs ys
explicit-append (Some x ∷ xs) ys = ap (λ zs. x ∷ zs) (explicit-append xs ys)

no_explicit : explicit [] ≡ []
unfolding explicit
no_explicit = refl

-- the same of the entries that aren't implicit
pub text-step : {A : Type 0} (f : A → List (Option (List ℕ))) (xs : List A) (i : ℕ) (x : A) (o new whole : Option (List ℕ)) → i < length xs → x ≡ get_or xs i x → new ≡ last_or o (explicit (f x))
    → last_or o (explicit (flat_map f (drop i xs))) ≡ whole → last_or new (explicit (flat_map f (drop (i + 1) xs))) ≡ whole
text-step f xs i x o new whole lt is more so_far =
    ap (λ o. last_or o (explicit (flat_map f (drop (i + 1) xs)))) more
    ∙ sym (last_or-append o (explicit (f x)) (explicit (flat_map f (drop (i + 1) xs))))
    ∙ ap (last_or o) (sym (explicit-append (f x) (flat_map f (drop (i + 1) xs))))
    ∙ ap (λ ys. last_or o (explicit (flat_map f ys))) (sym (drop_item xs i x lt is)) ∙ so_far

pub text-end : {A : Type 0} (f : A → List (Option (List ℕ))) (xs : List A) (i : ℕ) (o whole : Option (List ℕ)) → length xs ≤ i → last_or o (explicit (flat_map f (drop i xs))) ≡ whole → o ≡ whole
unfolding last_or explicit
text-end f xs i o whole over so_far = sym (at_drop_all (λ ys. last_or o (explicit (flat_map f ys))) xs i over) ∙ so_far

pub collect-step : {A : Type 0} (f : A → List (Option (List ℕ))) (xs : List A) (i : ℕ) (x : A) (out new whole : List (List ℕ)) → i < length xs → x ≡ get_or xs i x → new ≡ out ++ explicit (f x)
    → out ++ explicit (flat_map f (drop i xs)) ≡ whole → new ++ explicit (flat_map f (drop (i + 1) xs)) ≡ whole
collect-step f xs i x out new whole lt is more so_far =
    ap (λ o. o ++ explicit (flat_map f (drop (i + 1) xs))) more
    ∙ append_assoc out (explicit (f x)) (explicit (flat_map f (drop (i + 1) xs)))
    ∙ ap (λ ys. out ++ ys) (sym (explicit-append (f x) (flat_map f (drop (i + 1) xs))))
    ∙ ap (λ ys. out ++ explicit (flat_map f ys)) (sym (drop_item xs i x lt is)) ∙ so_far

pub collect-end : {A : Type 0} (f : A → List (Option (List ℕ))) (xs : List A) (i : ℕ) (out whole : List (List ℕ)) → length xs ≤ i → out ++ explicit (flat_map f (drop i xs)) ≡ whole → out ≡ whole
collect-end f xs i out whole over so_far =
    sym (append-nil out) ∙ ap (λ ys. out ++ ys) (sym no_explicit) ∙ sym (at_drop_all (λ ys. out ++ explicit (flat_map f ys)) xs i over) ∙ so_far

pub count-step : {A B : Type 0} (f : A → List B) (xs : List A) (i : ℕ) (x : A) (n new whole : ℕ) → i < length xs → x ≡ get_or xs i x → new ≡ min (n + length (f x)) (2 ^ 64 - 1)
    → min (n + length (flat_map f (drop i xs))) (2 ^ 64 - 1) ≡ whole → min (new + length (flat_map f (drop (i + 1) xs))) (2 ^ 64 - 1) ≡ whole
count-step f xs i x n new whole lt is more so_far =
    let here = ap (λ ys. length (flat_map f ys)) (drop_item xs i x lt is) in
    omega (arith, here, length-append (f x) (flat_map f (drop (i + 1) xs)), more, so_far)

pub count-end : {A B : Type 0} (f : A → List B) (xs : List A) (i n whole : ℕ) → length xs ≤ i → n < 2 ^ 64 → min (n + length (flat_map f (drop i xs))) (2 ^ 64 - 1) ≡ whole → n ≡ whole
count-end f xs i n whole over fits so_far =
    let none = at_drop_all (λ ys. length (flat_map f ys)) xs i over in
    omega (arith, none, so_far)

-- one byte of a text
pub emit-byte : (f : ℕ → List ℕ) (xs : List ℕ) (i : ℕ) (out new whole : List ℕ) → i < length xs → new ≡ out ++ f (get_or xs i 0)
    → out ++ flat_map f (drop i xs) ≡ whole → new ++ flat_map f (drop (i + 1) xs) ≡ whole
emit-byte f xs i out new whole lt more so_far =
    ap (λ o. o ++ flat_map f (drop (i + 1) xs)) more
    ∙ append_assoc out (f (get_or xs i 0)) (flat_map f (drop (i + 1) xs))
    ∙ ap (λ ys. out ++ flat_map f (get_or xs i 0 ∷ ys)) (ap (λ n. drop n xs) (add-one i))
    ∙ ap (λ ys. out ++ flat_map f ys) (sym (drop-cons xs i 0 lt)) ∙ so_far

filter_by_test : {A B : Type 0} (f : A → List B) (t : Bool) (x : A) (xs : List A) (rest : List B) → flat_map f xs ≡ rest → flat_map f (cond t (x ∷ xs) xs) ≡ cond t (f x) [] ++ rest
filter_by_test f true x xs rest is = ap (λ ys. f x ++ ys) is
filter_by_test f false x xs rest is = is

pub flat_map-filter : {A B : Type 0} (f : A → List B) (p : A → Bool) (xs : List A) → flat_map f (filter p xs) ≡ flat_map (λ x. cond (p x) (f x) []) xs
flat_map-filter f p [] = refl
flat_map-filter f p (x ∷ xs) = filter_by_test f (p x) x (filter p xs) (flat_map (λ x. cond (p x) (f x) []) xs) (flat_map-filter f p xs)
