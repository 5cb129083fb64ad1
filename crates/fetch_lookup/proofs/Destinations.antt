-- The first destination among matches, one by one.
use Rattle.std.proofs.Common.{◌≡◌, ℕ, ◌+◌, ◌<◌, ◌≤◌, List, length, get_or, drop, Option, Some, None, Result, Ok, Err, refl, sym, ap, ◌∙◌}
use Rattle.std.specs.Prelude.{slice_get, IfOk, IsOkUnless, MatchOption}
use Rattle.fetch_specs.specs.Names.{full_name_trouble}
use Rattle.fetch_specs.specs.declared.error.NameError.{NameError}
use Rattle.fetch_specs.specs.declared.error.NameError.TheVariants as errors
use Rattle.fetch_lookup.specs.Branches.{IsNameOf, IsDestination}
use Rattle.std.specs.List.{filter_map}
use Rattle.std.proofs.lemmas.List.{at_drop_all}
use Rattle.fetch_config.proofs.Flat.{drop_item}

abbrev pub first : {A B : Type 0} → (A → Option B) → List A → Option B
first f xs = slice_get (filter_map f xs) 0

pub first-none : {A B : Type 0} (f : A → Option B) (xs : List A) (i : ℕ) (x : A) (whole : Option B) → i < length xs → x ≡ get_or xs i x → f x ≡ None → first f (drop i xs) ≡ whole → first f (drop (i + 1) xs) ≡ whole
first-none f xs i x whole lt is none so_far = sym (ap (first f) (drop_item xs i x lt is) ∙ rw none) ∙ so_far

pub first-some : {A B : Type 0} (f : A → Option B) (xs : List A) (i : ℕ) (x : A) (y : B) (whole : Option B) → i < length xs → x ≡ get_or xs i x → f x ≡ Some y → first f (drop i xs) ≡ whole → Some y ≡ whole
first-some f xs i x y whole lt is some so_far = sym (ap (first f) (drop_item xs i x lt is) ∙ rw some) ∙ so_far

pub first-end : {A B : Type 0} (f : A → Option B) (xs : List A) (i : ℕ) (whole : Option B) → length xs ≤ i → first f (drop i xs) ≡ whole → None ≡ whole
first-end f xs i whole over so_far = sym (at_drop_all (first f) xs i over) ∙ so_far

name-by : (text : List ℕ) (t : Option ℕ) → full_name_trouble text ≡ t → (r : Result (List ℕ) NameError) → IfOk r (λ name. name ≡ text) → MatchOption t (IsOkUnless r errors.NoMemory) (λ place. r ≡ Err (errors.Invalid place)) → IsNameOf text r
name-by text None is (Ok name) same v = (same, is)
name-by text None is (Err (errors.Invalid place)) same v = cc
name-by text None is (Err errors.NoMemory) same v = tt
name-by text (Some p) is (Ok name) same v = cc
name-by text (Some p) is (Err (errors.Invalid place)) same v = let e : p ≡ place = cc in is ∙ ap Some e
name-by text (Some p) is (Err errors.NoMemory) same v = tt

pub name-of : (text : List ℕ) (r : Result (List ℕ) NameError) → IfOk r (λ name. name ≡ text) → MatchOption (full_name_trouble text) (IsOkUnless r errors.NoMemory) (λ place. r ≡ Err (errors.Invalid place)) → IsNameOf text r
name-of text r same v = name-by text (full_name_trouble text) refl r same v

pub lost : (t : Option (List ℕ)) → IsDestination t (Some (Err errors.NoMemory))
lost None = refl
lost (Some text) = tt
