-- A loop over a list that puts what each element gives in its place.
use Rattle.std.proofs.Common.{◌≡◌, ℕ, ◌+◌, ◌<◌, ◌≤◌, List, [], ◌∷◌, ◌++◌, length, get_or, drop, refl, sym, ap, ◌∙◌}
use Rattle.std.specs.declared.cmp.Ordering.{Ordering}
use Rattle.std.specs.List.{flat_map}
use Rattle.std.specs.BTreeSet.{insert_key}
use Rattle.std.proofs.lemmas.List.{at_drop_all}
use Rattle.fetch_config.proofs.Flat.{drop_item}
use Rattle.fetch_lookup.specs.Ordered.{placed}

pub placed-append : {K : Type 0} (cmp : K → K → Ordering) (keys xs ys : List K) → placed cmp keys (xs ++ ys) ≡ placed cmp (placed cmp keys xs) ys
unfolding placed
placed-append cmp keys [] ys = refl
placed-append cmp keys (x ∷ xs) ys = placed-append cmp (insert_key cmp keys x) xs ys

pub place-step : {A K : Type 0} (cmp : K → K → Ordering) (f : A → List K) (xs : List A) (i : ℕ) (x : A) (keys new whole : List K) → i < length xs → x ≡ get_or xs i x → new ≡ placed cmp keys (f x)
    → placed cmp keys (flat_map f (drop i xs)) ≡ whole → placed cmp new (flat_map f (drop (i + 1) xs)) ≡ whole
place-step cmp f xs i x keys new whole lt is more so_far =
    ap (λ ks. placed cmp ks (flat_map f (drop (i + 1) xs))) more
    ∙ sym (placed-append cmp keys (f x) (flat_map f (drop (i + 1) xs)))
    ∙ ap (λ ys. placed cmp keys (flat_map f ys)) (sym (drop_item xs i x lt is)) ∙ so_far

pub place-end : {A K : Type 0} (cmp : K → K → Ordering) (f : A → List K) (xs : List A) (i : ℕ) (keys whole : List K) → length xs ≤ i → placed cmp keys (flat_map f (drop i xs)) ≡ whole → keys ≡ whole
unfolding placed
place-end cmp f xs i keys whole over so_far = sym (at_drop_all (λ ys. placed cmp keys (flat_map f ys)) xs i over) ∙ so_far
