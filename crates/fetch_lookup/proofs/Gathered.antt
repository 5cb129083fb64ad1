-- A loop over a list that gathers what each element gives, until one is refused.
use Rattle.std.specs.Bool.{OnFalse}
use Rattle.std.proofs.Common.{◌≡◌, Bool, true, false, ℕ, ◌+◌, ◌<◌, ◌≤◌, List, [], ◌∷◌, ◌++◌, length, get_or, drop, refl, sym, ap, ◌∙◌, append_assoc, append-nil, Result, Ok, Err}
use Rattle.std.proofs.lemmas.List.{at_drop_all}
use Rattle.fetch_config.proofs.Flat.{drop_item}
use Rattle.fetch_lookup.specs.Results.{all_of, in_front}

abbrev pub behind : {B E : Type 0} → List B → Result (List B) E → Result (List B) E
behind out (Ok xs) = Ok (out ++ xs)
behind out (Err e) = Err e

pub at-start : {B E : Type 0} (r : Result (List B) E) → r ≡ behind [] r
at-start (Ok xs) = refl
at-start (Err e) = refl

one-more : {B E : Type 0} (out : List B) (x : B) (r : Result (List B) E) → behind out (in_front (Ok x) r) ≡ behind (out ++ x ∷ []) r
one-more out x (Ok xs) = ap Ok (sym (append_assoc out (x ∷ []) xs))
one-more out x (Err e) = refl

here : {A B E : Type 0} (f : A → Result B E) (xs : List A) (i : ℕ) (x : A) → i < length xs → x ≡ get_or xs i x → all_of f (drop i xs) ≡ in_front (f x) (all_of f (drop (i + 1) xs))
unfolding all_of
here f xs i x lt is = ap (all_of f) (drop_item xs i x lt is)

pub gather-step : {A B E : Type 0} (f : A → Result B E) (xs : List A) (i : ℕ) (x : A) (out new : List B) (y : B) (whole : Result (List B) E) → i < length xs → x ≡ get_or xs i x → f x ≡ Ok y → new ≡ out ++ y ∷ []
    → whole ≡ behind out (all_of f (drop i xs)) → whole ≡ behind new (all_of f (drop (i + 1) xs))
gather-step f xs i x out new y whole lt is gives more so_far =
    so_far ∙ ap (behind out) (here f xs i x lt is)
    ∙ ap (λ r. behind out (in_front r (all_of f (drop (i + 1) xs)))) gives
    ∙ one-more out y (all_of f (drop (i + 1) xs))
    ∙ ap (λ o. behind o (all_of f (drop (i + 1) xs))) (sym more)

pub gather-refused : {A B E : Type 0} (f : A → Result B E) (xs : List A) (i : ℕ) (x : A) (out : List B) (e : E) (whole : Result (List B) E) → i < length xs → x ≡ get_or xs i x → f x ≡ Err e
    → whole ≡ behind out (all_of f (drop i xs)) → whole ≡ Err e
gather-refused f xs i x out e whole lt is gives so_far =
    so_far ∙ ap (behind out) (here f xs i x lt is)
    ∙ ap (λ r. behind out (in_front r (all_of f (drop (i + 1) xs)))) gives

pub gather-end : {A B E : Type 0} (f : A → Result B E) (xs : List A) (i : ℕ) (out : List B) (whole : Result (List B) E) → length xs ≤ i → whole ≡ behind out (all_of f (drop i xs)) → whole ≡ Ok out
unfolding all_of
gather-end f xs i out whole over so_far = so_far ∙ at_drop_all (λ ys. behind out (all_of f ys)) xs i over ∙ ap Ok (append-nil out)

-- what follows from a fact where a test fails
pub where-fails : (b : Bool) {P Q : Type 0} → (P → Q) → OnFalse b P → OnFalse b Q
where-fails true f p = tt
where-fails false f p = f p
