-- The sources that lead to a name, form by form.
use Rattle.std.proofs.Common.{◌≡◌, Bool, List, [], ◌∷◌, ◌++◌, Option, sym, ap, ◌∙◌, append_assoc}
use Rattle.std.specs.List.{filter, filter_map}
use Rattle.std.proofs.lemmas.List.Elements.{filter_map-append}
use Rattle.fetch_specs.proofs.Keys.{filter-append}

-- what one text adds
abbrev pub one_form : {X Y : Type 0} → (X → Option Y) → (X → Bool) → X → List Y
one_form f p x = filter_map f (filter p (x ∷ []))

first_form : {X Y : Type 0} (f : X → Option Y) (p : X → Bool) (x : X) (xs : List X) → filter_map f (filter p (x ∷ xs)) ≡ one_form f p x ++ filter_map f (filter p xs)
first_form {X = X} f p x xs = ap (filter_map f) (filter-append p (x ∷ []) xs) ∙ filter_map-append f (filter p (x ∷ [])) (filter p xs)

pub three_forms : {X Y : Type 0} (f : X → Option Y) (p : X → Bool) (a b c : X) (one two three : List Y) → one ≡ [] ++ one_form f p a → two ≡ one ++ one_form f p b → three ≡ two ++ one_form f p c
    → three ≡ filter_map f (filter p (a ∷ b ∷ c ∷ []))
three_forms {X = X} {Y = Y} f p a b c one two three first second third =
    third ∙ ap (λ (ys : List Y). ys ++ one_form f p c) (second ∙ ap (λ (ys : List Y). ys ++ one_form f p b) first)
    ∙ append_assoc (one_form f p a) (one_form f p b) (one_form f p c)
    ∙ ap (λ (ys : List Y). one_form f p a ++ ys) (sym (first_form f p b (c ∷ [])))
    ∙ sym (first_form f p a (b ∷ c ∷ []))
