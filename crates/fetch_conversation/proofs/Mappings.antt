-- One match after another.
use Rattle.std.proofs.Common.{◌≡◌, ℕ, ◌+◌, ◌<◌, List, [], ◌∷◌, ◌++◌, length, take, get_or, Option, sym, ap, ◌∙◌}
use Rattle.std.proofs.lemmas.List.{take_more}
use Rattle.std.proofs.lemmas.List.Elements.{filter_map-append}
use Rattle.std.specs.List.{filter_map}

-- what one more gives stands after what those before it gave
pub one_more : {X Y : Type 0} (h : X → Option Y) (xs : List X) (i : ℕ) (x : X) (before now : List Y) → i < length xs → x ≡ get_or xs i x → before ≡ filter_map h (take i xs) → now ≡ before ++ filter_map h (x ∷ [])
    → now ≡ filter_map h (take (i + 1) xs)
one_more h xs i x before now lt here so_far is =
    let t : take (i + 1) xs ≡ take i xs ++ x ∷ [] = take_more xs i x lt ∙ ap (λ (z : _). take i xs ++ z ∷ []) (sym here) in
    is ∙ ap (λ (l : _). l ++ filter_map h (x ∷ [])) so_far ∙ sym (ap (filter_map h) t ∙ filter_map-append h (take i xs) (x ∷ []))
