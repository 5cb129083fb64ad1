-- Lines put after lines.
use Rattle.std.proofs.Common.{◌≡◌, ℕ, ◌+◌, ◌<◌, List, [], ◌∷◌, ◌++◌, map, take, get_or, length, refl, sym, ap, ◌∙◌, append_assoc, Option, Some, None}
use Rattle.std.specs.Option.{option_to_list}
use Rattle.std.specs.List.{filter_map, cons_option}
use Rattle.std.proofs.lemmas.List.Elements.{filter_map-append}
use Rattle.std.proofs.lemmas.List.{take_more}

module _ {X : Type 0} where
  pub three : (l a b c l1 l2 l3 : List X) → l1 ≡ l ++ a → l2 ≡ l1 ++ b → l3 ≡ l2 ++ c → l3 ≡ l ++ (a ++ b ++ c)
  three l a b c l1 l2 l3 p q r = r ∙ ap (λ (m : List X). m ++ c) (q ∙ ap (λ (m : List X). m ++ b) p) ∙ simp append_assoc

  pub four : (l a b c d l1 l2 l3 l4 : List X) → l1 ≡ l ++ a → l2 ≡ l1 ++ b → l3 ≡ l2 ++ c → l4 ≡ l3 ++ d → l4 ≡ l ++ (a ++ b ++ c ++ d)
  four l a b c d l1 l2 l3 l4 p q r s = three l (a ++ b) c d l2 l3 l4 (q ∙ ap (λ (m : List X). m ++ b) p ∙ append_assoc l a b) r s

map_push : {X Y : Type 0} (f : X → Y) (xs : List X) (x : X) → map f (xs ++ x ∷ []) ≡ map f xs ++ f x ∷ []
map_push f [] x = refl
map_push {Y = Y} f (y ∷ xs) x = ap (λ (m : List Y). f y ∷ m) (map_push f xs x)

-- one more line of a list
pub mapped_more : {X Y : Type 0} (f : X → Y) (xs : List X) (i : ℕ) (x : X) (l l1 l2 : List Y) → i < length xs → x ≡ get_or xs i x → l1 ≡ l ++ map f (take i xs) → l2 ≡ l1 ++ f x ∷ [] → l2 ≡ l ++ map f (take (i + 1) xs)
mapped_more {X} {Y} f xs i x l l1 l2 lt is so_far push =
    push ∙ ap (λ (m : List Y). m ++ f x ∷ []) so_far ∙ append_assoc l (map f (take i xs)) (f x ∷ [])
    ∙ ap (λ (m : List Y). l ++ m) (sym (map_push f (take i xs) x) ∙ ap (map f) (ap (λ (y : X). take i xs ++ y ∷ []) is ∙ sym (take_more xs i x lt)))

nothing_behind : {Y : Type 0} (l : List Y) → l ++ [] ≡ l
nothing_behind [] = refl
nothing_behind {Y} (y ∷ l) = ap (λ (m : List Y). y ∷ m) (nothing_behind l)

-- what one more element gives, where not each gives something
module _ {X Y : Type 0} (f : X → Option Y) where
  filtered_push : (xs : List X) (x : X) → filter_map f (xs ++ x ∷ []) ≡ filter_map f xs ++ option_to_list (f x)
  filtered_push xs x = filter_map-append f xs (x ∷ []) ∙ ap (λ (l : List Y). filter_map f xs ++ l) (one (f x))
    where
      one : (o : Option Y) → cons_option o [] ≡ option_to_list o
      one None = refl
      one (Some y) = refl

  pub filtered_more : (xs : List X) (i : ℕ) (d x : X) (ys : List Y) (o : Option Y) → i < length xs → x ≡ get_or xs i d → ys ≡ filter_map f (take i xs) → o ≡ f x → ys ++ option_to_list o ≡ filter_map f (take (i + 1) xs)
  filtered_more xs i d x ys o lt is so_far gives =
      ap (λ (l : List Y). l ++ option_to_list o) so_far ∙ ap (λ (p : Option Y). filter_map f (take i xs) ++ option_to_list p) gives
      ∙ sym (filtered_push (take i xs) x) ∙ ap (filter_map f) (ap (λ (y : X). take i xs ++ y ∷ []) is ∙ sym (take_more xs i d lt))

  pub filtered_past : (xs : List X) (i : ℕ) (d x : X) (ys : List Y) → i < length xs → x ≡ get_or xs i d → ys ≡ filter_map f (take i xs) → None ≡ f x → ys ≡ filter_map f (take (i + 1) xs)
  filtered_past xs i d x ys lt is so_far gives = sym (nothing_behind ys) ∙ filtered_more xs i d x ys None lt is so_far gives
