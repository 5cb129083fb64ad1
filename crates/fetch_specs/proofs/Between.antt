-- What stands between a prefix and a suffix, and patterns with their star replaced.
use Rattle.std.proofs.Common.{◌≡◌, ℕ, ◌+◌, ◌-◌, ◌≤◌, Bool, true, false, cond, ◌&&◌, ◌||◌, List, [], ◌++◌, length, take, drop, Option, Some, None, refl, sym, ap, ◌∙◌, arith, append_assoc}
use Rattle.std.specs.Prelude.{nat_eq, nat_le}
use Rattle.std.specs.List.{starts_with, ends_with}
use Rattle.std.specs.Str.{bytes_eq}
use Rattle.std.proofs.Math.Seq.{drop-append_seam, take-append_seam}
use Rattle.std.proofs.lemmas.Bool.{and_parts, and_from, leb-true, le-leb}
use Rattle.std.proofs.lemmas.Bool.Decides.{Decides-eqb}
use Rattle.std.proofs.lemmas.List.{take-append-drop, drop-drop, length-append}
use Rattle.std.proofs.lemmas.Slice.Eq.{bytes_eq-Decides, starts_is, ends_is, slice_eq-Decides}
use Rattle.fetch_specs.specs.Categories.{refs, tags, heads, remotes}
use Rattle.fetch_specs.specs.Matches.{slash_head, has_star, front_of, back_of, between, is_full, is_expansion, where_true, taken, with_middle, given}

same_some : (a b : List ℕ) → ◌≡◌ {A = Option (List ℕ)} (Some a) (Some b) → a ≡ b
same_some a b is = cc

-- a text between them is found
pub between_found : (front middle back : List ℕ) → between front back (front ++ (middle ++ back)) ≡ Some middle
between_found front middle back =
    ap (λ (t : Bool). cond t (Some (take (length name - length front - length back) (drop (length front) name))) None) fits
    ∙ ap Some (ap (take (length name - length front - length back)) (drop-append_seam front (middle ++ back)) ∙ ap (λ (n : ℕ). take n (middle ++ back)) count ∙ take-append_seam middle back)
  where
    name : List ℕ
    name = front ++ (middle ++ back)

    long : length name ≡ length front + (length middle + length back)
    long = length-append front (middle ++ back) ∙ ap (λ (n : ℕ). length front + n) (length-append middle back)

    count : length name - length front - length back ≡ length middle
    count = omega (arith, long)

    fits : (nat_le (length front + length back) (length name) && starts_with nat_eq name front && ends_with nat_eq name back) ≡ true
    fits =
        and_from _ _ (and_from _ _ (le-leb _ _ (omega (arith, long))) ((starts_is Decides-eqb name front (starts_with nat_eq name front) refl).1 (middle ++ back) refl))
        ((ends_is Decides-eqb name back (ends_with nat_eq name back) refl).1 (front ++ middle) (sym (append_assoc front middle back)))

found_by : (t : Bool) (x middle : List ℕ) → cond t (Some x) None ≡ Some middle → (t ≡ true) × (x ≡ middle)
found_by true x middle is = (refl, same_some x middle is)
found_by false x middle is = absurd cc

-- what is found stands between them
pub between_stands : (front back name middle : List ℕ) → between front back name ≡ Some middle → name ≡ front ++ (middle ++ back)
between_stands front back name middle is =
    let n = length name - length front - length back in
    let both = found_by (nat_le (length front + length back) (length name) && starts_with nat_eq name front && ends_with nat_eq name back) (take n (drop (length front) name)) middle is in
    let first = and_parts (nat_le (length front + length back) (length name) && starts_with nat_eq name front) (ends_with nat_eq name back) both.0 in
    let second = and_parts (nat_le (length front + length back) (length name)) (starts_with nat_eq name front) first.0 in
    let room : length front + length back ≤ length name = leb-true _ _ second.0 in
    let begins : name ≡ front ++ drop (length front) name = (starts_is Decides-eqb name front (starts_with nat_eq name front) refl).0 second.1 in
    let ends : back ≡ drop (length name - length back) name = (slice_eq-Decides Decides-eqb back (drop (length name - length back) name) (ends_with nat_eq name back) refl).0 first.1 in
    let at : length front + n ≡ length name - length back = omega (arith, room) in
    begins ∙ ap (λ (xs : List ℕ). front ++ xs)
    (sym (take-append-drop n (drop (length front) name)) ∙ ap (λ (xs : List ℕ). xs ++ drop n (drop (length front) name)) both.1
    ∙ ap (λ (xs : List ℕ). middle ++ xs) (drop-drop n (length front) name ∙ ap (λ (k : ℕ). drop k name) at ∙ sym ends))

found_whole : (front middle back : List ℕ) → between front back (front ++ middle ++ back) ≡ Some middle
found_whole front middle back = ap (between front back) (append_assoc front middle back) ∙ between_found front middle back

stands_whole : (front back name middle : List ℕ) → between front back name ≡ Some middle → front ++ middle ++ back ≡ name
stands_whole front back name middle is = append_assoc front middle back ∙ sym (between_stands front back name middle is)

-- what a star stands for, and nothing where there is none
abbrev pub star_part : List ℕ → List ℕ → List ℕ
star_part pattern middle = cond (has_star pattern) middle []

pub same_text : (text : List ℕ) → bytes_eq text text ≡ true
same_text text = (bytes_eq-Decides text text).1 refl

where_same : (t : Bool) → t ≡ true → where_true t ≡ Some []
where_same true is = refl
where_same false is = absurd cc

-- a source takes itself with its star replaced
pub takes_own : (source middle : List ℕ) → taken source (with_middle source middle) ≡ Some (star_part source middle)
takes_own source middle = by_star (has_star source)
  where
    itself : is_expansion source source ≡ true
    itself =
        ap (λ (t : Bool). t || bytes_eq (refs ++ source) source || bytes_eq (tags ++ source) source || bytes_eq (heads ++ source) source || bytes_eq (remotes ++ source) source || bytes_eq (remotes ++ (source ++ slash_head)) source) (same_text source)

    both : (full : Bool) → cond full (bytes_eq source source) (is_expansion source source) ≡ true
    both true = same_text source
    both false = itself

    by_star : (t : Bool) → cond t (between (front_of source) (back_of source) (cond t (front_of source ++ middle ++ back_of source) source))
        (where_true (cond (is_full source) (bytes_eq source (cond t (front_of source ++ middle ++ back_of source) source)) (is_expansion source (cond t (front_of source ++ middle ++ back_of source) source)))) ≡ Some (cond t middle [])
    by_star true = found_whole (front_of source) middle (back_of source)
    by_star false = where_same (cond (is_full source) (bytes_eq source source) (is_expansion source source)) (both (is_full source))

-- a destination with its star replaced gives it back
pub gives_own : (destination middle : List ℕ) → given destination (with_middle destination middle) ≡ Some (star_part destination middle)
gives_own destination middle = by_star (has_star destination)
  where
    by_star : (t : Bool) → cond t (between (front_of destination) (back_of destination) (cond t (front_of destination ++ middle ++ back_of destination) destination))
        (where_true (bytes_eq destination (cond t (front_of destination ++ middle ++ back_of destination) destination))) ≡ Some (cond t middle [])
    by_star true = found_whole (front_of destination) middle (back_of destination)
    by_star false = where_same (bytes_eq destination destination) (same_text destination)

where_is : (t : Bool) (middle : List ℕ) → where_true t ≡ Some middle → t ≡ true
where_is true middle is = refl
where_is false middle is = absurd cc

-- what a destination gives makes the text again
pub given_again : (destination text middle : List ℕ) → given destination text ≡ Some middle → with_middle destination middle ≡ text
given_again destination text middle = by_star (has_star destination)
  where
    by_star : (t : Bool) → cond t (between (front_of destination) (back_of destination) text) (where_true (bytes_eq destination text)) ≡ Some middle
        → cond t (front_of destination ++ middle ++ back_of destination) destination ≡ text
    by_star true is = stands_whole (front_of destination) (back_of destination) text middle is
    by_star false is = (bytes_eq-Decides destination text).0 (where_is (bytes_eq destination text) middle is)

pub part_serves : (pattern middle : List ℕ) → with_middle pattern (star_part pattern middle) ≡ with_middle pattern middle
part_serves pattern middle = by_star (has_star pattern)
  where
    by_star : (t : Bool) → cond t (front_of pattern ++ cond t middle [] ++ back_of pattern) pattern ≡ cond t (front_of pattern ++ middle ++ back_of pattern) pattern
    by_star true = refl
    by_star false = refl
