-- One byte more in a part of a name.
use Rattle.std.proofs.Common.{◌≡◌, ℕ, suc, ◌-◌, ◌<◌, Bool, true, false, not, ◌&&◌, ◌||◌, eqb, List, [], ◌∷◌, ◌++◌, length, take, get_or, refl, sym, ap, ◌∙◌, arith, append_assoc}
use Rattle.std.specs.Prelude.{nat_eq}
use Rattle.std.specs.List.{list_all, ends_with}
use Rattle.std.proofs.lemmas.List.Folds.{list_all-append}
use Rattle.std.proofs.lemmas.Slice.Eq.{ends_is}
use Rattle.std.proofs.lemmas.Bool.Decides.{Decides-eqb}
use Rattle.fetch_specs.specs.Names.{first_is, last_is, has_pair, is_empty, may_stand, lock, is_component}
use Rattle.fetch_specs.specs.Scans.{may_end, may_extend}

pub false_from : (t : Bool) → (t ≡ true → ⊥) → t ≡ false
false_from true never = absurd (never refl)
false_from false _ = refl

pub and_swap : (a b c d : Bool) → ((a && b) && (c && d)) ≡ ((a && c) && (b && d))
and_swap false b c d = refl
and_swap true true c d = refl
and_swap true false true d = refl
and_swap true false false d = refl

or_assoc : (a b c : Bool) → (a || (b || c)) ≡ ((a || b) || c)
or_assoc true b c = refl
or_assoc false b c = refl

or_none : (a : Bool) → (a || false) ≡ a
or_none true = refl
or_none false = refl

and_none : (a : Bool) → (a && false) ≡ false
and_none true = refl
and_none false = refl

not_or : (a b : Bool) → not (a || b) ≡ (not a && not b)
not_or true b = refl
not_or false b = refl

pub last_is-push : (x : ℕ) (c : List ℕ) (b : ℕ) → last_is x (c ++ b ∷ []) ≡ eqb b x
last_is-push x [] b = refl
last_is-push x (a ∷ []) b = refl
last_is-push x (a ∷ a' ∷ c) b = last_is-push x (a' ∷ c) b

pub has_pair-push : (x y : ℕ) (c : List ℕ) (b : ℕ) → has_pair x y (c ++ b ∷ []) ≡ (has_pair x y c || (last_is x c && eqb b y))
has_pair-push x y [] b = refl
has_pair-push x y (a ∷ []) b = or_none (eqb a x && eqb b y)
has_pair-push x y (a ∷ a' ∷ c) b =
    ap (λ (t : Bool). (eqb a x && eqb a' y) || t) (has_pair-push x y (a' ∷ c) b)
    ∙ or_assoc (eqb a x && eqb a' y) (has_pair x y (a' ∷ c)) (last_is x (a' ∷ c) && eqb b y)

-- what holds of a part that goes on by a letter
abbrev pub core : Bool → List ℕ → Bool
core star c = list_all (may_stand star) c && not (has_pair 46 46 c) && not (has_pair 64 123 c) && not (first_is 46 c)

first_is-push : (c : List ℕ) (b : ℕ) → not (first_is 46 (c ++ b ∷ [])) ≡ (not (first_is 46 c) && not (is_empty c && eqb b 46))
first_is-push [] b = refl
first_is-push (a ∷ c) b = and_true (not (eqb a 46))
  where
    and_true : (t : Bool) → t ≡ (t && true)
    and_true true = refl
    and_true false = refl

all-push : (star : Bool) (c : List ℕ) (b : ℕ) → list_all (may_stand star) (c ++ b ∷ []) ≡ (list_all (may_stand star) c && may_stand star b)
all-push star c b = list_all-append (may_stand star) c (b ∷ []) ∙ ap (λ (t : Bool). list_all (may_stand star) c && t) (one (may_stand star b))
  where
    one : (t : Bool) → (t && true) ≡ t
    one true = refl
    one false = refl

pub core-push : (star : Bool) (c : List ℕ) (b : ℕ) → core star (c ++ b ∷ []) ≡ (core star c && may_extend star c b)
core-push star c b =
    let all = all-push star c b in
    let dots = ap not (has_pair-push 46 46 c b) ∙ not_or (has_pair 46 46 c) (last_is 46 c && eqb b 46) in
    let braces = ap not (has_pair-push 64 123 c b) ∙ not_or (has_pair 64 123 c) (last_is 64 c && eqb b 123) in
    let front = first_is-push c b in
    four (list_all (may_stand star) (c ++ b ∷ [])) (not (has_pair 46 46 (c ++ b ∷ []))) (not (has_pair 64 123 (c ++ b ∷ []))) (not (first_is 46 (c ++ b ∷ []))) (list_all (may_stand star) c) (not (has_pair 46 46 c)) (not (has_pair 64 123 c)) (not (first_is 46 c)) (may_stand star b) (not (last_is 46 c && eqb b 46)) (not (last_is 64 c && eqb b 123)) (not (is_empty c && eqb b 46)) all dots braces front
  where
    four : (w x y z a b c d a' b' c' d' : Bool) → w ≡ (a && a') → x ≡ (b && b') → y ≡ (c && c') → z ≡ (d && d') → (((w && x) && y) && z) ≡ ((((a && b) && c) && d) && (((a' && b') && c') && d'))
    four w x y z a b c d a' b' c' d' p q r s =
        ap (λ (t : Bool). ((t && x) && y) && z) p ∙ ap (λ (t : Bool). (((a && a') && t) && y) && z) q ∙ ap (λ (t : Bool). ((((a && a') && (b && b'))) && t) && z) r
        ∙ ap (λ (t : Bool). ((((a && a') && (b && b'))) && (c && c')) && t) s
        ∙ ap (λ (t : Bool). (t && (c && c')) && (d && d')) (and_swap a a' b b')
        ∙ ap (λ (t : Bool). t && (d && d')) (and_swap (a && b) (a' && b') c c')
        ∙ and_swap ((a && b) && c) ((a' && b') && c') d d'

pub last_is-at : (x : ℕ) (c : List ℕ) → 0 < length c → eqb (get_or c (length c - 1) 0) x ≡ last_is x c
last_is-at x [] some = absurd (omega arith)
last_is-at x (a ∷ []) some = refl
last_is-at x (a ∷ b ∷ c) some =
    let one : length (a ∷ b ∷ c) - 1 ≡ suc (length (b ∷ c) - 1) = omega arith in
    ap (λ (n : ℕ). eqb (get_or (a ∷ b ∷ c) n 0) x) one ∙ last_is-at x (b ∷ c) (omega arith)

-- a letter may follow always
may_extend-letter : (star : Bool) (c : List ℕ) → may_extend star c 97 ≡ true
may_extend-letter star c = all_four (star || true) (last_is 46 c) (last_is 64 c) (is_empty c) (or_true star)
  where
    or_true : (t : Bool) → (t || true) ≡ true
    or_true true = refl
    or_true false = refl

    all_four : (s x y z : Bool) → s ≡ true → (((s && not (x && false)) && not (y && false)) && not (z && false)) ≡ true
    all_four s x y z is =
        ap (λ (t : Bool). (((t && not (x && false)) && not (y && false)) && not (z && false))) is
        ∙ ap (λ (t : Bool). (not t && not (y && false)) && not (z && false)) (and_none x)
        ∙ ap (λ (t : Bool). not t && not (z && false)) (and_none y)
        ∙ ap not (and_none z)

not_locked : (c : List ℕ) (t : Bool) → ends_with nat_eq (c ++ 97 ∷ []) lock ≡ t → t ≡ false
unfolding lock
not_locked c true is =
    let text = c ++ 97 ∷ [] in
    let front = take (length text - length lock) text in
    let whole : text ≡ front ++ lock = (ends_is Decides-eqb text lock (ends_with nat_eq text lock) refl).0 is in
    let cut : front ++ lock ≡ (front ++ 46 ∷ 108 ∷ 111 ∷ 99 ∷ []) ++ 107 ∷ [] = sym (append_assoc front (46 ∷ 108 ∷ 111 ∷ 99 ∷ []) (107 ∷ [])) in
    let here : true ≡ last_is 97 text = sym (last_is-push 97 c 97) in
    let there : last_is 97 ((front ++ 46 ∷ 108 ∷ 111 ∷ 99 ∷ []) ++ 107 ∷ []) ≡ false = last_is-push 97 (front ++ 46 ∷ 108 ∷ 111 ∷ 99 ∷ []) 107 in
    here ∙ ap (last_is 97) (whole ∙ cut) ∙ there
not_locked c false is = refl

not_empty : (c : List ℕ) (b : ℕ) → is_empty (c ++ b ∷ []) ≡ false
not_empty [] b = refl
not_empty (a ∷ c) b = refl

-- a part that goes on by a letter is one with that letter
pub component-letter : (star : Bool) (c : List ℕ) → core star c ≡ true → is_component star (c ++ 97 ∷ []) ≡ true
component-letter star c good =
    ap (λ (t : Bool). core star (c ++ 97 ∷ []) && not t && not (is_empty (c ++ 97 ∷ []))) (not_locked c _ refl)
    ∙ ap (λ (t : Bool). core star (c ++ 97 ∷ []) && true && not t) (not_empty c 97)
    ∙ ap (λ (t : Bool). t && true && true) (core-push star c 97 ∙ ap (λ (t : Bool). t && may_extend star c 97) good ∙ may_extend-letter star c)

pub component-is : (star : Bool) (c : List ℕ) → is_component star c ≡ (core star c && may_end c)
component-is star c = and_assoc (core star c) _ _
  where
    and_assoc : (a b c : Bool) → ((a && b) && c) ≡ (a && (b && c))
    and_assoc true b c = refl
    and_assoc false b c = refl
