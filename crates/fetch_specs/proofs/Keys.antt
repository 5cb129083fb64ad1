-- The keys of matches, in a set.
use Rattle.std.proofs.Common.{◌≡◌, ℕ, Bool, true, false, cond, not, ◌&&◌, ◌||◌, suc, ◌+◌, ◌<◌, List, [], ◌∷◌, ◌++◌, length, get_or, drop, drop-cons, add-one, append-nil, append_assoc, refl, sym, ap, subst, ◌∙◌}
use Rattle.std.specs.List.{list_any, filter}
use Rattle.std.specs.Cmp.Lexicographic.{slice_cmp, nat_list_cmp_total, texts_ties}
use Rattle.std.specs.Bool.{OnFalse}
use Rattle.std.specs.Ordering.{nat_cmp, is_eq, ordering_then, ordering_reverse}
use Rattle.std.specs.declared.cmp.Ordering.{Ordering}
use Rattle.std.specs.declared.cmp.Ordering.TheVariants.{Less, Equal, Greater}
use Rattle.std.specs.Str.{bytes_eq}
use Rattle.std.proofs.lemmas.List.Folds.{list_any-append}
use Rattle.std.proofs.lemmas.Bool.{and_parts, not-true, not-false}
use Rattle.std.proofs.lemmas.Slice.Eq.{bytes_eq-Decides}
use Rattle.fetch_specs.specs.declared.found.Match.{Match}
use Rattle.fetch_specs.specs.Matches.{key_of, key_cmp, is_same, once, added, added_all}
use Rattle.fetch_specs.specs.FoundSets.{HasKeys}

eq-then : (a b : Ordering) → is_eq (ordering_then a b) ≡ (is_eq a && is_eq b)
eq-then Less b = refl
eq-then Equal b = refl
eq-then Greater b = refl

eq-reverse : (a : Ordering) → is_eq (ordering_reverse a) ≡ is_eq a
eq-reverse Less = refl
eq-reverse Equal = refl
eq-reverse Greater = refl

pub texts-back : (a b : List ℕ) → is_eq (slice_cmp nat_cmp a b) ≡ is_eq (slice_cmp nat_cmp b a)
texts-back a b = ap is_eq (nat_list_cmp_total.antisymm a b) ∙ eq-reverse (slice_cmp nat_cmp b a)

pub keys-back : (x y : List ℕ × List ℕ) → is_eq (key_cmp x y) ≡ is_eq (key_cmp y x)
keys-back x y =
    eq-then (slice_cmp nat_cmp x.0 y.0) (slice_cmp nat_cmp x.1 y.1)
    ∙ ap (λ (t : Bool). t && is_eq (slice_cmp nat_cmp x.1 y.1)) (texts-back x.0 y.0)
    ∙ ap (λ (t : Bool). is_eq (slice_cmp nat_cmp y.0 x.0) && t) (texts-back x.1 y.1)
    ∙ sym (eq-then (slice_cmp nat_cmp y.0 x.0) (slice_cmp nat_cmp y.1 x.1))

-- the same by their keys
pub same-is : (pairs : Bool) (x m : Match) → is_same pairs x m ≡ is_eq (key_cmp (key_of pairs m) (key_of pairs x))
same-is pairs x m =
    ap (λ (t : Bool). t && bytes_eq (key_of pairs x).1 (key_of pairs m).1) (texts_ties (key_of pairs x).0 (key_of pairs m).0)
    ∙ ap (λ (t : Bool). is_eq (slice_cmp nat_cmp (key_of pairs x).0 (key_of pairs m).0) && t) (texts_ties (key_of pairs x).1 (key_of pairs m).1)
    ∙ sym (eq-then (slice_cmp nat_cmp (key_of pairs x).0 (key_of pairs m).0) (slice_cmp nat_cmp (key_of pairs x).1 (key_of pairs m).1))
    ∙ keys-back (key_of pairs x) (key_of pairs m)

any-alike : (f g : Match → Bool) (ms : List Match) → ((m : Match) → f m ≡ g m) → list_any f ms ≡ list_any g ms
any-alike f g [] same = refl
any-alike f g (m ∷ ms) same = ap (λ (t : Bool). t || list_any f ms) (same m) ∙ ap (λ (t : Bool). g m || t) (any-alike f g ms same)

-- what a set of the keys answers of a match
pub known : (pairs : Bool) (ms : List Match) (keys : List (List ℕ × List ℕ)) (m : Match) (k : List ℕ × List ℕ) → HasKeys pairs ms keys → k ≡ key_of pairs m
    → list_any (λ x. is_same pairs x m) ms ≡ list_any (λ q. is_eq (key_cmp k q)) keys
known pairs ms keys m k has is =
    any-alike (λ x. is_same pairs x m) (λ x. is_eq (key_cmp (key_of pairs m) (key_of pairs x))) ms (λ x. same-is pairs x m)
    ∙ sym (has (key_of pairs m)) ∙ ap (λ (q : List ℕ × List ℕ). list_any (λ r. is_eq (key_cmp q r)) keys) (sym is)

or_one : (a t : Bool) → cond t true a ≡ (a || (t || false))
or_one true true = refl
or_one true false = refl
or_one false true = refl
or_one false false = refl

-- one key more
pub more_keys : (pairs : Bool) (ms : List Match) (keys more : List (List ℕ × List ℕ)) (m : Match) (k : List ℕ × List ℕ) → HasKeys pairs ms keys → k ≡ key_of pairs m
    → ((q : List ℕ × List ℕ) → list_any (λ r. is_eq (key_cmp q r)) more ≡ cond (is_eq (key_cmp k q)) true (list_any (λ r. is_eq (key_cmp q r)) keys))
    → HasKeys pairs (ms ++ m ∷ []) more
more_keys pairs ms keys more m k has is grows = λ q.
    grows q ∙ ap (λ (t : Bool). cond (is_eq (key_cmp k q)) true t) (has q)
    ∙ ap (λ (t : Bool). cond t true (list_any (λ x. is_eq (key_cmp q (key_of pairs x))) ms)) (keys-back k q ∙ ap (λ (x : List ℕ × List ℕ). is_eq (key_cmp q x)) is)
    ∙ or_one (list_any (λ x. is_eq (key_cmp q (key_of pairs x))) ms) (is_eq (key_cmp q (key_of pairs m)))
    ∙ sym (list_any-append (λ x. is_eq (key_cmp q (key_of pairs x))) ms (m ∷ []))

pub filter-append : {X : Type 0} (p : X → Bool) (xs ys : List X) → filter p (xs ++ ys) ≡ filter p xs ++ filter p ys
filter-append {X = X} p [] ys = refl
filter-append {X = X} p (x ∷ xs) ys = step (p x) (filter-append p xs ys)
  where
    step : (t : Bool) → filter p (xs ++ ys) ≡ filter p xs ++ filter p ys → cond t (x ∷ filter p (xs ++ ys)) (filter p (xs ++ ys)) ≡ cond t (x ∷ filter p xs) (filter p xs) ++ filter p ys
    step true on = ap (λ (zs : List X). x ∷ zs) on
    step false on = on

-- one more at the end of what is kept once
pub once-push : {X : Type 0} (same : X → X → Bool) (xs : List X) (x : X) → once same (xs ++ x ∷ []) ≡ cond (list_any (λ y. same y x) xs) (once same xs) (once same xs ++ x ∷ [])
once-push {X = X} same [] x = refl
once-push {X = X} same (a ∷ xs) x =
    ap (λ (ys : List X). a ∷ filter (λ y. not (same a y)) ys) (once-push same xs x) ∙ step (list_any (λ y. same y x) xs) (same a x) refl
  where
    step : (t u : Bool) → same a x ≡ u → a ∷ filter (λ y. not (same a y)) (cond t (once same xs) (once same xs ++ x ∷ []))
        ≡ cond (u || t) (a ∷ filter (λ y. not (same a y)) (once same xs)) (a ∷ filter (λ y. not (same a y)) (once same xs) ++ x ∷ [])
    step true true is = refl
    step true false is = refl
    step false true is =
        ap (λ (ys : List X). a ∷ ys) (filter-append (λ y. not (same a y)) (once same xs) (x ∷ []) ∙ ap (λ (t : Bool). filter (λ y. not (same a y)) (once same xs) ++ cond (not t) (x ∷ []) []) is ∙ append-nil (filter (λ y. not (same a y)) (once same xs)))
    step false false is =
        ap (λ (ys : List X). a ∷ ys) (filter-append (λ y. not (same a y)) (once same xs) (x ∷ []) ∙ ap (λ (t : Bool). filter (λ y. not (same a y)) (once same xs) ++ cond (not t) (x ∷ []) []) is)

any-filter : {X : Type 0} (same : X → X → Bool) (p : X → Bool) (a : X) (ys : List X) → ((y : X) → same a y ≡ true → p a ≡ p y) → (p a || list_any p (filter (λ y. not (same a y)) ys)) ≡ (p a || list_any p ys)
any-filter same p a [] alike = refl
any-filter same p a (y ∷ ys) alike = step (p a) (p y) (same a y) refl refl refl (any-filter same p a ys alike)
  where
    step : (t u s : Bool) → p a ≡ t → p y ≡ u → same a y ≡ s → (t || list_any p (filter (λ y. not (same a y)) ys)) ≡ (t || list_any p ys)
        → (t || list_any p (cond (not s) (y ∷ filter (λ y. not (same a y)) ys) (filter (λ y. not (same a y)) ys))) ≡ (t || (u || list_any p ys))
    step true u s pa py is on = refl
    step false true true pa py is on = let e : false ≡ true = sym pa ∙ alike y is ∙ py in absurd cc
    step false false true pa py is on = on
    step false true false pa py is on = ap (λ (t : Bool). t || list_any p (filter (λ y. not (same a y)) ys)) py
    step false false false pa py is on = ap (λ (t : Bool). t || list_any p (filter (λ y. not (same a y)) ys)) py ∙ on

pub any-once : {X : Type 0} (same : X → X → Bool) (p : X → Bool) (xs : List X) → ((a y : X) → same a y ≡ true → p a ≡ p y) → list_any p (once same xs) ≡ list_any p xs
any-once same p [] alike = refl
any-once same p (a ∷ xs) alike = any-filter same p a (once same xs) (alike a) ∙ ap (λ (t : Bool). p a || t) (any-once same p xs alike)

same-alike : (pairs : Bool) (m a y : Match) → is_same pairs a y ≡ true → is_same pairs a m ≡ is_same pairs y m
same-alike pairs m a y is =
    let both = and_parts (bytes_eq (key_of pairs a).0 (key_of pairs y).0) (bytes_eq (key_of pairs a).1 (key_of pairs y).1) is in
    ap (λ (t : List ℕ). bytes_eq t (key_of pairs m).0 && bytes_eq (key_of pairs a).1 (key_of pairs m).1) ((bytes_eq-Decides (key_of pairs a).0 (key_of pairs y).0).0 both.0)
    ∙ ap (λ (t : List ℕ). bytes_eq (key_of pairs y).0 (key_of pairs m).0 && bytes_eq t (key_of pairs m).1) ((bytes_eq-Decides (key_of pairs a).1 (key_of pairs y).1).0 both.1)

added-once : (pairs : Bool) (xs : List Match) (m : Match) → added pairs (once (is_same pairs) xs) m ≡ once (is_same pairs) (xs ++ m ∷ [])
added-once pairs xs m =
    ap (λ (t : Bool). cond t (once (is_same pairs) xs) (once (is_same pairs) xs ++ m ∷ [])) (any-once (is_same pairs) (λ y. is_same pairs y m) xs (λ a y is. same-alike pairs m a y is))
    ∙ sym (once-push (is_same pairs) xs m)

pub all-once : (pairs : Bool) (xs ys : List Match) → added_all pairs (once (is_same pairs) xs) ys ≡ once (is_same pairs) (xs ++ ys)
all-once pairs xs [] = ap (once (is_same pairs)) (sym (append-nil xs))
all-once pairs xs (y ∷ ys) =
    ap (λ (ms : List Match). added_all pairs ms ys) (added-once pairs xs y) ∙ all-once pairs (xs ++ y ∷ []) ys ∙ ap (once (is_same pairs)) (append_assoc xs (y ∷ []) ys)

pub added_all-append : (pairs : Bool) (ms xs ys : List Match) → added_all pairs ms (xs ++ ys) ≡ added_all pairs (added_all pairs ms xs) ys
added_all-append pairs ms [] ys = refl
added_all-append pairs ms (x ∷ xs) ys = added_all-append pairs (added pairs ms x) xs ys

-- from the element at i on
pub from : {A : Type 0} (xs : List A) (i : ℕ) (x : A) → i < length xs → x ≡ get_or xs i x → drop i xs ≡ x ∷ drop (i + 1) xs
from {A = A} xs i x lt is = rw (add-one) (drop-cons xs i x lt ∙ ap (λ (y : A). y ∷ drop (suc i) xs) (sym is))

-- a match that is added where its key was new
pub record Grown (pairs : Bool) (ms : List Match) (m : Match) (items : List Match) (more : List (List ℕ × List ℕ)) : Type 0 where
  pub has : HasKeys pairs items more
  pub added : items ≡ added pairs ms m

pub grown : (pairs : Bool) (ms : List Match) (keys more : List (List ℕ × List ℕ)) (m : Match) (k : List ℕ × List ℕ) (t : Bool) (items : List Match) → HasKeys pairs ms keys → k ≡ key_of pairs m
    → t ≡ not (list_any (λ r. is_eq (key_cmp k r)) keys)
    → ((q : List ℕ × List ℕ) → list_any (λ r. is_eq (key_cmp q r)) more ≡ cond (is_eq (key_cmp k q)) true (list_any (λ r. is_eq (key_cmp q r)) keys))
    → OnFalse t (more ≡ keys) → items ≡ cond t (ms ++ m ∷ []) ms → Grown pairs ms m items more
grown pairs ms keys more m k true items has is new grows stays items_are =
    let there : list_any (λ x. is_same pairs x m) ms ≡ false = known pairs ms keys m k has is ∙ not-true (list_any (λ r. is_eq (key_cmp k r)) keys) (sym new) in
    record {
      has = subst (λ (xs : List Match). HasKeys pairs xs more) (sym items_are) (more_keys pairs ms keys more m k has is grows);
      added = items_are ∙ ap (λ (t : Bool). cond t ms (ms ++ m ∷ [])) (sym there);
    }
grown pairs ms keys more m k false items has is new grows stays items_are =
    let there : list_any (λ x. is_same pairs x m) ms ≡ true = known pairs ms keys m k has is ∙ not-false (list_any (λ r. is_eq (key_cmp k r)) keys) (sym new) in
    let kept : HasKeys pairs ms more = subst (λ (qs : List (List ℕ × List ℕ)). HasKeys pairs ms qs) (sym stays) has in
    record {
      has = subst (λ (xs : List Match). HasKeys pairs xs more) (sym items_are) kept;
      added = items_are ∙ ap (λ (t : Bool). cond t ms (ms ++ m ∷ [])) (sym there);
    }

-- one turn of a loop that adds matches
pub turn : (p p' : Bool) (ms ms' here rest whole target : List Match) → p' ≡ p → ms' ≡ added_all p ms here → whole ≡ here ++ rest → added_all p ms whole ≡ target → added_all p' ms' rest ≡ target
turn p p' ms ms' here rest whole target pairs grows is known =
    ap (λ (q : Bool). added_all q ms' rest) pairs ∙ ap (λ (xs : List Match). added_all p xs rest) grows
    ∙ sym (added_all-append p ms here rest) ∙ ap (added_all p ms) (sym is) ∙ known
