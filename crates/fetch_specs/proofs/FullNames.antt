-- The longest prefix of a text that begins a full name.
use Rattle.std.proofs.Common.{◌≡◌, ℕ, zero, suc, ◌+◌, ◌-◌, ◌<◌, ◌≤◌, Bool, true, false, cond, not, ◌&&◌, ◌||◌, eqb, max, ◌⊎◌, List, [], ◌∷◌, ◌++◌, length, take, drop, Some, None, refl, sym, ap, subst, ◌∙◌, inl, inr, arith, append_assoc, append-nil}
use Rattle.std.specs.Prelude.{nat_eq, IsTrue}
use Rattle.std.specs.List.{list_all, starts_with, ends_with, prefix_len}
use Rattle.std.specs.Str.{bytes_eq}
use Rattle.std.specs.Cmp.Lexicographic.{pointwise}
use Rattle.std.proofs.lemmas.Bool.{and_parts, eqb-true, cases_lt}
use Rattle.std.proofs.lemmas.Bool.Decides.{nat_tests, Decides-eqb}
use Rattle.std.proofs.lemmas.List.{take_all}
use Rattle.std.proofs.lemmas.List.Folds.{list_all-append}
use Rattle.std.proofs.lemmas.List.Sums.{prefix_len-le-length}
use Rattle.std.proofs.lemmas.Slice.Eq.{ends_is, starts_is}
use Rattle.fetch_specs.specs.Categories.{refs}
use Rattle.fetch_specs.specs.Names.{last_is, lock, may_stand, is_empty, is_name, is_capital, is_full_name, goes_on, name_place, full_name_place, name_trouble, full_name_trouble, IsLongestBeginning}
use Rattle.fetch_specs.specs.Scans.{may_end, may_extend, may_follow, onward, scan, last_part, common}
use Rattle.fetch_specs.proofs.Fronts.{ok, none, front-letter, past, along, not_name, scan-le, name_place-scan, greatest-is, whole}

and_one : (t : Bool) → (t && true) ≡ t
and_one true = refl
and_one false = refl

or_true : (t : Bool) → (t || true) ≡ true
or_true true = refl
or_true false = refl

-- a byte more than four decides nothing new
starts-small : (p : List ℕ) → starts_with nat_eq (p ++ 97 ∷ []) refs ≡ starts_with nat_eq p refs
unfolding refs
starts-small [] = refl
starts-small (a ∷ []) = none (eqb 114 a) ∙ sym (none (eqb 114 a))
starts-small (a ∷ b ∷ []) = ap (λ (t : Bool). eqb 114 a && t) (none (eqb 101 b) ∙ sym (none (eqb 101 b)))
starts-small (a ∷ b ∷ c ∷ []) = ap (λ (t : Bool). eqb 114 a && (eqb 101 b && t)) (none (eqb 102 c) ∙ sym (none (eqb 102 c)))
starts-small (a ∷ b ∷ c ∷ d ∷ []) = ap (λ (t : Bool). eqb 114 a && (eqb 101 b && (eqb 102 c && t))) (none (eqb 115 d) ∙ sym (none (eqb 115 d)))
starts-small (a ∷ b ∷ c ∷ d ∷ e ∷ p) = refl

starts-capital : (p : List ℕ) → starts_with nat_eq (p ++ 65 ∷ []) refs ≡ starts_with nat_eq p refs
unfolding refs
starts-capital [] = refl
starts-capital (a ∷ []) = none (eqb 114 a) ∙ sym (none (eqb 114 a))
starts-capital (a ∷ b ∷ []) = ap (λ (t : Bool). eqb 114 a && t) (none (eqb 101 b) ∙ sym (none (eqb 101 b)))
starts-capital (a ∷ b ∷ c ∷ []) = ap (λ (t : Bool). eqb 114 a && (eqb 101 b && t)) (none (eqb 102 c) ∙ sym (none (eqb 102 c)))
starts-capital (a ∷ b ∷ c ∷ d ∷ []) = ap (λ (t : Bool). eqb 114 a && (eqb 101 b && (eqb 102 c && t))) (none (eqb 115 d) ∙ sym (none (eqb 115 d)))
starts-capital (a ∷ b ∷ c ∷ d ∷ e ∷ p) = refl

-- a prefix of five bytes or more begins as the text does; a shorter one doesn't begin with `refs/`
starts-take : (text : List ℕ) (k : ℕ) → starts_with nat_eq text refs ≡ false → starts_with nat_eq (take k text) refs ≡ false
unfolding refs
starts-take text zero is = refl
starts-take [] (suc k) is = refl
starts-take (a ∷ text) (suc zero) is = none (eqb 114 a)
starts-take (a ∷ []) (suc (suc k)) is = is
starts-take (a ∷ b ∷ text) (suc (suc zero)) is = ap (λ (t : Bool). eqb 114 a && t) (none (eqb 101 b)) ∙ none (eqb 114 a)
starts-take (a ∷ b ∷ []) (suc (suc (suc k))) is = is
starts-take (a ∷ b ∷ c ∷ text) (suc (suc (suc zero))) is = ap (λ (t : Bool). eqb 114 a && (eqb 101 b && t)) (none (eqb 102 c)) ∙ ap (λ (t : Bool). eqb 114 a && t) (none (eqb 101 b)) ∙ none (eqb 114 a)
starts-take (a ∷ b ∷ c ∷ []) (suc (suc (suc (suc k)))) is = is
starts-take (a ∷ b ∷ c ∷ d ∷ text) (suc (suc (suc (suc zero)))) is =
    ap (λ (t : Bool). eqb 114 a && (eqb 101 b && (eqb 102 c && t))) (none (eqb 115 d)) ∙ ap (λ (t : Bool). eqb 114 a && (eqb 101 b && t)) (none (eqb 102 c)) ∙ ap (λ (t : Bool). eqb 114 a && t) (none (eqb 101 b)) ∙ none (eqb 114 a)
starts-take (a ∷ b ∷ c ∷ d ∷ []) (suc (suc (suc (suc (suc k))))) is = is
starts-take (a ∷ b ∷ c ∷ d ∷ e ∷ text) (suc (suc (suc (suc (suc k))))) is = is

-- how far a test goes on
passed : (p : ℕ → Bool) (text : List ℕ) (k : ℕ) → k ≤ prefix_len p text → list_all p (take k text) ≡ true
passed p text zero within = refl
passed p [] (suc k) within = absurd (omega arith)
passed p (b ∷ text) (suc k) within = step (p b) refl within (passed p text k)
  where
    step : (t : Bool) → p b ≡ t → suc k ≤ cond t (1 + prefix_len p text) 0 → (k ≤ prefix_len p text → list_all p (take k text) ≡ true) → (p b && list_all p (take k text)) ≡ true
    step true is within more = ap (λ (t : Bool). t && list_all p (take k text)) is ∙ more (omega arith)
    step false is within more = absurd (omega arith)

stopped : (p : ℕ → Bool) (text : List ℕ) (k : ℕ) → prefix_len p text < k → k ≤ length text → list_all p (take k text) ≡ false
stopped p text zero more within = absurd (omega arith)
stopped p [] (suc k) more within = absurd (omega arith)
stopped p (b ∷ text) (suc k) more within = step (p b) refl more (λ less. stopped p text k less (omega arith))
  where
    step : (t : Bool) → p b ≡ t → cond t (1 + prefix_len p text) 0 < suc k → (prefix_len p text < k → list_all p (take k text) ≡ false) → (p b && list_all p (take k text)) ≡ false
    step true is more on = ap (λ (t : Bool). t && list_all p (take k text)) is ∙ on (omega arith)
    step false is more on = ap (λ (t : Bool). t && list_all p (take k text)) is

-- how far a word goes on
shared : (word text : List ℕ) (k : ℕ) → k ≤ common word text → starts_with nat_eq word (take k text) ≡ true
shared word text zero within = refl
shared [] text (suc k) within = absurd (omega arith)
shared (x ∷ word) [] (suc k) within = absurd (omega arith)
shared (x ∷ word) (b ∷ text) (suc k) within = step (eqb b x) refl within (shared word text k)
  where
    step : (t : Bool) → eqb b x ≡ t → suc k ≤ cond t (common word text + 1) 0 → (k ≤ common word text → starts_with nat_eq word (take k text) ≡ true) → (eqb b x && starts_with nat_eq word (take k text)) ≡ true
    step true is within more = ap (λ (t : Bool). t && starts_with nat_eq word (take k text)) is ∙ more (omega arith)
    step false is within more = absurd (omega arith)

parted : (word text : List ℕ) (k : ℕ) → common word text < k → k ≤ length text → starts_with nat_eq word (take k text) ≡ false
parted word text zero more within = absurd (omega arith)
parted word [] (suc k) more within = absurd (omega arith)
parted [] (b ∷ text) (suc k) more within = refl
parted (x ∷ word) (b ∷ text) (suc k) more within = step (eqb b x) refl more (λ less. parted word text k less (omega arith))
  where
    step : (t : Bool) → eqb b x ≡ t → cond t (common word text + 1) 0 < suc k → (common word text < k → starts_with nat_eq word (take k text) ≡ false) → (eqb b x && starts_with nat_eq word (take k text)) ≡ false
    step true is more on = ap (λ (t : Bool). t && starts_with nat_eq word (take k text)) is ∙ on (omega arith)
    step false is more on = ap (λ (t : Bool). t && starts_with nat_eq word (take k text)) is

common-le : (word text : List ℕ) → common word text ≤ length text
common-le [] text = omega arith
common-le (x ∷ word) [] = omega arith
common-le (x ∷ word) (b ∷ text) = step (eqb b x) (common-le word text)
  where
    step : (t : Bool) → common word text ≤ length text → cond t (common word text + 1) 0 ≤ suc (length text)
    step true within = omega arith
    step false within = omega arith

-- capitals may stand anywhere in a name
record IsPlain (b : ℕ) : Type 0 where
  stands : may_stand false b ≡ true
  slash : eqb b 47 ≡ false
  dot : eqb b 46 ≡ false
  brace : eqb b 123 ≡ false

plain : (b : ℕ) → is_capital b ≡ true → IsPlain b
plain b is = record {
  stands = grind (arith, nat_tests);
  slash = grind (arith, nat_tests);
  dot = grind (arith, nat_tests);
  brace = grind (arith, nat_tests);
}

extends : (c : List ℕ) (b : ℕ) → IsPlain b → may_follow false c b ≡ true
extends c b p =
    ap (λ (t : Bool). cond t (may_end c) (may_extend false c b)) p.slash
    ∙ ap (λ (t : Bool). ((may_stand false b && not (last_is 46 c && t)) && not (last_is 64 c && eqb b 123)) && not (is_empty c && t)) p.dot
    ∙ ap (λ (t : Bool). ((may_stand false b && not (last_is 46 c && false)) && not (last_is 64 c && t)) && not (is_empty c && false)) p.brace
    ∙ ap (λ (t : Bool). ((t && not (last_is 46 c && false)) && not (last_is 64 c && false)) && not (is_empty c && false)) p.stands
    ∙ three (last_is 46 c) (last_is 64 c) (is_empty c)
  where
    three : (x y z : Bool) → ((not (x && false) && not (y && false)) && not (z && false)) ≡ true
    three x y z =
        ap (λ (t : Bool). (not t && not (y && false)) && not (z && false)) (none x)
        ∙ ap (λ (t : Bool). not t && not (z && false)) (none y) ∙ ap not (none z)

runs : (c bs : List ℕ) → list_all is_capital bs ≡ true → scan false c bs ≡ length bs
runs c [] all = refl
runs c (b ∷ bs) all =
    let both = and_parts (is_capital b) (list_all is_capital bs) all in
    let p = plain b both.0 in
    let one : onward c b ≡ c ++ b ∷ [] = ap (λ (t : Bool). cond t [] (c ++ b ∷ [])) p.slash in
    let rest : scan false (onward c b) bs ≡ length bs = runs (onward c b) bs both.1 in
    ap (λ (t : Bool). cond t (scan false (onward c b) bs + 1) 0) (extends c b p) ∙ omega (arith, rest)

last-runs : (c bs : List ℕ) → list_all is_capital bs ≡ true → last_part c bs ≡ c ++ bs
last-runs c [] all = sym (append-nil c)
last-runs c (b ∷ bs) all =
    let both = and_parts (is_capital b) (list_all is_capital bs) all in
    let p = plain b both.0 in
    ap (λ (t : Bool). last_part (cond t [] (c ++ b ∷ [])) bs) p.slash ∙ last-runs (c ++ b ∷ []) bs both.1 ∙ append_assoc c (b ∷ []) bs

no_dot : (text : List ℕ) → list_all is_capital text ≡ true → last_is 46 text ≡ false
no_dot [] all = refl
no_dot (a ∷ []) all = (plain a (and_parts (is_capital a) true all).0).dot
no_dot (a ∷ b ∷ text) all = no_dot (b ∷ text) (and_parts (is_capital a) (list_all is_capital (b ∷ text)) all).1

no_lock : (text : List ℕ) (t : Bool) → list_all is_capital text ≡ true → ends_with nat_eq text lock ≡ t → t ≡ false
unfolding lock
no_lock text true all is =
    let front = take (length text - length lock) text in
    let whole : text ≡ front ++ lock = (ends_is Decides-eqb text lock (ends_with nat_eq text lock) refl).0 is in
    let e : list_all is_capital (front ++ lock) ≡ true = ap (list_all is_capital) (sym whole) ∙ all in
    sym e ∙ list_all-append is_capital front lock ∙ none (list_all is_capital front)
no_lock text false all is = refl

not_at : (text : List ℕ) → list_all is_capital text ≡ true → bytes_eq text (64 ∷ []) ≡ false
not_at [] all = refl
not_at (a ∷ []) all = ap (λ (t : Bool). t && true) (other a (and_parts (is_capital a) true all).0)
  where
    other : (a : ℕ) → is_capital a ≡ true → eqb a 64 ≡ false
    other a is = grind (arith, nat_tests)
not_at (a ∷ b ∷ text) all = none (eqb a 64)

named : (t : Bool) (n : ℕ) → cond t None (Some n) ≡ None → t ≡ true
named true n is = refl
named false n is = absurd cc

pub capitals-name : (text : List ℕ) → list_all is_capital text ≡ true → is_empty text ≡ false → is_name false text ≡ true
capitals-name text all some =
    named (is_name false text) (name_place false text)
    (whole false text (runs [] text all)
    ∙ ap (λ (p : List ℕ). cond (may_end p && not (last_is 46 text) && not (bytes_eq text (64 ∷ []))) None (Some (length text))) (last-runs [] text all)
    ∙ ap (λ (t : Bool). cond (not t && not (is_empty text) && not (last_is 46 text) && not (bytes_eq text (64 ∷ []))) None (Some (length text))) (no_lock text (ends_with nat_eq text lock) all refl)
    ∙ ap (λ (t : Bool). cond (not t && not (last_is 46 text) && not (bytes_eq text (64 ∷ []))) None (Some (length text))) some
    ∙ ap (λ (t : Bool). cond (not t && not (bytes_eq text (64 ∷ []))) None (Some (length text))) (no_dot text all)
    ∙ ap (λ (t : Bool). cond (not t) None (Some (length text))) (not_at text all))

full_with : (front : List ℕ) (x : ℕ) → starts_with nat_eq (front ++ x ∷ []) refs ≡ starts_with nat_eq front refs → starts_with nat_eq front refs ≡ false
    → is_full_name (front ++ x ∷ []) ≡ (is_name false (front ++ x ∷ []) && (list_all is_capital front && is_capital x))
unfolding is_full_name
full_with front x same apart =
    ap (λ (t : Bool). is_name false (front ++ x ∷ []) && (t || list_all is_capital (front ++ x ∷ []))) (same ∙ apart)
    ∙ ap (λ (t : Bool). is_name false (front ++ x ∷ []) && t) (list_all-append is_capital front (x ∷ []) ∙ ap (λ (t : Bool). list_all is_capital front && t) (and_one (is_capital x)))

capital_next : (front : List ℕ) (t : Bool) → list_all is_capital front ≡ t → (is_name false (front ++ 65 ∷ []) && (t && true)) ≡ t
capital_next front true all =
    and_one (is_name false (front ++ 65 ∷ [])) ∙ capitals-name (front ++ 65 ∷ []) (list_all-append is_capital front (65 ∷ []) ∙ ap (λ (t : Bool). t && true) all) (filled front)
  where
    filled : (front : List ℕ) → is_empty (front ++ 65 ∷ []) ≡ false
    filled [] = refl
    filled (a ∷ front) = refl
capital_next front false all = none (is_name false (front ++ 65 ∷ []))

-- a prefix without `refs/` goes on where it is of capitals, or is a prefix of `refs/`
goes_on-apart : (front : List ℕ) → starts_with nat_eq front refs ≡ false → goes_on front ≡ (list_all is_capital front || starts_with nat_eq refs front)
goes_on-apart front apart =
    ap (λ (t : Bool). (t || is_full_name (front ++ 65 ∷ [])) || starts_with nat_eq refs front)
    (full_with front 97 (starts-small front) apart ∙ ap (λ (t : Bool). is_name false (front ++ 97 ∷ []) && t) (none (list_all is_capital front)) ∙ none (is_name false (front ++ 97 ∷ [])))
    ∙ ap (λ (t : Bool). t || starts_with nat_eq refs front) (full_with front 65 (starts-capital front) apart ∙ capital_next front (list_all is_capital front) refl)

-- the place of a text without `refs/`
place-apart : (text : List ℕ) → starts_with nat_eq text refs ≡ false → full_name_place text ≡ max (prefix_len is_capital text) (common refs text)
unfolding full_name_place
place-apart text apart =
    let n = prefix_len is_capital text in
    let m = common refs text in
    let on : (k : ℕ) → goes_on (take k text) ≡ (list_all is_capital (take k text) || starts_with nat_eq refs (take k text)) = λ k. goes_on-apart (take k text) (starts-take text k apart) in
    greatest-is (λ k. goes_on (take k text)) (length text) (max n m) (omega (arith, prefix_len-le-length is_capital text, common-le refs text))
    (on (max n m) ∙ reached (cases_lt n m))
    (λ k more within. on k ∙ ap (λ (t : Bool). t || starts_with nat_eq refs (take k text)) (stopped is_capital text k (omega arith) within) ∙ parted refs text k (omega arith) within)
  where
    reached : (prefix_len is_capital text < common refs text) ⊎ (common refs text ≤ prefix_len is_capital text)
        → (list_all is_capital (take (max (prefix_len is_capital text) (common refs text)) text) || starts_with nat_eq refs (take (max (prefix_len is_capital text) (common refs text)) text)) ≡ true
    reached (inl less) =
        ap (λ (t : Bool). list_all is_capital (take (max (prefix_len is_capital text) (common refs text)) text) || t) (shared refs text (max (prefix_len is_capital text) (common refs text)) (omega arith))
        ∙ or_true (list_all is_capital (take (max (prefix_len is_capital text) (common refs text)) text))
    reached (inr more) =
        ap (λ (t : Bool). t || starts_with nat_eq refs (take (max (prefix_len is_capital text) (common refs text)) text)) (passed is_capital text (max (prefix_len is_capital text) (common refs text)) (omega arith))

all_capitals : (text : List ℕ) → prefix_len is_capital text ≡ length text → list_all is_capital text ≡ true
all_capitals text all = ap (list_all is_capital) (sym (take_all (length text) text (omega arith))) ∙ passed is_capital text (length text) (omega arith)

not_all_capitals : (text : List ℕ) → prefix_len is_capital text < length text → list_all is_capital text ≡ false
not_all_capitals text less = ap (list_all is_capital) (sym (take_all (length text) text (omega arith))) ∙ stopped is_capital text (length text) less (omega arith)

pub apart : (text : List ℕ) → starts_with nat_eq text refs ≡ false → prefix_len is_capital text ≡ length text → is_empty text ≡ false → full_name_trouble text ≡ None
unfolding is_full_name
apart text off all some =
    let capitals = all_capitals text all in
    ap (λ (t : Bool). cond (is_name false text && (t || list_all is_capital text)) None (Some (full_name_place text))) off
    ∙ ap (λ (t : Bool). cond (is_name false text && t) None (Some (full_name_place text))) capitals
    ∙ ap (λ (t : Bool). cond (t && true) None (Some (full_name_place text))) (capitals-name text capitals some)

-- no full name
refused : (text : List ℕ) → starts_with nat_eq text refs ≡ false → list_all is_capital text ≡ false → is_full_name text ≡ false
unfolding is_full_name
refused text off not_all =
    ap (λ (t : Bool). is_name false text && (t || list_all is_capital text)) off ∙ ap (λ (t : Bool). is_name false text && t) not_all ∙ none (is_name false text)

pub apart_place : (text : List ℕ) → starts_with nat_eq text refs ≡ false → prefix_len is_capital text < length text → full_name_trouble text ≡ Some (max (prefix_len is_capital text) (common refs text))
apart_place text off less =
    ap (λ (t : Bool). cond t None (Some (full_name_place text))) (refused text off (not_all_capitals text less)) ∙ ap Some (place-apart text off)

no_parts : is_full_name [] ≡ false
unfolding is_full_name is_name lock
no_parts = refl

pub empty_place : full_name_trouble [] ≡ Some 0
unfolding refs
empty_place = ap (λ (t : Bool). cond t None (Some (full_name_place []))) no_parts ∙ ap Some (place-apart [] refl)

-- the prefix `refs/` is good
front_good : (rest : List ℕ) → ok false [] (take 5 (refs ++ rest) ++ 97 ∷ []) ≡ true
unfolding refs lock
front_good rest = refl

fits : (rest : List ℕ) → 5 ≤ length (refs ++ rest)
unfolding refs
fits rest = omega arith

deep : (rest : List ℕ) → 5 ≤ scan false [] (refs ++ rest)
deep rest = by_order (cases_lt (scan false [] (refs ++ rest)) 5)
  where
    by_order : (scan false [] (refs ++ rest) < 5) ⊎ (5 ≤ scan false [] (refs ++ rest)) → 5 ≤ scan false [] (refs ++ rest)
    by_order (inl less) = let e : true ≡ false = sym (front_good rest) ∙ past false [] (refs ++ rest) refl 5 less (fits rest) (97 ∷ []) in absurd cc
    by_order (inr more) = more

begins_refs : (rest : List ℕ) (k : ℕ) (x : ℕ) → 5 ≤ k → starts_with nat_eq (take k (refs ++ rest) ++ x ∷ []) refs ≡ true
unfolding refs
begins_refs rest zero x more = absurd (omega arith)
begins_refs rest (suc zero) x more = absurd (omega arith)
begins_refs rest (suc (suc zero)) x more = absurd (omega arith)
begins_refs rest (suc (suc (suc zero))) x more = absurd (omega arith)
begins_refs rest (suc (suc (suc (suc zero)))) x more = absurd (omega arith)
begins_refs rest (suc (suc (suc (suc (suc k))))) x more = refl

beyond_refs : (rest : List ℕ) (k : ℕ) → 5 < k → k ≤ length (refs ++ rest) → starts_with nat_eq refs (take k (refs ++ rest)) ≡ false
unfolding refs
beyond_refs rest zero more within = absurd (omega arith)
beyond_refs rest (suc zero) more within = absurd (omega arith)
beyond_refs rest (suc (suc zero)) more within = absurd (omega arith)
beyond_refs rest (suc (suc (suc zero))) more within = absurd (omega arith)
beyond_refs rest (suc (suc (suc (suc zero)))) more within = absurd (omega arith)
beyond_refs rest (suc (suc (suc (suc (suc zero))))) more within = absurd (omega arith)
beyond_refs [] (suc (suc (suc (suc (suc (suc k)))))) more within = absurd (omega arith)
beyond_refs (x ∷ rest) (suc (suc (suc (suc (suc (suc k)))))) more within = refl

full_is_name : (text : List ℕ) → starts_with nat_eq text refs ≡ true → is_full_name text ≡ is_name false text
unfolding is_full_name
full_is_name text on = ap (λ (t : Bool). is_name false text && (t || list_all is_capital text)) on ∙ and_one (is_name false text)

place-refs : (rest : List ℕ) → full_name_place (refs ++ rest) ≡ scan false [] (refs ++ rest)
unfolding full_name_place
place-refs rest =
    let text = refs ++ rest in
    let m = scan false [] text in
    let low = deep rest in
    greatest-is (λ k. goes_on (take k text)) (length text) m (scan-le false [] text)
    (ap (λ (t : Bool). (t || is_full_name (take m text ++ 65 ∷ [])) || starts_with nat_eq refs (take m text))
    (full_is_name (take m text ++ 97 ∷ []) (begins_refs rest m 97 low) ∙ front-letter false (take m text) ∙ along false [] text refl m (omega arith)))
    (λ k more within.
    ap (λ (t : Bool). (t || is_full_name (take k text ++ 65 ∷ [])) || starts_with nat_eq refs (take k text))
    (full_is_name (take k text ++ 97 ∷ []) (begins_refs rest k 97 (omega arith)) ∙ not_name false (take k text ++ 97 ∷ []) (past false [] text refl k more within (97 ∷ [])))
    ∙ ap (λ (t : Bool). t || starts_with nat_eq refs (take k text))
    (full_is_name (take k text ++ 65 ∷ []) (begins_refs rest k 65 (omega arith)) ∙ not_name false (take k text ++ 65 ∷ []) (past false [] text refl k more within (65 ∷ [])))
    ∙ beyond_refs rest k (omega arith) within)

pub under_refs : (text : List ℕ) → starts_with nat_eq text refs ≡ true → full_name_trouble text ≡ name_trouble false text
under_refs text on =
    let whole : text ≡ refs ++ drop (length refs) text = (starts_is Decides-eqb text refs (starts_with nat_eq text refs) (pointwise_flip refs (take (length refs) text))).0 on in
    ap (λ (t : Bool). cond t None (Some (full_name_place text))) (full_is_name text on)
    ∙ ap (λ (n : ℕ). cond (is_name false text) None (Some n)) (ap full_name_place whole ∙ place-refs (drop (length refs) text) ∙ ap (scan false []) (sym whole) ∙ sym (name_place-scan false text))
  where
    pointwise_flip : (xs ys : List ℕ) → pointwise nat_eq xs ys ≡ pointwise nat_eq xs ys
    pointwise_flip xs ys = refl

-- where neither of a prefix and a word begins with the other, no text that goes on from the prefix begins with the word
off_word : (word p rest : List ℕ) → starts_with nat_eq p word ≡ false → starts_with nat_eq word p ≡ false → starts_with nat_eq (p ++ rest) word ≡ false
off_word word [] rest off back = absurd cc
off_word [] (a ∷ p) rest off back = absurd cc
off_word (x ∷ word) (a ∷ p) rest off back = step (eqb x a) refl off (off_word word p rest)
  where
    step : (t : Bool) → eqb x a ≡ t → (t && starts_with nat_eq p word) ≡ false → (starts_with nat_eq p word ≡ false → starts_with nat_eq word p ≡ false → starts_with nat_eq (p ++ rest) word ≡ false)
        → (t && starts_with nat_eq (p ++ rest) word) ≡ false
    step true is off on =
        let same : x ≡ a = eqb-true x a is in
        let flip : eqb a x ≡ true = ap (λ (y : ℕ). eqb a y) same ∙ sym (ap (λ (y : ℕ). eqb y a) same) ∙ is in
        on off (sym (ap (λ (t : Bool). t && starts_with nat_eq word p) flip) ∙ back)
    step false is off on = refl

-- what is no name is no full name
not_full : (text : List ℕ) → is_name false text ≡ false → is_full_name text ≡ false
unfolding is_full_name
not_full text bad = ap (λ (t : Bool). t && (starts_with nat_eq text refs || list_all is_capital text)) bad

refs_a : is_full_name (refs ++ 97 ∷ []) ≡ true
unfolding is_full_name is_name refs lock
refs_a = refl

-- a prefix of `refs/` goes on to a name
word_on : (p : List ℕ) → starts_with nat_eq refs p ≡ true → (rest : List ℕ) × IsTrue (is_full_name (p ++ rest))
word_on p on =
    let whole : refs ≡ p ++ drop (length p) refs = (starts_is Decides-eqb refs p (starts_with nat_eq refs p) refl).0 on in
    (drop (length p) refs ++ 97 ∷ [], ap is_full_name (sym (append_assoc p (drop (length p) refs) (97 ∷ [])) ∙ ap (λ (q : List ℕ). q ++ 97 ∷ []) (sym whole)) ∙ refs_a)

filled_on : (p : List ℕ) → is_empty (p ++ 65 ∷ []) ≡ false
filled_on [] = refl
filled_on (a ∷ p) = refl

capitals_full : (p : List ℕ) → list_all is_capital (p ++ 65 ∷ []) ≡ true → is_full_name (p ++ 65 ∷ []) ≡ true
unfolding is_full_name
capitals_full p all =
    ap (λ (t : Bool). is_name false (p ++ 65 ∷ []) && (starts_with nat_eq (p ++ 65 ∷ []) refs || t)) all
    ∙ ap (λ (t : Bool). is_name false (p ++ 65 ∷ []) && t) (or_true (starts_with nat_eq (p ++ 65 ∷ []) refs))
    ∙ and_one (is_name false (p ++ 65 ∷ [])) ∙ capitals-name (p ++ 65 ∷ []) all (filled_on p)

-- capitals go on to a name
capitals_on : (p : List ℕ) → list_all is_capital p ≡ true → (rest : List ℕ) × IsTrue (is_full_name (p ++ rest))
capitals_on p all = (65 ∷ [], capitals_full p (list_all-append is_capital p (65 ∷ []) ∙ ap (λ (t : Bool). t && true) all))

longest-apart : (text : List ℕ) → starts_with nat_eq text refs ≡ false → IsLongestBeginning is_full_name text (full_name_place text)
longest-apart text off =
    let n = prefix_len is_capital text in
    let m = common refs text in
    let place : full_name_place text ≡ max n m = place-apart text off in
    record {
      within = omega (arith, place, prefix_len-le-length is_capital text, common-le refs text);
      begins = rw place (begins (cases_lt n m));
      longest = λ k more within rest. beyond k rest (omega (arith, place)) (omega (arith, place)) within;
    }
  where
    begins : (prefix_len is_capital text < common refs text) ⊎ (common refs text ≤ prefix_len is_capital text)
        → (rest : List ℕ) × IsTrue (is_full_name (take (max (prefix_len is_capital text) (common refs text)) text ++ rest))
    begins (inl less) = word_on (take (max (prefix_len is_capital text) (common refs text)) text) (shared refs text (max (prefix_len is_capital text) (common refs text)) (omega arith))
    begins (inr more) = capitals_on (take (max (prefix_len is_capital text) (common refs text)) text) (passed is_capital text (max (prefix_len is_capital text) (common refs text)) (omega arith))

    beyond : (k : ℕ) (rest : List ℕ) → prefix_len is_capital text < k → common refs text < k → k ≤ length text → is_full_name (take k text ++ rest) ≡ false
    beyond k rest capitals word within =
        refused (take k text ++ rest) (off_word refs (take k text) rest (starts-take text k off) (parted refs text k word within))
        (list_all-append is_capital (take k text) rest ∙ ap (λ (t : Bool). t && list_all is_capital rest) (stopped is_capital text k capitals within))

longest-under : (text : List ℕ) (rest : List ℕ) → text ≡ refs ++ rest → IsLongestBeginning is_full_name text (full_name_place text)
longest-under text rest whole =
    let m = scan false [] (refs ++ rest) in
    let place : full_name_place (refs ++ rest) ≡ m = place-refs rest in
    let low : 5 ≤ m = deep rest in
    let good : is_full_name (take m (refs ++ rest) ++ 97 ∷ []) ≡ true =
    full_is_name (take m (refs ++ rest) ++ 97 ∷ []) (begins_refs rest m 97 low) ∙ front-letter false (take m (refs ++ rest)) ∙ along false [] (refs ++ rest) refl m (omega arith) in
    let law : IsLongestBeginning is_full_name (refs ++ rest) (full_name_place (refs ++ rest)) = record {
      within = omega (arith, place, scan-le false [] (refs ++ rest));
      begins = (97 ∷ [], ap (λ (n : ℕ). is_full_name (take n (refs ++ rest) ++ 97 ∷ [])) place ∙ good);
      longest = λ k more within tail. not_full (take k (refs ++ rest) ++ tail) (not_name false (take k (refs ++ rest) ++ tail) (past false [] (refs ++ rest) refl k (omega (arith, place)) within tail));
    } in
    subst (λ (t : List ℕ). IsLongestBeginning is_full_name t (full_name_place t)) (sym whole) law

pub full_place_is_longest : (text : List ℕ) → IsLongestBeginning is_full_name text (full_name_place text)
full_place_is_longest text = by_front (starts_with nat_eq text refs) refl
  where
    by_front : (t : Bool) → starts_with nat_eq text refs ≡ t → IsLongestBeginning is_full_name text (full_name_place text)
    by_front true on = longest-under text (drop (length refs) text) ((starts_is Decides-eqb text refs (starts_with nat_eq text refs) refl).0 on)
    by_front false off = longest-apart text off
