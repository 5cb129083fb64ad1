-- The longest prefix of a text that begins a name.
use Rattle.std.proofs.Common.{◌≡◌, ℕ, zero, suc, ◌+◌, ◌<◌, ◌≤◌, Bool, true, false, cond, not, ◌&&◌, eqb, List, [], ◌∷◌, ◌++◌, length, take, Some, None, refl, sym, ap, ◌∙◌, arith, append_assoc, append-nil}
use Rattle.std.specs.List.{list_all, slice_split, onto_first}
use Rattle.std.specs.Str.{bytes_eq}
use Rattle.std.proofs.lemmas.Bool.{and_parts}
use Rattle.std.proofs.lemmas.List.{take_all}
use Rattle.fetch_specs.specs.Names.{last_is, is_component, components, is_name, greatest, name_place, name_trouble, IsLongestBeginning}
use Rattle.fetch_specs.specs.Scans.{may_end, may_extend, may_follow, onward, scan, last_part}
use Rattle.fetch_specs.proofs.Components.{core, core-push, component-letter, component-is, false_from, last_is-push}

-- the parts of a text, the first one going on from c
abbrev pub parts : List ℕ → List ℕ → List (List ℕ)
parts c [] = c ∷ []
parts c (b ∷ bs) = cond (eqb b 47) (c ∷ parts [] bs) (parts (c ++ b ∷ []) bs)

abbrev glue : List ℕ → List (List ℕ) → List (List ℕ)
glue c [] = c ∷ []
glue c (x ∷ xs) = (c ++ x) ∷ xs

glue-onto : (c : List ℕ) (b : ℕ) (xs : List (List ℕ)) → glue (c ++ b ∷ []) xs ≡ glue c (onto_first b xs)
glue-onto c b [] = refl
glue-onto c b (x ∷ xs) = ap (λ (y : List ℕ). y ∷ xs) (append_assoc c (b ∷ []) x)

glue-empty : (b : ℕ) (bs : List ℕ) → glue [] (slice_split (λ b. eqb b 47) bs) ≡ slice_split (λ b. eqb b 47) bs
glue-empty b [] = refl
glue-empty b (x ∷ bs) = by_test (eqb x 47) (slice_split (λ b. eqb b 47) bs)
  where
    by_test : (t : Bool) (xs : List (List ℕ)) → glue [] (cond t ([] ∷ xs) (onto_first x xs)) ≡ cond t ([] ∷ xs) (onto_first x xs)
    by_test true xs = refl
    by_test false [] = refl
    by_test false (y ∷ ys) = refl

glue-step : (c : List ℕ) (b : ℕ) (bs : List ℕ) (t : Bool) → parts [] bs ≡ slice_split (λ b. eqb b 47) bs → parts (c ++ b ∷ []) bs ≡ glue (c ++ b ∷ []) (slice_split (λ b. eqb b 47) bs)
    → cond t (c ∷ parts [] bs) (parts (c ++ b ∷ []) bs) ≡ glue c (cond t ([] ∷ slice_split (λ b. eqb b 47) bs) (onto_first b (slice_split (λ b. eqb b 47) bs)))
glue-step c b bs true anew on =
    ap (λ (ys : List (List ℕ)). c ∷ ys) anew ∙ ap (λ (y : List ℕ). y ∷ slice_split (λ b. eqb b 47) bs) (sym (append-nil c))
glue-step c b bs false anew on = on ∙ glue-onto c b (slice_split (λ b. eqb b 47) bs)

parts-glue : (c bs : List ℕ) → parts c bs ≡ glue c (slice_split (λ b. eqb b 47) bs)
parts-glue c [] = ap (λ (y : List ℕ). y ∷ []) (sym (append-nil c))
parts-glue c (b ∷ bs) = glue-step c b bs (eqb b 47) (parts-glue [] bs ∙ glue-empty b bs) (parts-glue (c ++ b ∷ []) bs)

pub components-parts : (text : List ℕ) → components text ≡ parts [] text
components-parts text = sym (parts-glue [] text ∙ glue-empty 0 text)

abbrev pub ok : Bool → List ℕ → List ℕ → Bool
ok star c bs = list_all (is_component star) (parts c bs)

pub none : (t : Bool) → (t && false) ≡ false
none true = refl
none false = refl

first_good : (star : Bool) (c : List ℕ) (t : Bool) → (is_component star c && t) ≡ true → core star c ≡ true
first_good star c t all = (and_parts (core star c) (may_end c) (sym (component-is star c) ∙ (and_parts (is_component star c) t all).0)).0

core-step : (star : Bool) (c : List ℕ) (b : ℕ) (bs : List ℕ) (t : Bool) → (ok star (c ++ b ∷ []) bs ≡ true → core star (c ++ b ∷ []) ≡ true)
    → list_all (is_component star) (cond t (c ∷ parts [] bs) (parts (c ++ b ∷ []) bs)) ≡ true → core star c ≡ true
core-step star c b bs true on all = first_good star c (ok star [] bs) all
core-step star c b bs false on all = (and_parts (core star c) (may_extend star c b) (sym (core-push star c b) ∙ on all)).0

-- where all parts are good, the first one was
core-from : (star : Bool) (c bs : List ℕ) → ok star c bs ≡ true → core star c ≡ true
core-from star c [] all = first_good star c true all
core-from star c (b ∷ bs) all = core-step star c b bs (eqb b 47) (core-from star (c ++ b ∷ []) bs) all

-- one byte more
more_core : (star : Bool) (c : List ℕ) (b : ℕ) (t : Bool) → core star c ≡ true → may_extend star c b ≡ t → core star (c ++ b ∷ []) ≡ t
more_core star c b t good follows = core-push star c b ∙ ap (λ (t : Bool). t && may_extend star c b) good ∙ follows

ends : (star : Bool) (c : List ℕ) (t : Bool) → core star c ≡ true → may_end c ≡ t → is_component star c ≡ t
ends star c t good follows = component-is star c ∙ ap (λ (t : Bool). t && may_end c) good ∙ follows

past-step : (star : Bool) (c : List ℕ) (b : ℕ) (bs : List ℕ) (k : ℕ) (rest : List ℕ) (t f : Bool) → core star c ≡ true
    → (scan star [] bs < k → ok star [] (take k bs ++ rest) ≡ false)
    → (core star (c ++ b ∷ []) ≡ true → scan star (c ++ b ∷ []) bs < k → ok star (c ++ b ∷ []) (take k bs ++ rest) ≡ false)
    → cond t (may_end c) (may_extend star c b) ≡ f → cond f (scan star (cond t [] (c ++ b ∷ [])) bs + 1) 0 < suc k
    → list_all (is_component star) (cond t (c ∷ parts [] (take k bs ++ rest)) (parts (c ++ b ∷ []) (take k bs ++ rest))) ≡ false
past-step star c b bs k rest true true good anew on follows more =
    ap (λ (t : Bool). is_component star c && t) (anew (omega arith)) ∙ none (is_component star c)
past-step star c b bs k rest true false good anew on follows more =
    ap (λ (t : Bool). t && ok star [] (take k bs ++ rest)) (ends star c false good follows)
past-step star c b bs k rest false true good anew on follows more = on (more_core star c b true good follows) (omega arith)
past-step star c b bs k rest false false good anew on follows more =
    false_from _ (λ all. let e : true ≡ false = sym (core-from star (c ++ b ∷ []) (take k bs ++ rest) all) ∙ more_core star c b false good follows in cc)

-- no prefix that is longer than what was scanned begins a name
pub past : (star : Bool) (c bs : List ℕ) → core star c ≡ true → (k : ℕ) → scan star c bs < k → k ≤ length bs → (rest : List ℕ) → ok star c (take k bs ++ rest) ≡ false
past star c [] good k more within rest = absurd (omega arith)
past star c (b ∷ bs) good zero more within rest = absurd (omega arith)
past star c (b ∷ bs) good (suc k) more within rest =
    past-step star c b bs k rest (eqb b 47) (may_follow star c b) good (λ less. past star [] bs refl k less (omega arith) rest)
    (λ so less. past star (c ++ b ∷ []) bs so k less (omega arith) rest) refl more

along-step : (star : Bool) (c : List ℕ) (b : ℕ) (bs : List ℕ) (k : ℕ) (t f : Bool) → core star c ≡ true
    → (k ≤ scan star [] bs → ok star [] (take k bs ++ 97 ∷ []) ≡ true)
    → (core star (c ++ b ∷ []) ≡ true → k ≤ scan star (c ++ b ∷ []) bs → ok star (c ++ b ∷ []) (take k bs ++ 97 ∷ []) ≡ true)
    → cond t (may_end c) (may_extend star c b) ≡ f → suc k ≤ cond f (scan star (cond t [] (c ++ b ∷ [])) bs + 1) 0
    → list_all (is_component star) (cond t (c ∷ parts [] (take k bs ++ 97 ∷ [])) (parts (c ++ b ∷ []) (take k bs ++ 97 ∷ []))) ≡ true
along-step star c b bs k true true good anew on follows within =
    ap (λ (t : Bool). t && ok star [] (take k bs ++ 97 ∷ [])) (ends star c true good follows) ∙ anew (omega arith)
along-step star c b bs k false true good anew on follows within = on (more_core star c b true good follows) (omega arith)
along-step star c b bs k true false good anew on follows within = absurd (omega arith)
along-step star c b bs k false false good anew on follows within = absurd (omega arith)

-- each prefix of what was scanned begins one, by a letter
pub along : (star : Bool) (c bs : List ℕ) → core star c ≡ true → (k : ℕ) → k ≤ scan star c bs → ok star c (take k bs ++ 97 ∷ []) ≡ true
along star c [] good zero within = ap (λ (t : Bool). t && true) (component-letter star c good)
along star c [] good (suc k) within = absurd (omega arith)
along star c (b ∷ bs) good zero within = ap (λ (t : Bool). t && true) (component-letter star c good)
along star c (b ∷ bs) good (suc k) within =
    along-step star c b bs k (eqb b 47) (may_follow star c b) good (along star [] bs refl k) (λ so. along star (c ++ b ∷ []) bs so k) refl within

end-step : (star : Bool) (c : List ℕ) (b : ℕ) (bs : List ℕ) (t f : Bool) → core star c ≡ true
    → (scan star [] bs ≡ length bs → ok star [] bs ≡ may_end (last_part [] bs))
    → (core star (c ++ b ∷ []) ≡ true → scan star (c ++ b ∷ []) bs ≡ length bs → ok star (c ++ b ∷ []) bs ≡ may_end (last_part (c ++ b ∷ []) bs))
    → cond t (may_end c) (may_extend star c b) ≡ f → cond f (scan star (cond t [] (c ++ b ∷ [])) bs + 1) 0 ≡ suc (length bs)
    → list_all (is_component star) (cond t (c ∷ parts [] bs) (parts (c ++ b ∷ []) bs)) ≡ may_end (last_part (cond t [] (c ++ b ∷ [])) bs)
end-step star c b bs true true good anew on follows all =
    ap (λ (t : Bool). t && ok star [] bs) (ends star c true good follows) ∙ anew (omega arith)
end-step star c b bs false true good anew on follows all = on (more_core star c b true good follows) (omega arith)
end-step star c b bs true false good anew on follows all = absurd (omega arith)
end-step star c b bs false false good anew on follows all = absurd (omega arith)

-- where all was scanned, the last part decides
at_end : (star : Bool) (c bs : List ℕ) → core star c ≡ true → scan star c bs ≡ length bs → ok star c bs ≡ may_end (last_part c bs)
at_end star c [] good all = and_one (is_component star c) ∙ ends star c (may_end c) good refl
  where
    and_one : (t : Bool) → (t && true) ≡ t
    and_one true = refl
    and_one false = refl
at_end star c (b ∷ bs) good all =
    end-step star c b bs (eqb b 47) (may_follow star c b) good (at_end star [] bs refl) (at_end star (c ++ b ∷ []) bs) refl all

le-step : (f : Bool) (n len : ℕ) → n ≤ len → cond f (n + 1) 0 ≤ suc len
le-step true n len within = omega arith
le-step false n len within = omega arith

pub scan-le : (star : Bool) (c bs : List ℕ) → scan star c bs ≤ length bs
scan-le star c [] = omega arith
scan-le star c (b ∷ bs) = le-step (may_follow star c b) (scan star (onward c b) bs) (length bs) (scan-le star (onward c b) bs)

greatest-step : (passes : ℕ → Bool) (n m : ℕ) (t : Bool) → m ≤ suc n → passes m ≡ true → ((k : ℕ) → m < k → k ≤ suc n → passes k ≡ false)
    → (m ≤ n → greatest passes n ≡ m) → passes (suc n) ≡ t → cond t (suc n) (greatest passes n) ≡ m
greatest-step passes n m true within here beyond below is = omega (arith, wrong)
  where
    wrong : m < suc n → ⊥
    wrong less = let e : true ≡ false = sym is ∙ beyond (suc n) less (omega arith) in cc
greatest-step passes n m false within here beyond below is = below (omega (arith, wrong))
  where
    wrong : m ≡ suc n → ⊥
    wrong same = let e : true ≡ false = sym here ∙ ap passes same ∙ is in cc

pub greatest-is : (passes : ℕ → Bool) (n m : ℕ) → m ≤ n → passes m ≡ true → ((k : ℕ) → m < k → k ≤ n → passes k ≡ false) → greatest passes n ≡ m
greatest-is passes zero m within here beyond = omega arith
greatest-is passes (suc n) m within here beyond =
    greatest-step passes n m (passes (suc n)) within here beyond (λ less. greatest-is passes n m less here (λ k more k_in. beyond k more (omega arith))) refl

-- a name of a prefix and a letter
pub front-letter : (star : Bool) (front : List ℕ) → is_name star (front ++ 97 ∷ []) ≡ ok star [] (front ++ 97 ∷ [])
unfolding is_name
front-letter star front =
    ap (λ (xs : List (List ℕ)). list_all (is_component star) xs && not (last_is 46 (front ++ 97 ∷ [])) && not (bytes_eq (front ++ 97 ∷ []) (64 ∷ []))) (components-parts (front ++ 97 ∷ []))
    ∙ ap (λ (t : Bool). ok star [] (front ++ 97 ∷ []) && not t && not (bytes_eq (front ++ 97 ∷ []) (64 ∷ []))) (last_is-push 46 front 97)
    ∙ ap (λ (t : Bool). ok star [] (front ++ 97 ∷ []) && true && not t) (other front)
    ∙ two (ok star [] (front ++ 97 ∷ []))
  where
    other : (front : List ℕ) → bytes_eq (front ++ 97 ∷ []) (64 ∷ []) ≡ false
    other [] = refl
    other (a ∷ []) = none (eqb a 64)
    other (a ∷ b ∷ front) = none (eqb a 64)

    two : (t : Bool) → (t && true && true) ≡ t
    two true = refl
    two false = refl

pub name_place-scan : (star : Bool) (text : List ℕ) → name_place star text ≡ scan star [] text
unfolding name_place
name_place-scan star text =
    greatest-is (λ k. is_name star (take k text ++ 97 ∷ [])) (length text) (scan star [] text) (scan-le star [] text)
    (front-letter star (take (scan star [] text) text) ∙ along star [] text refl (scan star [] text) (omega arith))
    (λ k more within. front-letter star (take k text) ∙ past star [] text refl k more within (97 ∷ []))

-- a text whose parts aren't good is no name
pub not_name : (star : Bool) (text : List ℕ) → ok star [] text ≡ false → is_name star text ≡ false
unfolding is_name
not_name star text bad =
    ap (λ (t : Bool). t && not (last_is 46 text) && not (bytes_eq text (64 ∷ []))) (ap (list_all (is_component star)) (components-parts text) ∙ bad)

pub place_is_longest : (star : Bool) (text : List ℕ) → IsLongestBeginning (is_name star) text (name_place star text)
place_is_longest star text =
    let place = name_place-scan star text in
    record {
      within = omega (arith, place, scan-le star [] text);
      begins = (97 ∷ [], ap (λ (n : ℕ). is_name star (take n text ++ 97 ∷ [])) place ∙ front-letter star (take (scan star [] text) text) ∙ along star [] text refl (scan star [] text) (omega arith));
      longest = λ k more within rest. not_name star (take k text ++ rest) (past star [] text refl k (omega (arith, place)) within rest);
    }

-- a text that can't go on somewhere
pub stuck : (star : Bool) (text : List ℕ) → scan star [] text < length text → name_trouble star text ≡ Some (scan star [] text)
stuck star text short =
    let whole : take (length text) text ++ [] ≡ text = append-nil (take (length text) text) ∙ take_all (length text) text (omega arith) in
    let bad : ok star [] text ≡ false = ap (ok star []) (sym whole) ∙ past star [] text refl (length text) short (omega arith) [] in
    ap (λ (t : Bool). cond t None (Some (name_place star text))) (not_name star text bad) ∙ ap Some (name_place-scan star text)

-- a text that was scanned to its end
pub whole : (star : Bool) (text : List ℕ) → scan star [] text ≡ length text
    → name_trouble star text ≡ cond (may_end (last_part [] text) && not (last_is 46 text) && not (bytes_eq text (64 ∷ []))) None (Some (length text))
unfolding is_name
whole star text all =
    ap (λ (t : Bool). cond (t && not (last_is 46 text) && not (bytes_eq text (64 ∷ []))) None (Some (name_place star text))) (ap (list_all (is_component star)) (components-parts text) ∙ at_end star [] text refl all)
    ∙ ap (λ (n : ℕ). cond (may_end (last_part [] text) && not (last_is 46 text) && not (bytes_eq text (64 ∷ []))) None (Some n)) (name_place-scan star text ∙ all)
