-- What a spec prints says the spec again.
use Rattle.std.proofs.Common.{◌≡◌, ℕ, zero, suc, ◌+◌, ◌<◌, Bool, true, false, cond, not, ◌&&◌, ◌||◌, eqb, ltb, List, [], ◌∷◌, ◌++◌, length, take, drop, Option, Some, None, Ok, Err, refl, sym, ap, subst, ◌∙◌, arith}
use Rattle.std.specs.Prelude.{position, is_some}
use Rattle.std.specs.List.{list_any, position_or_len}
use Rattle.std.specs.Str.{bytes_eq}
use Rattle.std.proofs.lemmas.Bool.{lt-ltb, le-ltb, ltb-false, eqb-true}
use Rattle.std.proofs.lemmas.List.{length-append, take_all}
use Rattle.fetch_specs.specs.declared.operation.Operation.{Operation}
use Rattle.fetch_specs.specs.declared.operation.Operation.TheVariants.{Push, Fetch}
use Rattle.fetch_specs.specs.declared.operation.Mode.{Mode}
use Rattle.fetch_specs.specs.declared.operation.Mode.TheVariants.{Normal, Force, Exclusion}
use Rattle.fetch_specs.specs.declared.error.SpecError.TheVariants as errors
use Rattle.fetch_specs.specs.Names.{first_is, is_empty}
use Rattle.fetch_specs.specs.Specs.{Spec}
use Rattle.fetch_specs.specs.Parses.{id_named, head, is_blank, side_of, source_of, stars, is_unbalanced, source_trouble, destination_trouble, admitted, judged, sides, cut, divided, excluded, parsed, sides_text, IsSpec}

-- whether a text has a colon
abbrev has_colon : List ℕ → Bool
has_colon text = list_any (λ b. eqb b 58) text

-- the side as a text
abbrev text_of : Option (List ℕ) → List ℕ
text_of None = []
text_of (Some text) = text

source-again : (operation : Operation) (text : List ℕ) → source_of operation (text_of (source_of operation text)) ≡ source_of operation text
unfolding head
source-again Fetch [] = refl
source-again Push [] = refl
source-again operation (b ∷ bs) = by_test operation (bytes_eq (b ∷ bs) (64 ∷ [])) refl
  where
    by_test : (operation : Operation) (t : Bool) → bytes_eq (b ∷ bs) (64 ∷ []) ≡ t → source_of operation (text_of (cond t (Some head) (Some (b ∷ bs)))) ≡ cond t (Some head) (Some (b ∷ bs))
    by_test Fetch true is = refl
    by_test Push true is = refl
    by_test Fetch false is = ap (λ (t : Bool). cond t (Some head) (Some (b ∷ bs))) is
    by_test Push false is = ap (λ (t : Bool). cond t (Some head) (Some (b ∷ bs))) is

side-again : (text : List ℕ) → side_of (text_of (side_of text)) ≡ side_of text
side-again [] = refl
side-again (b ∷ bs) = refl

-- sides that are accepted are accepted at any place
admitted-is : (spec found : Spec) (mark at mark' at' : ℕ) (s d : Option ℕ) → admitted spec mark at s d ≡ Ok found → (admitted spec mark' at' s d ≡ Ok found) × (spec ≡ found)
admitted-is spec found mark at mark' at' (Some s) d is = absurd cc
admitted-is spec found mark at mark' at' None (Some d) is = absurd cc
admitted-is spec found mark at mark' at' None None is = (is, cc)

judged-is : (spec found : Spec) (mark at mark' at' : ℕ) → judged spec mark at ≡ Ok found → (judged spec mark' at' ≡ Ok found) × (spec ≡ found)
judged-is spec found mark at mark' at' is = by_stars (ltb 1 (stars spec.source) || ltb 1 (stars spec.destination)) (is_unbalanced spec.source spec.destination) is
  where
    by_stars : (two other : Bool)
        → cond two (Err errors.PatternUnsupported) (cond other (Err errors.PatternUnbalanced) (admitted spec mark at (source_trouble spec.source) (destination_trouble spec.destination))) ≡ Ok found
        → (cond two (Err errors.PatternUnsupported) (cond other (Err errors.PatternUnbalanced) (admitted spec mark' at' (source_trouble spec.source) (destination_trouble spec.destination))) ≡ Ok found) × (spec ≡ found)
    by_stars true other is = absurd cc
    by_stars false true is = absurd cc
    by_stars false false is = admitted-is spec found mark at mark' at' (source_trouble spec.source) (destination_trouble spec.destination) is

-- the spec of two sides
abbrev spec_of : Operation → Mode → List ℕ → List ℕ → Spec
spec_of operation mode s d = record { operation = operation; mode = mode; source = source_of operation s; destination = side_of d }

record IsAccepted (spec found : Spec) : Type 0 where
  same : spec ≡ found
  anywhere : (mark at : ℕ) → judged spec mark at ≡ Ok spec

accepted : (operation : Operation) (mode : Mode) (mark : ℕ) (s : List ℕ) (at : ℕ) (d : List ℕ) (found : Spec) → sides operation mode mark s at d ≡ Ok found → IsAccepted (spec_of operation mode s d) found
accepted operation mode mark s at d found is =
    let same = (judged-is (spec_of operation mode s d) found mark at mark at is).1 in
    record { same = same; anywhere = λ mark' at'. (judged-is (spec_of operation mode s d) found mark at mark' at' is).0 ∙ ap Ok (sym same) }

-- the sides as they are written are judged alike
sides-again : (operation : Operation) (mode : Mode) (s d : List ℕ) (mark at : ℕ) → sides operation mode mark (text_of (source_of operation s)) at (text_of (side_of d)) ≡ judged (spec_of operation mode s d) mark at
sides-again operation mode s d mark at =
    ap (λ (o : Option (List ℕ)). judged (record { operation = operation; mode = mode; source = o; destination = side_of (text_of (side_of d)) }) mark at) (source-again operation s)
    ∙ ap (λ (o : Option (List ℕ)). judged (record { operation = operation; mode = mode; source = source_of operation s; destination = o }) mark at) (side-again d)

-- the first colon of a text that has none before it
first_colon : (s d : List ℕ) → has_colon s ≡ false → position_or_len (λ b. eqb b 58) (s ++ 58 ∷ d) ≡ length s
first_colon [] d plain = refl
first_colon (b ∷ s) d plain = step (eqb b 58) plain (first_colon s d)
  where
    step : (t : Bool) → (t || has_colon s) ≡ false → (has_colon s ≡ false → position_or_len (λ b. eqb b 58) (s ++ 58 ∷ d) ≡ length s)
        → cond (not t) (1 + position_or_len (λ b. eqb b 58) (s ++ 58 ∷ d)) 0 ≡ suc (length s)
    step true plain on = absurd cc
    step false plain on = omega (arith, on plain)

no_colon : (s : List ℕ) → has_colon s ≡ false → position_or_len (λ b. eqb b 58) s ≡ length s
no_colon [] plain = refl
no_colon (b ∷ s) plain = step (eqb b 58) plain (no_colon s)
  where
    step : (t : Bool) → (t || has_colon s) ≡ false → (has_colon s ≡ false → position_or_len (λ b. eqb b 58) s ≡ length s) → cond (not t) (1 + position_or_len (λ b. eqb b 58) s) 0 ≡ suc (length s)
    step true plain on = absurd cc
    step false plain on = omega (arith, on plain)

before_colon : (body : List ℕ) → has_colon (take (position_or_len (λ b. eqb b 58) body) body) ≡ false
before_colon [] = refl
before_colon (b ∷ body) = step (eqb b 58) refl (before_colon body)
  where
    step : (t : Bool) → eqb b 58 ≡ t → has_colon (take (position_or_len (λ b. eqb b 58) body) body) ≡ false
        → has_colon (take (cond (not t) (1 + position_or_len (λ b. eqb b 58) body) 0) (b ∷ body)) ≡ false
    step true is on = refl
    step false is on =
        let one : 1 + position_or_len (λ b. eqb b 58) body ≡ suc (position_or_len (λ b. eqb b 58) body) = omega arith in
        ap (λ (n : ℕ). has_colon (take n (b ∷ body))) one ∙ ap (λ (t : Bool). t || has_colon (take (position_or_len (λ b. eqb b 58) body) body)) is ∙ on

found_colon : (text : List ℕ) (n : ℕ) → position_or_len (λ b. eqb b 58) text ≡ n → n < length text → position (λ b. eqb b 58) text ≡ Some n
found_colon text n is less = ap (λ (k : ℕ). cond (ltb k (length text)) (Some k) None) is ∙ ap (λ (t : Bool). cond t (Some n) None) (lt-ltb n (length text) less)

missed_colon : (text : List ℕ) → has_colon text ≡ false → position (λ b. eqb b 58) text ≡ None
missed_colon text plain = ap (λ (t : Bool). cond t (Some (position_or_len (λ b. eqb b 58) text)) None) (le-ltb (position_or_len (λ b. eqb b 58) text) (length text) (omega (arith, no_colon text plain)))

-- where both sides are written with a colon between, it divides them
record Divides (operation : Operation) (mode : Mode) (mark : ℕ) (source destination : Option (List ℕ)) : Type 0 where
  at : ℕ
  is : divided operation mode mark (sides_text source destination) ≡ sides operation mode mark (text_of source) at (text_of destination)

at_colon : (operation : Operation) (mode : Mode) (mark : ℕ) (s d : List ℕ) → has_colon s ≡ false → divided operation mode mark (s ++ 58 ∷ d) ≡ sides operation mode mark s (mark + length s + 1) d
at_colon operation mode mark s d plain =
    ap (cut operation mode mark (s ++ 58 ∷ d)) (found_colon (s ++ 58 ∷ d) (length s) (first_colon s d plain) (omega (arith, length-append s (58 ∷ d))))
    ∙ ap (λ (t : List ℕ). sides operation mode mark t (mark + length s + 1) (drop (length s + 1) (s ++ 58 ∷ d))) (front s)
    ∙ ap (sides operation mode mark s (mark + length s + 1)) (back s)
  where
    front : (s : List ℕ) → take (length s) (s ++ 58 ∷ d) ≡ s
    front [] = refl
    front (b ∷ s) = ap (λ (t : List ℕ). b ∷ t) (front s)

    back : (s : List ℕ) → drop (length s + 1) (s ++ 58 ∷ d) ≡ d
    back [] = refl
    back (b ∷ s) = let n : suc (length s) + 1 ≡ suc (length s + 1) = omega arith in ap (λ (n : ℕ). drop n (b ∷ s ++ 58 ∷ d)) n ∙ back s

divides : (operation : Operation) (mode : Mode) (mark : ℕ) (source destination : Option (List ℕ)) → has_colon (text_of source) ≡ false → Divides operation mode mark source destination
divides operation mode mark None None plain = record { at = mark + 0 + 1; is = at_colon operation mode mark [] [] refl }
divides operation mode mark None (Some d) plain = record { at = mark + 0 + 1; is = at_colon operation mode mark [] d refl }
divides operation mode mark (Some s) (Some d) plain = record { at = mark + length s + 1; is = at_colon operation mode mark s d plain }
divides operation mode mark (Some s) None plain = record { at = mark + length s; is = ap (cut operation mode mark s) (missed_colon s plain) }

source-plain : (operation : Operation) (s : List ℕ) → has_colon s ≡ false → has_colon (text_of (source_of operation s)) ≡ false
unfolding head
source-plain Fetch [] plain = refl
source-plain Push [] plain = refl
source-plain operation (b ∷ bs) plain = step operation (bytes_eq (b ∷ bs) (64 ∷ []))
  where
    step : (operation : Operation) (t : Bool) → has_colon (text_of (cond t (Some head) (Some (b ∷ bs)))) ≡ false
    step operation true = refl
    step operation false = plain

-- the sides are written so that they are read again
divided-again : (operation : Operation) (mode : Mode) (mark : ℕ) (s d : List ℕ) → has_colon s ≡ false → ((mark at : ℕ) → judged (spec_of operation mode s d) mark at ≡ Ok (spec_of operation mode s d))
    → divided operation mode mark (sides_text (source_of operation s) (side_of d)) ≡ Ok (spec_of operation mode s d)
divided-again operation mode mark s d plain good =
    let there = divides operation mode mark (source_of operation s) (side_of d) (source-plain operation s plain) in
    there.is ∙ sides-again operation mode s d mark there.at ∙ good mark there.at

-- what is written begins as it was read, or by `H` or a colon
leads : (x : ℕ) (operation : Operation) (s d : List ℕ) → eqb 72 x ≡ false → eqb 58 x ≡ false → first_is x s ≡ false → first_is x (sides_text (source_of operation s) (side_of d)) ≡ false
unfolding head
leads x Fetch [] [] h c first = h
leads x Fetch [] (y ∷ ys) h c first = h
leads x Push [] [] h c first = c
leads x Push [] (y ∷ ys) h c first = c
leads x operation (b ∷ bs) d h c first = step (bytes_eq (b ∷ bs) (64 ∷ [])) d
  where
    step : (t : Bool) (d : List ℕ) → first_is x (sides_text (cond t (Some head) (Some (b ∷ bs))) (side_of d)) ≡ false
    step true [] = h
    step true (y ∷ ys) = h
    step false [] = first
    step false (y ∷ ys) = first

filled : (operation : Operation) (s d : List ℕ) → is_empty (sides_text (source_of operation s) (side_of d)) ≡ false
unfolding head
filled Fetch [] [] = refl
filled Fetch [] (y ∷ ys) = refl
filled Push [] [] = refl
filled Push [] (y ∷ ys) = refl
filled operation (b ∷ bs) d = step (bytes_eq (b ∷ bs) (64 ∷ [])) d
  where
    step : (t : Bool) (d : List ℕ) → is_empty (sides_text (cond t (Some head) (Some (b ∷ bs))) (side_of d)) ≡ false
    step true [] = refl
    step true (y ∷ ys) = refl
    step false [] = refl
    step false (y ∷ ys) = refl

not_blank : (operation : Operation) (text : List ℕ) → first_is 94 text ≡ false → first_is 43 text ≡ false → is_empty text ≡ false → is_blank operation text ≡ false
not_blank operation [] caret plus some = absurd cc
not_blank Fetch (b ∷ bs) caret plus some = ap (λ (t : Bool). t && bytes_eq bs []) caret
not_blank Push (b ∷ bs) caret plus some = ap (λ (t : Bool). ((t && bytes_eq bs []) || false) || (eqb b 43 && bytes_eq bs [])) caret ∙ ap (λ (t : Bool). t && bytes_eq bs []) plus

marked_not_blank : (operation : Operation) (text : List ℕ) → is_empty text ≡ false → is_blank operation (43 ∷ text) ≡ false
marked_not_blank operation [] some = absurd cc
marked_not_blank Fetch (b ∷ bs) some = refl
marked_not_blank Push (b ∷ bs) some = refl

excluding_not_blank : (operation : Operation) (text : List ℕ) → is_empty text ≡ false → is_blank operation (94 ∷ text) ≡ false
excluding_not_blank operation [] some = absurd cc
excluding_not_blank Fetch (b ∷ bs) some = refl
excluding_not_blank Push (b ∷ bs) some = refl

normal-again : (operation : Operation) (s d : List ℕ) → has_colon s ≡ false → first_is 94 s ≡ false → first_is 43 s ≡ false
    → ((mark at : ℕ) → judged (spec_of operation Normal s d) mark at ≡ Ok (spec_of operation Normal s d)) → IsSpec (spec_of operation Normal s d)
unfolding parsed
normal-again operation s d plain caret plus good =
    let text = sides_text (source_of operation s) (side_of d) in
    let caret' = leads 94 operation s d refl refl caret in
    let plus' = leads 43 operation s d refl refl plus in
    ap (λ (t : Bool). cond t (Err errors.Empty) (cond (first_is 94 text) (excluded operation (drop 1 text)) (cond (first_is 43 text) (divided operation Force 1 (drop 1 text)) (divided operation Normal 0 text)))) (not_blank operation text caret' plus' (filled operation s d))
    ∙ ap (λ (t : Bool). cond t (excluded operation (drop 1 text)) (cond (first_is 43 text) (divided operation Force 1 (drop 1 text)) (divided operation Normal 0 text))) caret'
    ∙ ap (λ (t : Bool). cond t (divided operation Force 1 (drop 1 text)) (divided operation Normal 0 text)) plus'
    ∙ divided-again operation Normal 0 s d plain good

force-again : (operation : Operation) (s d : List ℕ) → has_colon s ≡ false
    → ((mark at : ℕ) → judged (spec_of operation Force s d) mark at ≡ Ok (spec_of operation Force s d)) → IsSpec (spec_of operation Force s d)
unfolding parsed
force-again operation s d plain good =
    let text = sides_text (source_of operation s) (side_of d) in
    ap (λ (t : Bool). cond t (Err errors.Empty) (divided operation Force 1 text)) (marked_not_blank operation text (filled operation s d))
    ∙ divided-again operation Force 1 s d plain good

id_head : id_named head ≡ None
unfolding id_named head
id_head = refl

exclusion-again : (operation : Operation) (b : ℕ) (bs : List ℕ) → has_colon (b ∷ bs) ≡ false → is_some (id_named (b ∷ bs)) ≡ false
    → ((mark at : ℕ) → judged (spec_of operation Exclusion (b ∷ bs) []) mark at ≡ Ok (spec_of operation Exclusion (b ∷ bs) [])) → IsSpec (spec_of operation Exclusion (b ∷ bs) [])
unfolding parsed
exclusion-again operation b bs plain named good =
    let text = sides_text (source_of operation (b ∷ bs)) None in
    ap (λ (t : Bool). cond t (Err errors.Empty) (excluded operation text)) (excluding_not_blank operation text (filled operation (b ∷ bs) []))
    ∙ ap (λ (t : Bool). cond t (Err errors.NegativeWithDestination) (cond (is_some (id_named text)) (Err errors.NegativeObjectHash) (sides operation Exclusion 1 text (1 + length text) []))) (plain_text operation)
    ∙ ap (λ (t : Bool). cond t (Err errors.NegativeObjectHash) (sides operation Exclusion 1 text (1 + length text) [])) (named_text operation)
    ∙ ap (λ (t : List ℕ). sides operation Exclusion 1 t (1 + length text) []) (same operation)
    ∙ sides-again operation Exclusion (b ∷ bs) [] 1 (1 + length text) ∙ good 1 (1 + length text)
  where
    same : (operation : Operation) → sides_text (source_of operation (b ∷ bs)) None ≡ text_of (source_of operation (b ∷ bs))
    same operation = step (bytes_eq (b ∷ bs) (64 ∷ []))
      where
        step : (t : Bool) → sides_text (cond t (Some head) (Some (b ∷ bs))) None ≡ text_of (cond t (Some head) (Some (b ∷ bs)))
        step true = refl
        step false = refl

    plain_text : (operation : Operation) → has_colon (sides_text (source_of operation (b ∷ bs)) None) ≡ false
    plain_text operation = ap has_colon (same operation) ∙ source-plain operation (b ∷ bs) plain

    named_text : (operation : Operation) → is_some (id_named (sides_text (source_of operation (b ∷ bs)) None)) ≡ false
    named_text operation = step (bytes_eq (b ∷ bs) (64 ∷ []))
      where
        step : (t : Bool) → is_some (id_named (sides_text (cond t (Some head) (Some (b ∷ bs))) None)) ≡ false
        step true = ap is_some id_head
        step false = named

-- what stands in front of the first colon
split-again : (operation : Operation) (mode : Mode) (mark : ℕ) (body : List ℕ) (found : Spec)
    → ((s d : List ℕ) → has_colon s ≡ false → ((x : ℕ) → first_is x body ≡ false → eqb 58 x ≡ false → first_is x s ≡ false) → ((mark at : ℕ) → judged (spec_of operation mode s d) mark at ≡ Ok (spec_of operation mode s d)) → IsSpec (spec_of operation mode s d))
    → divided operation mode mark body ≡ Ok found → IsSpec found
split-again operation mode mark body found read is = step (ltb i (length body)) refl is
  where
    i : ℕ
    i = position_or_len (λ b. eqb b 58) body

    first : (x n : ℕ) (body : List ℕ) → first_is x body ≡ false → first_is x (take n body) ≡ false
    first x zero body is = refl
    first x (suc n) [] is = refl
    first x (suc n) (b ∷ body) is = is

    same : (s d : List ℕ) → IsAccepted (spec_of operation mode s d) found → IsSpec (spec_of operation mode s d) → IsSpec found
    same s d a good = subst IsSpec a.same good

    step : (t : Bool) → ltb (position_or_len (λ b. eqb b 58) body) (length body) ≡ t
        → cut operation mode mark body (cond t (Some (position_or_len (λ b. eqb b 58) body)) None) ≡ Ok found → IsSpec found
    step true less is =
        let n = position_or_len (λ b. eqb b 58) body in
        let a = accepted operation mode mark (take n body) (mark + n + 1) (drop (n + 1) body) found is in
        subst IsSpec a.same (read (take n body) (drop (n + 1) body) (before_colon body) (λ x off _. first x n body off) a.anywhere)
    step false more is =
        let n = position_or_len (λ b. eqb b 58) body in
        let a = accepted operation mode mark body (mark + length body) [] found is in
        let whole : take n body ≡ body = take_all n body (ltb-false n (length body) more) in
        subst IsSpec a.same (read body [] (ap has_colon (sym whole) ∙ before_colon body) (λ x off _. off) a.anywhere)

exclusion-found : (operation : Operation) (body : List ℕ) (found : Spec) → is_blank operation (94 ∷ body) ≡ false → excluded operation body ≡ Ok found → IsSpec found
exclusion-found Push [] found blank is = absurd (let e : true ≡ false = blank in cc)
exclusion-found Fetch [] found blank is = absurd (let e : true ≡ false = blank in cc)
exclusion-found operation (b ∷ bs) found blank is = step (has_colon (b ∷ bs)) (is_some (id_named (b ∷ bs))) refl refl is
  where
    step : (t u : Bool) → has_colon (b ∷ bs) ≡ t → is_some (id_named (b ∷ bs)) ≡ u
        → cond t (Err errors.NegativeWithDestination) (cond u (Err errors.NegativeObjectHash) (sides operation Exclusion 1 (b ∷ bs) (1 + length (b ∷ bs)) [])) ≡ Ok found → IsSpec found
    step true u colon named is = absurd cc
    step false true colon named is = absurd cc
    step false false colon named is =
        let a = accepted operation Exclusion 1 (b ∷ bs) (1 + length (b ∷ bs)) [] found is in
        subst IsSpec a.same (exclusion-again operation b bs colon named a.anywhere)

-- what a text says, its own print says too
pub reads_again : (operation : Operation) (text : List ℕ) (found : Spec) → parsed operation text ≡ Ok found → IsSpec found
unfolding parsed
reads_again operation text found is = step (is_blank operation text) (first_is 94 text) (first_is 43 text) refl refl refl is
  where
    caret : (text : List ℕ) → first_is 94 text ≡ true → text ≡ 94 ∷ drop 1 text
    caret [] is = absurd cc
    caret (b ∷ bs) is = ap (λ (x : ℕ). x ∷ bs) (eqb-true b 94 is)

    step : (blank t u : Bool) → is_blank operation text ≡ blank → first_is 94 text ≡ t → first_is 43 text ≡ u
        → cond blank (Err errors.Empty) (cond t (excluded operation (drop 1 text)) (cond u (divided operation Force 1 (drop 1 text)) (divided operation Normal 0 text))) ≡ Ok found → IsSpec found
    step true t u blank c p is = absurd cc
    step false true u blank c p is = exclusion-found operation (drop 1 text) found (ap (is_blank operation) (sym (caret text c)) ∙ blank) is
    step false false true blank c p is = split-again operation Force 1 (drop 1 text) found (λ s d plain first good. force-again operation s d plain good) is
    step false false false blank c p is = split-again operation Normal 0 text found (λ s d plain first good. normal-again operation s d plain (first 94 c refl) (first 43 p refl) good) is
