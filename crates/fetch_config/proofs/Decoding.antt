-- What is read of a value's text, one character at a time.
use Rattle.std.proofs.Common.{◌≡◌, ℕ, ◌+◌, ◌<◌, ◌≤◌, Bool, true, false, cond, not, ◌&&◌, ◌||◌, eqb, List, [], ◌∷◌, ◌++◌, length, get_or, take, drop, Option, Some, None, refl, sym, ap, ◌∙◌, arith, append_assoc, append-nil, drop-cons, add-one}
use Rattle.std.specs.Option.{option_map}
use Rattle.std.proofs.lemmas.Bool.{ne_eqb, eq-eqb}
use Rattle.std.proofs.lemmas.List.{at_drop_all, take_more, take_all}
use Rattle.fetch_base.specs.Scan.{◌>>=◌}
use Rattle.fetch_config.specs.Pieces.{is_comment_sign}
use Rattle.fetch_config.specs.Values.{escape_of, with_byte, with_front, unquoted, before_comment, subsection_of}

-- what is read already, in front of what is read after it
abbrev pub onto : List ℕ → Option (List ℕ) → Option (List ℕ)
onto xs rest = option_map (λ text. xs ++ text) rest

pub onto-with_byte : (xs : List ℕ) (b : ℕ) (o : Option (List ℕ)) → onto xs (with_byte b o) ≡ onto (xs ++ b ∷ []) o
onto-with_byte xs b None = refl
onto-with_byte xs b (Some text) = ap Some (sym (append_assoc xs (b ∷ []) text))

pub dropped : (text : List ℕ) (i : ℕ) → i < length text → drop i text ≡ get_or text i 0 ∷ drop (i + 1) text
dropped text i lt = rw (drop-cons text i 0 lt) (rw add-one refl)

pub unquoted-escape : (q : Bool) (c b : ℕ) (xs cs : List ℕ) → escape_of c ≡ Some b → onto xs (unquoted q true (c ∷ cs)) ≡ onto (xs ++ b ∷ []) (unquoted q false cs)
unfolding unquoted
unquoted-escape q c b xs cs is = ap (λ (o : Option ℕ). onto xs (o >>= λ b. with_byte b (unquoted q false cs))) is ∙ onto-with_byte xs b (unquoted q false cs)

pub unquoted-no_escape : (q : Bool) (c : ℕ) (xs cs : List ℕ) → escape_of c ≡ None → onto xs (unquoted q true (c ∷ cs)) ≡ None
unfolding unquoted
unquoted-no_escape q c xs cs is = ap (λ (o : Option ℕ). onto xs (o >>= λ b. with_byte b (unquoted q false cs))) is

pub unquoted-quote : (q : Bool) (c : ℕ) (cs : List ℕ) → c ≡ 34 → unquoted q false (c ∷ cs) ≡ unquoted (not q) false cs
unfolding unquoted
unquoted-quote q c cs is = ap (λ (c : ℕ). unquoted q false (c ∷ cs)) is

pub unquoted-backslash : (q : Bool) (c : ℕ) (cs : List ℕ) → c ≡ 92 → unquoted q false (c ∷ cs) ≡ unquoted q true cs
unfolding unquoted
unquoted-backslash q c cs is = ap (λ (c : ℕ). unquoted q false (c ∷ cs)) is

by_tests : (a b : Bool) (x y z : Option (List ℕ)) → a ≡ false → b ≡ false → cond a x (cond b y z) ≡ z
by_tests a b x y z e f = rw (e, f) refl

pub unquoted-plain : (q : Bool) (c : ℕ) (xs cs : List ℕ) → (c ≡ 34 → ⊥) → (c ≡ 92 → ⊥) → onto xs (unquoted q false (c ∷ cs)) ≡ onto (xs ++ c ∷ []) (unquoted q false cs)
unfolding unquoted
unquoted-plain q c xs cs no_quote no_slash =
    ap (onto xs) (by_tests (eqb c 34) (eqb c 92) (unquoted (not q) false cs) (unquoted q true cs) (with_byte c (unquoted q false cs)) (ne_eqb c 34 no_quote) (ne_eqb c 92 no_slash))
    ∙ onto-with_byte xs c (unquoted q false cs)

pub unquoted-open : (q e : Bool) (xs : List ℕ) → (q || e) ≡ true → onto xs (unquoted q e []) ≡ None
unfolding unquoted
unquoted-open q e xs is = ap (λ (b : Bool). onto xs (cond b None (Some []))) is

pub unquoted-end : (q e : Bool) (xs : List ℕ) → (q || e) ≡ false → onto xs (unquoted q e []) ≡ Some (xs ++ [])
unfolding unquoted
unquoted-end q e xs is = ap (λ (b : Bool). onto xs (cond b None (Some []))) is

-- one turn of the reader: what it has read, in front of what it still reads, is the whole
pub turn-escape : (whole : Option (List ℕ)) (text : List ℕ) (i : ℕ) (q e : Bool) (b : ℕ) (xs ys : List ℕ) → i < length text → e ≡ true → escape_of (get_or text i 0) ≡ Some b → ys ≡ xs ++ b ∷ []
    → onto xs (unquoted q e (drop i text)) ≡ whole → onto ys (unquoted q false (drop (i + 1) text)) ≡ whole
turn-escape whole text i q e b xs ys lt e_is is more so_far =
    ap (λ zs. onto zs (unquoted q false (drop (i + 1) text))) more
    ∙ sym (unquoted-escape q (get_or text i 0) b xs (drop (i + 1) text) is)
    ∙ ap (λ t. onto xs (unquoted q true t)) (sym (dropped text i lt))
    ∙ ap (λ e. onto xs (unquoted q e (drop i text))) (sym e_is) ∙ so_far

pub turn-no_escape : (whole : Option (List ℕ)) (text : List ℕ) (i : ℕ) (q e : Bool) (xs : List ℕ) → i < length text → e ≡ true → escape_of (get_or text i 0) ≡ None
    → onto xs (unquoted q e (drop i text)) ≡ whole → None ≡ whole
turn-no_escape whole text i q e xs lt e_is is so_far =
    sym (unquoted-no_escape q (get_or text i 0) xs (drop (i + 1) text) is)
    ∙ ap (λ t. onto xs (unquoted q true t)) (sym (dropped text i lt))
    ∙ ap (λ e. onto xs (unquoted q e (drop i text))) (sym e_is) ∙ so_far

pub turn-quote : (whole : Option (List ℕ)) (text : List ℕ) (i : ℕ) (q e : Bool) (xs : List ℕ) → i < length text → e ≡ false → get_or text i 0 ≡ 34
    → onto xs (unquoted q e (drop i text)) ≡ whole → onto xs (unquoted (not q) e (drop (i + 1) text)) ≡ whole
turn-quote whole text i q e xs lt e_is is so_far =
    ap (λ e. onto xs (unquoted (not q) e (drop (i + 1) text))) e_is
    ∙ ap (onto xs) (sym (unquoted-quote q (get_or text i 0) (drop (i + 1) text) is))
    ∙ ap (λ t. onto xs (unquoted q false t)) (sym (dropped text i lt))
    ∙ ap (λ e. onto xs (unquoted q e (drop i text))) (sym e_is) ∙ so_far

pub turn-backslash : (whole : Option (List ℕ)) (text : List ℕ) (i : ℕ) (q e : Bool) (xs : List ℕ) → i < length text → e ≡ false → get_or text i 0 ≡ 92
    → onto xs (unquoted q e (drop i text)) ≡ whole → onto xs (unquoted q true (drop (i + 1) text)) ≡ whole
turn-backslash whole text i q e xs lt e_is is so_far =
    ap (onto xs) (sym (unquoted-backslash q (get_or text i 0) (drop (i + 1) text) is))
    ∙ ap (λ t. onto xs (unquoted q false t)) (sym (dropped text i lt))
    ∙ ap (λ e. onto xs (unquoted q e (drop i text))) (sym e_is) ∙ so_far

pub turn-plain : (whole : Option (List ℕ)) (text : List ℕ) (i : ℕ) (q e : Bool) (xs ys : List ℕ) → i < length text → e ≡ false → (get_or text i 0 ≡ 34 → ⊥) → (get_or text i 0 ≡ 92 → ⊥)
    → ys ≡ xs ++ get_or text i 0 ∷ [] → onto xs (unquoted q e (drop i text)) ≡ whole → onto ys (unquoted q e (drop (i + 1) text)) ≡ whole
turn-plain whole text i q e xs ys lt e_is no_quote no_slash more so_far =
    ap (λ e. onto ys (unquoted q e (drop (i + 1) text))) e_is
    ∙ ap (λ zs. onto zs (unquoted q false (drop (i + 1) text))) more
    ∙ sym (unquoted-plain q (get_or text i 0) xs (drop (i + 1) text) no_quote no_slash)
    ∙ ap (λ t. onto xs (unquoted q false t)) (sym (dropped text i lt))
    ∙ ap (λ e. onto xs (unquoted q e (drop i text))) (sym e_is) ∙ so_far

pub turns-open : (whole : Option (List ℕ)) (text : List ℕ) (i : ℕ) (q e : Bool) (xs : List ℕ) → length text ≤ i → (q || e) ≡ true → onto xs (unquoted q e (drop i text)) ≡ whole → None ≡ whole
turns-open whole text i q e xs over is so_far =
    sym (unquoted-open q e xs is) ∙ sym (at_drop_all (λ t. onto xs (unquoted q e t)) text i over) ∙ so_far

pub turns-end : (whole : Option (List ℕ)) (text : List ℕ) (i : ℕ) (q e : Bool) (xs : List ℕ) → length text ≤ i → q ≡ false → e ≡ false → onto xs (unquoted q e (drop i text)) ≡ whole → Some xs ≡ whole
turns-end whole text i q e xs over q_is e_is so_far =
    ap Some (sym (append-nil xs)) ∙ sym (unquoted-end q e xs (ap (λ q. q || e) q_is ∙ e_is)) ∙ sym (at_drop_all (λ t. onto xs (unquoted q e t)) text i over) ∙ so_far

-- the text up to a comment, in the same way
further : (text : List ℕ) (i : ℕ) (behind : List ℕ) → i < length text → take (i + 1) text ++ behind ≡ take i text ++ (get_or text i 0 ∷ behind)
further text i behind lt = ap (λ t. t ++ behind) (take_more text i 0 lt) ∙ append_assoc (take i text) (get_or text i 0 ∷ []) behind

pub before-escape : (whole text : List ℕ) (i : ℕ) (q e : Bool) → i < length text → e ≡ true → take i text ++ before_comment q e (drop i text) ≡ whole → take (i + 1) text ++ before_comment q false (drop (i + 1) text) ≡ whole
unfolding before_comment
before-escape whole text i q e lt e_is so_far =
    further text i (before_comment q false (drop (i + 1) text)) lt
    ∙ ap (λ t. take i text ++ before_comment q true t) (sym (dropped text i lt))
    ∙ ap (λ e. take i text ++ before_comment q e (drop i text)) (sym e_is) ∙ so_far

pub before-quote : (whole text : List ℕ) (i : ℕ) (q e : Bool) → i < length text → e ≡ false → get_or text i 0 ≡ 34 → take i text ++ before_comment q e (drop i text) ≡ whole → take (i + 1) text ++ before_comment (not q) e (drop (i + 1) text) ≡ whole
unfolding before_comment
before-quote whole text i q e lt e_is is so_far =
    further text i (before_comment (not q) e (drop (i + 1) text)) lt
    ∙ ap (λ e. take i text ++ (get_or text i 0 ∷ before_comment (not q) e (drop (i + 1) text))) e_is
    ∙ ap (λ b. take i text ++ cond b (get_or text i 0 ∷ before_comment (not q) false (drop (i + 1) text))
    (cond (eqb (get_or text i 0) 92) (get_or text i 0 ∷ before_comment q true (drop (i + 1) text))
    (cond (is_comment_sign (get_or text i 0) && not q) [] (get_or text i 0 ∷ before_comment q false (drop (i + 1) text))))) (sym (eq-eqb (get_or text i 0) 34 is))
    ∙ ap (λ t. take i text ++ before_comment q false t) (sym (dropped text i lt))
    ∙ ap (λ e. take i text ++ before_comment q e (drop i text)) (sym e_is) ∙ so_far

three_tests : (a b d : Bool) (x y z w : List ℕ) → a ≡ false → b ≡ true → cond a x (cond b y (cond d z w)) ≡ y
three_tests a b d x y z w e f = rw (e, f) refl

four_tests : (a b d : Bool) (x y z w : List ℕ) (t : Bool) → a ≡ false → b ≡ false → d ≡ t → cond a x (cond b y (cond d z w)) ≡ cond t z w
four_tests a b d x y z w t e f g = rw (e, f, g) refl

pub before-backslash : (whole text : List ℕ) (i : ℕ) (q e : Bool) → i < length text → e ≡ false → (get_or text i 0 ≡ 34 → ⊥) → get_or text i 0 ≡ 92 → take i text ++ before_comment q e (drop i text) ≡ whole → take (i + 1) text ++ before_comment q true (drop (i + 1) text) ≡ whole
unfolding before_comment
before-backslash whole text i q e lt e_is no_quote is so_far =
    let c = get_or text i 0 in
    let cs = drop (i + 1) text in
    further text i (before_comment q true cs) lt
    ∙ ap (λ t. take i text ++ t) (sym (three_tests (eqb c 34) (eqb c 92) (is_comment_sign c && not q) (c ∷ before_comment (not q) false cs) (c ∷ before_comment q true cs) [] (c ∷ before_comment q false cs) (ne_eqb c 34 no_quote) (eq-eqb c 92 is)))
    ∙ ap (λ t. take i text ++ before_comment q false t) (sym (dropped text i lt))
    ∙ ap (λ e. take i text ++ before_comment q e (drop i text)) (sym e_is) ∙ so_far

pub before-plain : (whole text : List ℕ) (i : ℕ) (q e : Bool) → i < length text → e ≡ false → (get_or text i 0 ≡ 34 → ⊥) → (get_or text i 0 ≡ 92 → ⊥) → (is_comment_sign (get_or text i 0) && not q) ≡ false
    → take i text ++ before_comment q e (drop i text) ≡ whole → take (i + 1) text ++ before_comment q e (drop (i + 1) text) ≡ whole
unfolding before_comment
before-plain whole text i q e lt e_is no_quote no_slash no_end so_far =
    let c = get_or text i 0 in
    let cs = drop (i + 1) text in
    further text i (before_comment q e cs) lt
    ∙ ap (λ e. take i text ++ (c ∷ before_comment q e cs)) e_is
    ∙ ap (λ t. take i text ++ t) (sym (four_tests (eqb c 34) (eqb c 92) (is_comment_sign c && not q) (c ∷ before_comment (not q) false cs) (c ∷ before_comment q true cs) [] (c ∷ before_comment q false cs) false (ne_eqb c 34 no_quote) (ne_eqb c 92 no_slash) no_end))
    ∙ ap (λ t. take i text ++ before_comment q false t) (sym (dropped text i lt))
    ∙ ap (λ e. take i text ++ before_comment q e (drop i text)) (sym e_is) ∙ so_far

pub before-stop : (whole text : List ℕ) (i : ℕ) (q e : Bool) → i < length text → e ≡ false → (get_or text i 0 ≡ 34 → ⊥) → (get_or text i 0 ≡ 92 → ⊥) → (is_comment_sign (get_or text i 0) && not q) ≡ true
    → take i text ++ before_comment q e (drop i text) ≡ whole → take i text ≡ whole
unfolding before_comment
before-stop whole text i q e lt e_is no_quote no_slash ends so_far =
    let c = get_or text i 0 in
    let cs = drop (i + 1) text in
    sym (append-nil (take i text))
    ∙ ap (λ t. take i text ++ t) (sym (four_tests (eqb c 34) (eqb c 92) (is_comment_sign c && not q) (c ∷ before_comment (not q) false cs) (c ∷ before_comment q true cs) [] (c ∷ before_comment q false cs) true (ne_eqb c 34 no_quote) (ne_eqb c 92 no_slash) ends))
    ∙ ap (λ t. take i text ++ before_comment q false t) (sym (dropped text i lt))
    ∙ ap (λ e. take i text ++ before_comment q e (drop i text)) (sym e_is) ∙ so_far

nothing_before : (q e : Bool) → before_comment q e [] ≡ []
unfolding before_comment
nothing_before q true = refl
nothing_before q false = refl

pub before-end : (whole text : List ℕ) (i n : ℕ) (q e : Bool) → length text ≤ i → n ≡ length text → take i text ++ before_comment q e (drop i text) ≡ whole → take n text ≡ whole
before-end whole text i n q e over is so_far =
    take_all n text (omega arith) ∙ sym (take_all i text over) ∙ sym (append-nil (take i text)) ∙ ap (λ t. take i text ++ t) (sym (nothing_before q e))
    ∙ sym (at_drop_all (λ t. take i text ++ before_comment q e t) text i over) ∙ so_far

-- a subsection, in the same way
pub onto_sub : List ℕ → Option (List ℕ × List ℕ) → Option (List ℕ × List ℕ)
onto_sub xs found = option_map (λ p. (xs ++ p.0, p.1)) found

onto_sub-with_front : (xs : List ℕ) (c : ℕ) (o : Option (List ℕ × List ℕ)) → onto_sub xs (with_front c o) ≡ onto_sub (xs ++ c ∷ []) o
unfolding onto_sub
onto_sub-with_front xs c None = refl
onto_sub-with_front xs c (Some p) = ap (λ t. Some (t, p.1)) (sym (append_assoc xs (c ∷ []) p.0))

pub onto_sub-nil : (o : Option (List ℕ × List ℕ)) → onto_sub [] o ≡ o
unfolding onto_sub
onto_sub-nil None = refl
onto_sub-nil (Some p) = refl

pub sub-escape : (whole : Option (List ℕ × List ℕ)) (text : List ℕ) (i : ℕ) (e : Bool) (xs ys : List ℕ) → i < length text → e ≡ true → ys ≡ xs ++ get_or text i 0 ∷ []
    → onto_sub xs (subsection_of e (drop i text)) ≡ whole → onto_sub ys (subsection_of false (drop (i + 1) text)) ≡ whole
unfolding subsection_of
sub-escape whole text i e xs ys lt e_is more so_far =
    ap (λ zs. onto_sub zs (subsection_of false (drop (i + 1) text))) more
    ∙ sym (onto_sub-with_front xs (get_or text i 0) (subsection_of false (drop (i + 1) text)))
    ∙ ap (λ t. onto_sub xs (subsection_of true t)) (sym (dropped text i lt))
    ∙ ap (λ e. onto_sub xs (subsection_of e (drop i text))) (sym e_is) ∙ so_far

sub_tests : (a b : Bool) (x y z : Option (List ℕ × List ℕ)) → a ≡ false → b ≡ false → cond a x (cond b y z) ≡ z
sub_tests a b x y z e f = rw (e, f) refl

sub_second : (a b : Bool) (x y z : Option (List ℕ × List ℕ)) → a ≡ false → b ≡ true → cond a x (cond b y z) ≡ y
sub_second a b x y z e f = rw (e, f) refl

pub sub-plain : (whole : Option (List ℕ × List ℕ)) (text : List ℕ) (i : ℕ) (e : Bool) (xs ys : List ℕ) → i < length text → e ≡ false → (get_or text i 0 ≡ 34 → ⊥) → (get_or text i 0 ≡ 92 → ⊥) → ys ≡ xs ++ get_or text i 0 ∷ []
    → onto_sub xs (subsection_of e (drop i text)) ≡ whole → onto_sub ys (subsection_of e (drop (i + 1) text)) ≡ whole
unfolding subsection_of
sub-plain whole text i e xs ys lt e_is no_quote no_slash more so_far =
    let c = get_or text i 0 in
    let cs = drop (i + 1) text in
    ap (λ e. onto_sub ys (subsection_of e cs)) e_is
    ∙ ap (λ zs. onto_sub zs (subsection_of false cs)) more
    ∙ sym (onto_sub-with_front xs c (subsection_of false cs))
    ∙ ap (onto_sub xs) (sym (sub_tests (eqb c 34) (eqb c 92) (Some ([], cs)) (subsection_of true cs) (with_front c (subsection_of false cs)) (ne_eqb c 34 no_quote) (ne_eqb c 92 no_slash)))
    ∙ ap (λ t. onto_sub xs (subsection_of false t)) (sym (dropped text i lt))
    ∙ ap (λ e. onto_sub xs (subsection_of e (drop i text))) (sym e_is) ∙ so_far

pub sub-backslash : (whole : Option (List ℕ × List ℕ)) (text : List ℕ) (i : ℕ) (e : Bool) (xs : List ℕ) → i < length text → e ≡ false → (get_or text i 0 ≡ 34 → ⊥) → get_or text i 0 ≡ 92
    → onto_sub xs (subsection_of e (drop i text)) ≡ whole → onto_sub xs (subsection_of true (drop (i + 1) text)) ≡ whole
unfolding subsection_of
sub-backslash whole text i e xs lt e_is no_quote is so_far =
    let c = get_or text i 0 in
    let cs = drop (i + 1) text in
    ap (onto_sub xs) (sym (sub_second (eqb c 34) (eqb c 92) (Some ([], cs)) (subsection_of true cs) (with_front c (subsection_of false cs)) (ne_eqb c 34 no_quote) (eq-eqb c 92 is)))
    ∙ ap (λ t. onto_sub xs (subsection_of false t)) (sym (dropped text i lt))
    ∙ ap (λ e. onto_sub xs (subsection_of e (drop i text))) (sym e_is) ∙ so_far

pub sub-quote : (whole : Option (List ℕ × List ℕ)) (text : List ℕ) (i : ℕ) (e : Bool) (xs : List ℕ) → i < length text → e ≡ false → get_or text i 0 ≡ 34
    → onto_sub xs (subsection_of e (drop i text)) ≡ whole → Some (xs, drop (i + 1) text) ≡ whole
unfolding subsection_of onto_sub
sub-quote whole text i e xs lt e_is is so_far =
    let c = get_or text i 0 in
    let cs = drop (i + 1) text in
    ap (λ t. Some (t, cs)) (sym (append-nil xs))
    ∙ ap (λ (b : Bool). onto_sub xs (cond b (Some ([], cs)) (cond (eqb c 92) (subsection_of true cs) (with_front c (subsection_of false cs))))) (sym (eq-eqb c 34 is))
    ∙ ap (λ t. onto_sub xs (subsection_of false t)) (sym (dropped text i lt))
    ∙ ap (λ e. onto_sub xs (subsection_of e (drop i text))) (sym e_is) ∙ so_far

no_sub : (e : Bool) (xs : List ℕ) → onto_sub xs (subsection_of e []) ≡ None
unfolding subsection_of onto_sub
no_sub true xs = refl
no_sub false xs = refl

pub sub-end : (whole : Option (List ℕ × List ℕ)) (text : List ℕ) (i : ℕ) (e : Bool) (xs : List ℕ) → length text ≤ i → onto_sub xs (subsection_of e (drop i text)) ≡ whole → None ≡ whole
sub-end whole text i e xs over so_far = sym (no_sub e xs) ∙ sym (at_drop_all (λ t. onto_sub xs (subsection_of e t)) text i over) ∙ so_far
