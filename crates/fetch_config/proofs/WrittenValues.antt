-- What is written of a value or a subsection is read back.
use Rattle.std.proofs.Common.{◌≡◌, ℕ, suc, ◌+◌, ◌-◌, Bool, true, false, cond, not, ◌&&◌, ◌||◌, eqb, subst, List, [], ◌∷◌, ◌++◌, length, get_or, take, drop, reverse, Option, Some, None, refl, sym, ap, ◌∙◌, arith, append_assoc, append-nil, length-append}
use Rattle.std.specs.List.{list_any, flat_map, slice_get, prefix_len, suffix_len}
use Rattle.std.specs.Str.Lines.{strip_carriage_return}
use Rattle.std.proofs.Math.Seq.{get_or-append_seam}
use Rattle.std.proofs.lemmas.Bool.{eqb-true, or_parts}
use Rattle.std.proofs.lemmas.List.{take_all, reverse-append}
use Rattle.fetch_config.specs.Pieces.{is_blank, is_comment_sign, skip_blanks, trim_end}
use Rattle.fetch_config.specs.Values.{with_byte, with_front, unquoted, before_comment, value_of, subsection_of}
use Rattle.fetch_config.specs.Print.{value_byte, is_blank_or_return, is_edge, needs_quotes, escaped, value_text, sub_byte}
use Rattle.fetch_config.proofs.Decoding.{onto}

pub byte_at : (P : ℕ → Type 0) (c n : ℕ) → P n → (eqb c n ≡ false → P c) → P c
byte_at P c n same different = by_test (eqb c n) refl where
  by_test : (t : Bool) → eqb c n ≡ t → P c
  by_test true is = subst P (sym (eqb-true c n is)) same
  by_test false is = different is

-- A claim on each byte of a value, by how it is written.
pub by_byte : (P : ℕ → Type 0) → P 92 → P 34 → P 10 → P 9 → P 8
    → ((c : ℕ) → eqb c 92 ≡ false → eqb c 34 ≡ false → eqb c 10 ≡ false → eqb c 9 ≡ false → eqb c 8 ≡ false → P c) → (c : ℕ) → P c
by_byte P slash quote feed tab back other c =
    byte_at P c 92 slash (λ a. byte_at P c 34 quote (λ b. byte_at P c 10 feed (λ d. byte_at P c 9 tab (λ e. byte_at P c 8 back (λ f. other c a b d e f)))))

fifth : (a b d e f : Bool) (v w x y z u : List ℕ) → a ≡ false → b ≡ false → d ≡ false → e ≡ false → f ≡ false → cond a v (cond b w (cond d x (cond e y (cond f z u)))) ≡ u
fifth a b d e f v w x y z u i j k l m = rw (i, j, k, l, m) refl

pub plain_byte : (c : ℕ) → eqb c 92 ≡ false → eqb c 34 ≡ false → eqb c 10 ≡ false → eqb c 9 ≡ false → eqb c 8 ≡ false → value_byte c ≡ c ∷ []
plain_byte c a b d e f = fifth (eqb c 92) (eqb c 34) (eqb c 10) (eqb c 9) (eqb c 8) (92 ∷ 92 ∷ []) (92 ∷ 34 ∷ []) (92 ∷ 110 ∷ []) (92 ∷ 116 ∷ []) (92 ∷ 98 ∷ []) (c ∷ []) a b d e f

third : {A : Type 0} (a b d : Bool) (x y z w : A) → a ≡ false → b ≡ false → d ≡ false → cond a x (cond b y (cond d z w)) ≡ w
third a b d x y z w e f g = rw (e, f, g) refl

second : {A : Type 0} (a b : Bool) (x y z : A) → a ≡ false → b ≡ false → cond a x (cond b y z) ≡ z
second a b x y z e f = rw (e, f) refl

-- up to a comment

pub before-plain : (q : Bool) (c : ℕ) (t : List ℕ) → eqb c 34 ≡ false → eqb c 92 ≡ false → (is_comment_sign c && not q) ≡ false → before_comment q false (c ∷ t) ≡ c ∷ before_comment q false t
unfolding before_comment
before-plain q c t a b d = third (eqb c 34) (eqb c 92) (is_comment_sign c && not q) (c ∷ before_comment (not q) false t) (c ∷ before_comment q true t) [] (c ∷ before_comment q false t) a b d

before-byte : (q : Bool) (t : List ℕ) (c : ℕ) → (is_comment_sign c && not q) ≡ false → before_comment q false (value_byte c ++ t) ≡ value_byte c ++ before_comment q false t
unfolding before_comment
before-byte q t = by_byte (λ c. (is_comment_sign c && not q) ≡ false → before_comment q false (value_byte c ++ t) ≡ value_byte c ++ before_comment q false t)
    (λ _. refl) (λ _. refl) (λ _. refl) (λ _. refl) (λ _. refl)
    (λ c a b d e f h. ap (λ v. before_comment q false (v ++ t)) (plain_byte c a b d e f) ∙ before-plain q c t b a h ∙ ap (λ v. v ++ before_comment q false t) (sym (plain_byte c a b d e f)))

before-more : (q : Bool) (c : ℕ) (cs t : List ℕ) → (is_comment_sign c && not q) ≡ false → before_comment q false (escaped cs ++ t) ≡ escaped cs ++ before_comment q false t
    → before_comment q false (escaped (c ∷ cs) ++ t) ≡ escaped (c ∷ cs) ++ before_comment q false t
before-more q c cs t h rest =
    ap (before_comment q false) (append_assoc (value_byte c) (escaped cs) t)
    ∙ before-byte q (escaped cs ++ t) c h
    ∙ ap (λ u. value_byte c ++ u) rest
    ∙ sym (append_assoc (value_byte c) (escaped cs) (before_comment q false t))

pub and_none : (b : Bool) → (b && false) ≡ false
and_none true = refl
and_none false = refl

before-quoted : (v t : List ℕ) → before_comment true false (escaped v ++ t) ≡ escaped v ++ before_comment true false t
before-quoted [] t = refl
before-quoted (c ∷ cs) t = before-more true c cs t (and_none (is_comment_sign c)) (before-quoted cs t)

before-bare : (v t : List ℕ) → list_any is_comment_sign v ≡ false → before_comment false false (escaped v ++ t) ≡ escaped v ++ before_comment false false t
before-bare [] t h = refl
before-bare (c ∷ cs) t h = let p = or_parts (is_comment_sign c) (list_any is_comment_sign cs) h in before-more false c cs t (ap (λ b. b && true) p.0) (before-bare cs t p.1)

-- quotes and escapes

unquoted-byte : (q : Bool) (t : List ℕ) (c : ℕ) → unquoted q false (value_byte c ++ t) ≡ with_byte c (unquoted q false t)
unfolding unquoted
unquoted-byte q t = by_byte (λ c. unquoted q false (value_byte c ++ t) ≡ with_byte c (unquoted q false t))
    refl refl refl refl refl
    (λ c a b d e f. ap (λ v. unquoted q false (v ++ t)) (plain_byte c a b d e f) ∙ second (eqb c 34) (eqb c 92) (unquoted (not q) false t) (unquoted q true t) (with_byte c (unquoted q false t)) b a)

onto-nothing : (o : Option (List ℕ)) → o ≡ onto [] o
onto-nothing None = refl
onto-nothing (Some text) = refl

onto-more : (c : ℕ) (cs : List ℕ) (o : Option (List ℕ)) → with_byte c (onto cs o) ≡ onto (c ∷ cs) o
onto-more c cs None = refl
onto-more c cs (Some text) = refl

unquoted-escaped : (q : Bool) (v t : List ℕ) → unquoted q false (escaped v ++ t) ≡ onto v (unquoted q false t)
unquoted-escaped q [] t = onto-nothing (unquoted q false t)
unquoted-escaped q (c ∷ cs) t =
    ap (unquoted q false) (append_assoc (value_byte c) (escaped cs) t)
    ∙ unquoted-byte q (escaped cs ++ t) c
    ∙ ap (with_byte c) (unquoted-escaped q cs t)
    ∙ onto-more c cs (unquoted q false t)

-- the ends of a text

-- It ends in no blank and no carriage return.
pub record EndsWell (text : List ℕ) : Type 0 where
  pub front : List ℕ
  pub last : ℕ
  pub is : text ≡ front ++ last ∷ []
  pub fine : is_blank_or_return last ≡ false

pub well-append : (s t : List ℕ) → EndsWell t → EndsWell (s ++ t)
well-append s t w = record { front = s ++ w.front; last = w.last; is = ap (λ u. s ++ u) w.is ∙ sym (append_assoc s w.front (w.last ∷ [])); fine = w.fine }

last_one : (front : List ℕ) (last : ℕ) → length (front ++ last ∷ []) - 1 ≡ length front
last_one front last = let e : length (last ∷ []) ≡ 1 = refl in omega (arith, length-append front (last ∷ []))

-- Blanks at the end are none, and no carriage return is dropped.
pub trimmed : (text : List ℕ) → EndsWell text → trim_end text ≡ text
trimmed text w = take_all (length text - suffix_len is_blank text) text (omega (arith, none)) where
  none : suffix_len is_blank text ≡ 0
  none =
      ap (λ t. prefix_len is_blank (reverse t)) w.is
      ∙ ap (prefix_len is_blank) (reverse-append w.front (w.last ∷ []))
      ∙ ap (λ t. cond t (1 + prefix_len is_blank (reverse w.front)) 0) (or_parts (is_blank w.last) (eqb w.last 13) w.fine).0

pub unstripped : (text : List ℕ) → EndsWell text → strip_carriage_return text ≡ text
unstripped text w = ap (λ t. cond t (take (length text - 1) text) text) no_return where
  no_return : eqb (get_or text (length text - 1) 0) 13 ≡ false
  no_return =
      ap (λ t. eqb (get_or t (length t - 1) 0) 13) w.is
      ∙ ap (λ n. eqb (get_or (w.front ++ w.last ∷ []) n 0) 13) (last_one w.front w.last)
      ∙ ap (λ c. eqb c 13) (get_or-append_seam w.front w.last [] 0)
      ∙ (or_parts (is_blank w.last) (eqb w.last 13) w.fine).1

pub no_blank : (c : ℕ) (cs : List ℕ) → is_blank c ≡ false → skip_blanks (c ∷ cs) ≡ c ∷ cs
no_blank c cs h = ap (λ t. drop (cond t (1 + prefix_len is_blank cs) 0) (c ∷ cs)) h

pub one_blank : (c : ℕ) (cs : List ℕ) → is_blank c ≡ true → skip_blanks (c ∷ cs) ≡ skip_blanks cs
one_blank c cs h =
    let one : 1 + prefix_len is_blank cs ≡ suc (prefix_len is_blank cs) = omega arith in
    ap (λ t. drop (cond t (1 + prefix_len is_blank cs) 0) (c ∷ cs)) h ∙ ap (λ n. drop n (c ∷ cs)) one

-- what a byte begins and ends with

begins-byte : (t : List ℕ) (c : ℕ) → is_blank c ≡ false → skip_blanks (value_byte c ++ t) ≡ value_byte c ++ t
begins-byte t = by_byte (λ c. is_blank c ≡ false → skip_blanks (value_byte c ++ t) ≡ value_byte c ++ t)
    (λ _. refl) (λ _. refl) (λ _. refl) (λ _. refl) (λ _. refl)
    (λ c a b d e f h. ap (λ v. skip_blanks (v ++ t)) (plain_byte c a b d e f) ∙ no_blank c t h ∙ ap (λ v. v ++ t) (sym (plain_byte c a b d e f)))

ends-byte : (c : ℕ) → is_blank_or_return c ≡ false → EndsWell (value_byte c)
ends-byte = by_byte (λ c. is_blank_or_return c ≡ false → EndsWell (value_byte c))
    (λ _. record { front = 92 ∷ []; last = 92; is = refl; fine = refl })
    (λ _. record { front = 92 ∷ []; last = 34; is = refl; fine = refl })
    (λ _. record { front = 92 ∷ []; last = 110; is = refl; fine = refl })
    (λ _. record { front = 92 ∷ []; last = 116; is = refl; fine = refl })
    (λ _. record { front = 92 ∷ []; last = 98; is = refl; fine = refl })
    (λ c a b d e f h. record { front = []; last = c; is = plain_byte c a b d e f; fine = h })

ends-escaped : (v : List ℕ) → is_edge (slice_get v (length v - 1)) ≡ false → EndsWell (escaped v)
ends-escaped [] h = absurd cc
ends-escaped (c ∷ []) h = let w = ends-byte c h in record { front = w.front; last = w.last; is = append-nil (value_byte c) ∙ w.is; fine = w.fine }
ends-escaped (c ∷ d ∷ ds) h =
    let n = length ds in
    let one : suc (suc n) - 1 ≡ suc n = omega arith in
    let two : n ≡ suc n - 1 = omega arith in
    well-append (value_byte c) (escaped (d ∷ ds)) (ends-escaped (d ∷ ds) (ap (λ k. is_edge (slice_get (d ∷ ds) k)) (sym two) ∙ ap (λ k. is_edge (slice_get (c ∷ d ∷ ds) k)) (sym one) ∙ h))

-- a value

record IsBare (v : List ℕ) : Type 0 where
  first : is_edge (slice_get v 0) ≡ false
  last : is_edge (slice_get v (length v - 1)) ≡ false
  no_sign : list_any is_comment_sign v ≡ false

bare : (v : List ℕ) → needs_quotes v ≡ false → IsBare v
bare v h =
    let p = or_parts (is_edge (slice_get v 0) || is_edge (slice_get v (length v - 1))) (list_any is_comment_sign v) h in
    let q = or_parts (is_edge (slice_get v 0)) (is_edge (slice_get v (length v - 1))) p.0 in
    record { first = q.0; last = q.1; no_sign = p.1 }

begins-escaped : (v : List ℕ) → is_edge (slice_get v 0) ≡ false → skip_blanks (escaped v) ≡ escaped v
begins-escaped [] h = absurd cc
begins-escaped (c ∷ cs) h = begins-byte (escaped cs) c (or_parts (is_blank c) (eqb c 13) h).0

-- What follows the equals sign, up to a comment and without its blanks.
space-before : (t u : List ℕ) → before_comment false false t ≡ u → before_comment false false (32 ∷ t) ≡ 32 ∷ u
unfolding before_comment
space-before t u h = ap (λ v. 32 ∷ v) h

quote-before : (v : List ℕ) → before_comment false false (34 ∷ (escaped v ++ 34 ∷ [])) ≡ 34 ∷ (escaped v ++ 34 ∷ [])
unfolding before_comment
quote-before v = ap (λ u. 34 ∷ u) (before-quoted v (34 ∷ []))

bare-before : (v : List ℕ) → IsBare v → before_comment false false (escaped v) ≡ escaped v
unfolding before_comment
bare-before v b = ap (before_comment false false) (sym (append-nil (escaped v))) ∙ before-bare v [] b.no_sign ∙ append-nil (escaped v)

quote-read : (v : List ℕ) → unquoted false false (34 ∷ (escaped v ++ 34 ∷ [])) ≡ Some v
unfolding unquoted
quote-read v = unquoted-escaped true v (34 ∷ []) ∙ ap Some (append-nil v)

bare-read : (v : List ℕ) → unquoted false false (escaped v) ≡ Some v
unfolding unquoted
bare-read v = ap (unquoted false false) (sym (append-nil (escaped v))) ∙ unquoted-escaped false v [] ∙ ap Some (append-nil v)

value_from : (t : List ℕ) (v : List ℕ) → before_comment false false t ≡ t → skip_blanks t ≡ t → EndsWell t → unquoted false false t ≡ Some v → value_of (32 ∷ t) ≡ Some v
unfolding value_of
value_from t v before blanks ends is =
    ap (λ u. unquoted false false (trim_end (skip_blanks u))) (space-before t t before)
    ∙ ap (λ u. unquoted false false (trim_end u)) (one_blank 32 t refl ∙ blanks)
    ∙ ap (unquoted false false) (trimmed t ends) ∙ is

value_by_test : (v : List ℕ) (b : Bool) → needs_quotes v ≡ b → value_of (32 ∷ cond b (34 ∷ (escaped v ++ 34 ∷ [])) (escaped v)) ≡ Some v
value_by_test v true h = value_from (34 ∷ (escaped v ++ 34 ∷ [])) v (quote-before v) refl (record { front = 34 ∷ escaped v; last = 34; is = refl; fine = refl }) (quote-read v)
value_by_test v false h = let b = bare v h in value_from (escaped v) v (bare-before v b) (begins-escaped v b.first) (ends-escaped v b.last) (bare-read v)

pub value_back : (v : List ℕ) → value_of (32 ∷ value_text v) ≡ Some v
unfolding value_text
value_back v = value_by_test v (needs_quotes v) refl

ends_by_test : (v : List ℕ) (b : Bool) → needs_quotes v ≡ b → EndsWell (cond b (34 ∷ (escaped v ++ 34 ∷ [])) (escaped v))
ends_by_test v true h = record { front = 34 ∷ escaped v; last = 34; is = refl; fine = refl }
ends_by_test v false h = ends-escaped v (bare v h).last

pub value_ends : (v : List ℕ) → EndsWell (value_text v)
unfolding value_text
value_ends v = ends_by_test v (needs_quotes v) refl

-- a subsection

sub-byte : (t : List ℕ) (c : ℕ) → subsection_of false (sub_byte c ++ t) ≡ with_front c (subsection_of false t)
unfolding subsection_of
sub-byte t c = byte_at (λ c. subsection_of false (sub_byte c ++ t) ≡ with_front c (subsection_of false t)) c 92 refl (λ a.
    byte_at (λ c. subsection_of false (sub_byte c ++ t) ≡ with_front c (subsection_of false t)) c 34 refl (λ b.
    ap (λ v. subsection_of false (v ++ t)) (plain a b) ∙ second (eqb c 34) (eqb c 92) (Some ([], t)) (subsection_of true t) (with_front c (subsection_of false t)) b a))
  where
    plain : eqb c 92 ≡ false → eqb c 34 ≡ false → sub_byte c ≡ c ∷ []
    plain a b = ap (λ p. cond (p || eqb c 34) (92 ∷ c ∷ []) (c ∷ [])) a ∙ ap (λ p. cond p (92 ∷ c ∷ []) (c ∷ [])) b

pub sub_back : (sub tail : List ℕ) → subsection_of false (flat_map sub_byte sub ++ 34 ∷ tail) ≡ Some (sub, tail)
unfolding subsection_of
sub_back [] tail = refl
sub_back (c ∷ cs) tail =
    ap (subsection_of false) (append_assoc (sub_byte c) (flat_map sub_byte cs) (34 ∷ tail))
    ∙ sub-byte (flat_map sub_byte cs ++ 34 ∷ tail) c
    ∙ ap (with_front c) (sub_back cs tail)
