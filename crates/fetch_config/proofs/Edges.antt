-- A value between blanks, before a comment.
use Rattle.std.proofs.Common.{◌≡◌, ◌↔◌, ℕ, suc, ◌+◌, ◌-◌, Bool, true, false, cond, not, ◌&&◌, eqb, subst, List, [], ◌∷◌, ◌++◌, length, take, reverse, Some, refl, sym, ap, ◌∙◌, arith, append_assoc, append-nil, length-append}
use Rattle.std.specs.List.{list_all, flat_map, prefix_len, suffix_len}
use Rattle.std.proofs.lemmas.Bool.{and_parts, and_from}
use Rattle.std.proofs.lemmas.List.{take_all, take-append-le, take-append-drop, reverse-append}
use Rattle.fetch_config.specs.Pieces.{is_blank, is_comment_sign, skip_blanks, trim_end, is_end_or_comment}
use Rattle.fetch_config.specs.Values.{unquoted, before_comment, value_of}
use Rattle.fetch_config.specs.Marks.{Mark, Byte, Quote, Backslash, Feed, Tab, Backspace, mark_text, is_mark, is_sign, Part, Bare, Quoted, part_text, is_part, is_free, IsInParts, SaysValue}
use Rattle.fetch_config.proofs.WrittenValues.{byte_at, before-plain, and_none, no_blank, one_blank}
use Rattle.fetch_config.proofs.WrittenLines.{other_byte, neither}
use Rattle.fetch_config.proofs.Marks.{untrue, read-parts, in_parts}

-- blanks, parts and a comment, as they are looked through for the comment

not_special : (c : ℕ) → is_blank c ≡ true → (is_comment_sign c && true) ≡ false
not_special c h = ap (λ b. b && true) (neither (eqb c 35) (eqb c 59) (other_byte is_blank 35 c refl h) (other_byte is_blank 59 c refl h))

before-blanks : (bs t : List ℕ) → list_all is_blank bs ≡ true → before_comment false false (bs ++ t) ≡ bs ++ before_comment false false t
before-blanks [] t h = refl
before-blanks (c ∷ cs) t h =
    let b = and_parts (is_blank c) (list_all is_blank cs) h in
    before-plain false c (cs ++ t) (other_byte is_blank 34 c refl b.0) (other_byte is_blank 92 c refl b.0) (not_special c b.0) ∙ ap (λ u. c ∷ u) (before-blanks cs t b.1)

before-mark : (q : Bool) (m : Mark) (t : List ℕ) → is_mark m ≡ true → (is_sign m && not q) ≡ false → before_comment q false (mark_text m ++ t) ≡ mark_text m ++ before_comment q false t
unfolding before_comment
before-mark q (Byte c) t h k = let b = and_parts (not (eqb c 34)) (not (eqb c 92)) h in before-plain q c t (untrue (eqb c 34) b.0) (untrue (eqb c 92) b.1) k
before-mark q Quote t h k = refl
before-mark q Backslash t h k = refl
before-mark q Feed t h k = refl
before-mark q Tab t h k = refl
before-mark q Backspace t h k = refl

before-marks : (marks : List Mark) (t : List ℕ) → list_all is_mark marks ≡ true → before_comment true false (flat_map mark_text marks ++ t) ≡ flat_map mark_text marks ++ before_comment true false t
before-marks [] t h = refl
before-marks (m ∷ ms) t h =
    let b = and_parts (is_mark m) (list_all is_mark ms) h in
    ap (before_comment true false) (append_assoc (mark_text m) (flat_map mark_text ms) t)
    ∙ before-mark true m (flat_map mark_text ms ++ t) b.0 (and_none (is_sign m))
    ∙ ap (λ u. mark_text m ++ u) (before-marks ms t b.1)
    ∙ sym (append_assoc (mark_text m) (flat_map mark_text ms) (before_comment true false t))

before-quote : (q : Bool) (t : List ℕ) → before_comment q false (34 ∷ t) ≡ 34 ∷ before_comment (not q) false t
unfolding before_comment
before-quote q t = refl

before-part : (p : Part) (t : List ℕ) → is_part p ≡ true → is_free p ≡ true → before_comment false false (part_text p ++ t) ≡ part_text p ++ before_comment false false t
before-part (Bare m) t h k = before-mark false m t h (ap (λ b. b && true) (untrue (is_sign m) k))
before-part (Quoted ms) t h k =
    let marks = flat_map mark_text ms in
    before-quote false ((marks ++ 34 ∷ []) ++ t)
    ∙ ap (λ u. 34 ∷ before_comment true false u) (append_assoc marks (34 ∷ []) t)
    ∙ ap (λ u. 34 ∷ u) (before-marks ms (34 ∷ t) h ∙ ap (λ u. marks ++ u) (before-quote true t) ∙ sym (append_assoc marks (34 ∷ []) (before_comment false false t)))

before-parts : (ps : List Part) (t : List ℕ) → list_all is_part ps ≡ true → list_all is_free ps ≡ true → before_comment false false (flat_map part_text ps ++ t) ≡ flat_map part_text ps ++ before_comment false false t
before-parts [] t h k = refl
before-parts (p ∷ ps) t h k =
    let a = and_parts (is_part p) (list_all is_part ps) h in
    let b = and_parts (is_free p) (list_all is_free ps) k in
    ap (before_comment false false) (append_assoc (part_text p) (flat_map part_text ps) t)
    ∙ before-part p (flat_map part_text ps ++ t) a.0 b.0
    ∙ ap (λ u. part_text p ++ u) (before-parts ps t a.1 b.1)
    ∙ sym (append_assoc (part_text p) (flat_map part_text ps) (before_comment false false t))

stopped : {A : Type 0} (a b d : Bool) (x y z w : A) → a ≡ false → b ≡ false → d ≡ true → cond a x (cond b y (cond d z w)) ≡ z
stopped a b d x y z w e f g = rw (e, f, g) refl

before-sign : (q : Bool) (c : ℕ) (cs : List ℕ) → eqb c 34 ≡ false → eqb c 92 ≡ false → (is_comment_sign c && not q) ≡ true → before_comment q false (c ∷ cs) ≡ []
unfolding before_comment
before-sign q c cs a b d = stopped (eqb c 34) (eqb c 92) (is_comment_sign c && not q) (c ∷ before_comment (not q) false cs) (c ∷ before_comment q true cs) [] (c ∷ before_comment q false cs) a b d

before-end : (comment : List ℕ) → is_end_or_comment comment ≡ true → before_comment false false comment ≡ []
unfolding before_comment
before-end [] h = refl
before-end (c ∷ cs) h = before-sign false c cs (other_byte is_comment_sign 34 c refl h) (other_byte is_comment_sign 92 c refl h) (ap (λ b. b && true) h)

-- blanks at the edges

pub skip-blanks : (bs t : List ℕ) → list_all is_blank bs ≡ true → skip_blanks (bs ++ t) ≡ skip_blanks t
skip-blanks [] t h = refl
skip-blanks (c ∷ cs) t h = let b = and_parts (is_blank c) (list_all is_blank cs) h in one_blank c (cs ++ t) b.0 ∙ skip-blanks cs t b.1

trim-one : (t : List ℕ) (c : ℕ) → is_blank c ≡ true → trim_end (t ++ c ∷ []) ≡ trim_end t
trim-one t c h =
    let one : length (c ∷ []) ≡ 1 = refl in
    let counted : suffix_len is_blank (t ++ c ∷ []) ≡ 1 + suffix_len is_blank t =
    ap (prefix_len is_blank) (reverse-append t (c ∷ [])) ∙ ap (λ b. cond b (1 + prefix_len is_blank (reverse t)) 0) h in
    let left : length (t ++ c ∷ []) - suffix_len is_blank (t ++ c ∷ []) ≡ length t - suffix_len is_blank t = omega (arith, counted, length-append t (c ∷ [])) in
    ap (λ n. take n (t ++ c ∷ [])) left ∙ take-append-le (length t - suffix_len is_blank t) t (c ∷ []) (omega arith)

trim-blanks : (t bs : List ℕ) → list_all is_blank bs ≡ true → trim_end (t ++ bs) ≡ trim_end t
trim-blanks t [] h = ap trim_end (append-nil t)
trim-blanks t (c ∷ cs) h =
    let b = and_parts (is_blank c) (list_all is_blank cs) h in
    ap trim_end (sym (append_assoc t (c ∷ []) cs)) ∙ trim-blanks (t ++ c ∷ []) cs b.1 ∙ trim-one t c b.0

begins : List ℕ → Bool
begins [] = true
begins (c ∷ cs) = not (is_blank c)

begins_skip : (text : List ℕ) → begins (skip_blanks text) ≡ true
unfolding begins
begins_skip [] = refl
begins_skip (c ∷ cs) = by_test (begins_skip cs) (is_blank c) refl where
  by_test : begins (skip_blanks cs) ≡ true → (t : Bool) → is_blank c ≡ t → begins (skip_blanks (c ∷ cs)) ≡ true
  by_test rest true is = ap begins (one_blank c cs is) ∙ rest
  by_test rest false is = ap begins (no_blank c cs is) ∙ ap not is

skip_begun : (text rest : List ℕ) → begins (text ++ rest) ≡ true → skip_blanks text ≡ text
unfolding begins
skip_begun [] rest h = refl
skip_begun (c ∷ cs) rest h = no_blank c cs (untrue (is_blank c) h)

inner_is : (inner back : List ℕ) → skip_blanks inner ≡ inner → trim_end inner ≡ inner → list_all is_blank back ≡ true → trim_end (skip_blanks (inner ++ back)) ≡ inner
unfolding begins
inner_is [] back front behind h = ap (λ t. trim_end (skip_blanks t)) (sym (append-nil back)) ∙ ap trim_end (skip-blanks back [] h)
inner_is (c ∷ cs) back front behind h =
    let first : begins (c ∷ cs) ≡ true = ap begins (sym front) ∙ begins_skip (c ∷ cs) in
    ap trim_end (no_blank c (cs ++ back) (untrue (is_blank c) first)) ∙ trim-blanks (c ∷ cs) back h ∙ behind

regroup : (a b c d : List ℕ) → ((a ++ b) ++ c) ++ d ≡ a ++ (b ++ (c ++ d))
regroup a b c d = simp append_assoc

-- from the parts to the value
value_said : (text value : List ℕ) → SaysValue text value → value_of text ≡ Some value
unfolding value_of
value_said text value s =
    let inner = flat_map part_text s.parts in
    let body : before_comment false false text ≡ s.front ++ (inner ++ s.back) =
    ap (before_comment false false) (s.text_is ∙ regroup s.front inner s.back s.comment)
    ∙ before-blanks s.front (inner ++ (s.back ++ s.comment)) s.front_is_blank
    ∙ ap (λ u. s.front ++ u) (before-parts s.parts (s.back ++ s.comment) s.well s.free
    ∙ ap (λ u. inner ++ u) (before-blanks s.back s.comment s.back_is_blank ∙ ap (λ u. s.back ++ u) (before-end s.comment s.ends) ∙ append-nil s.back)) in
    ap (λ u. unquoted false false (trim_end (skip_blanks u))) body
    ∙ ap (λ u. unquoted false false (trim_end u)) (skip-blanks s.front (inner ++ s.back) s.front_is_blank)
    ∙ ap (unquoted false false) (inner_is inner s.back s.none_in_front s.none_behind s.back_is_blank)
    ∙ read-parts s.parts s.well ∙ ap Some (sym s.value_is)

-- where a comment begins

record IsCut (q e : Bool) (text body : List ℕ) : Type 0 where
  comment : List ℕ
  is : text ≡ body ++ comment
  ends : is_end_or_comment comment ≡ true
  again : before_comment q e body ≡ body

cut_byte : (q : Bool) (cs : List ℕ) → IsCut (not q) false cs (before_comment (not q) false cs) → IsCut q true cs (before_comment q true cs) → IsCut q false cs (before_comment q false cs)
    → (c : ℕ) → IsCut q false (c ∷ cs) (before_comment q false (c ∷ cs))
unfolding before_comment
cut_byte q cs other escaped same c =
    let P : ℕ → Type 0 = λ c. IsCut q false (c ∷ cs) (before_comment q false (c ∷ cs)) in
    byte_at P c 34 (record { comment = other.comment; is = ap (λ t. 34 ∷ t) other.is; ends = other.ends; again = ap (λ t. 34 ∷ t) other.again }) (λ a.
    byte_at P c 92 (record { comment = escaped.comment; is = ap (λ t. 92 ∷ t) escaped.is; ends = escaped.ends; again = ap (λ t. 92 ∷ t) escaped.again }) (λ b.
    by_test a b (is_comment_sign c && not q) refl))
  where
    by_test : eqb c 34 ≡ false → eqb c 92 ≡ false → (t : Bool) → (is_comment_sign c && not q) ≡ t → IsCut q false (c ∷ cs) (before_comment q false (c ∷ cs))
    by_test a b true is = subst (IsCut q false (c ∷ cs)) (sym (before-sign q c cs a b is)) (record { comment = c ∷ cs; is = refl; ends = (and_parts (is_comment_sign c) (not q) is).0; again = refl })
    by_test a b false is = subst (IsCut q false (c ∷ cs)) (sym (before-plain q c cs a b is)) (record {
      comment = same.comment;
      is = ap (λ t. c ∷ t) same.is;
      ends = same.ends;
      again = before-plain q c (before_comment q false cs) a b is ∙ ap (λ t. c ∷ t) same.again;
    })

cut : (text : List ℕ) (q e : Bool) → IsCut q e text (before_comment q e text)
unfolding before_comment
cut [] q true = record { comment = []; is = refl; ends = refl; again = refl }
cut [] q false = record { comment = []; is = refl; ends = refl; again = refl }
cut (c ∷ cs) q true = let r = cut cs q false in record { comment = r.comment; is = ap (λ t. c ∷ t) r.is; ends = r.ends; again = ap (λ t. c ∷ t) r.again }
cut (c ∷ cs) q false = cut_byte q cs (cut cs (not q) false) (cut cs q true) (cut cs q false) c

-- where the blanks at the end begin

closes : List ℕ → Bool
closes [] = true
closes (c ∷ []) = not (is_blank c)
closes (c ∷ d ∷ ds) = closes (d ∷ ds)

record IsClosed (text : List ℕ) : Type 0 where
  front : List ℕ
  last : ℕ
  is : text ≡ front ++ last ∷ []
  fine : is_blank last ≡ false

closed : (c : ℕ) (cs : List ℕ) → closes (c ∷ cs) ≡ true → IsClosed (c ∷ cs)
unfolding closes
closed c [] h = record { front = []; last = c; is = refl; fine = untrue (is_blank c) h }
closed c (d ∷ ds) h = let r = closed d ds h in record { front = c ∷ r.front; last = r.last; is = ap (λ t. c ∷ t) r.is; fine = r.fine }

trim_closed : (text : List ℕ) → closes text ≡ true → trim_end text ≡ text
trim_closed [] h = refl
trim_closed (c ∷ cs) h =
    let r = closed c cs h in
    let none : suffix_len is_blank (c ∷ cs) ≡ 0 =
    ap (λ t. prefix_len is_blank (reverse t)) r.is
    ∙ ap (prefix_len is_blank) (reverse-append r.front (r.last ∷ []))
    ∙ ap (λ t. cond t (1 + prefix_len is_blank (reverse r.front)) 0) r.fine in
    take_all (length (c ∷ cs) - suffix_len is_blank (c ∷ cs)) (c ∷ cs) (omega (arith, none))

record IsSplit (text : List ℕ) : Type 0 where
  inner : List ℕ
  back : List ℕ
  is : text ≡ inner ++ back
  blank : list_all is_blank back ≡ true
  closed : closes inner ≡ true

add_byte : (c : ℕ) (inner back : List ℕ) → list_all is_blank back ≡ true → closes inner ≡ true → IsSplit (c ∷ (inner ++ back))
unfolding closes
add_byte c [] back h k = by_test (is_blank c) refl where
  by_test : (t : Bool) → is_blank c ≡ t → IsSplit (c ∷ back)
  by_test true is = record { inner = []; back = c ∷ back; is = refl; blank = and_from (is_blank c) (list_all is_blank back) is h; closed = refl }
  by_test false is = record { inner = c ∷ []; back = back; is = refl; blank = h; closed = ap not is }
add_byte c (d ∷ ds) back h k = record { inner = c ∷ d ∷ ds; back = back; is = refl; blank = h; closed = k }

split_end : (text : List ℕ) → IsSplit text
unfolding closes
split_end [] = record { inner = []; back = []; is = refl; blank = refl; closed = refl }
split_end (c ∷ cs) = let r = split_end cs in subst (λ t. IsSplit (c ∷ t)) (sym r.is) (add_byte c r.inner r.back r.blank r.closed)

pub front_blanks : (text : List ℕ) → list_all is_blank (take (prefix_len is_blank text) text) ≡ true
front_blanks [] = refl
front_blanks (c ∷ cs) = by_test (front_blanks cs) (is_blank c) refl where
  by_test : list_all is_blank (take (prefix_len is_blank cs) cs) ≡ true → (t : Bool) → is_blank c ≡ t → list_all is_blank (take (cond t (1 + prefix_len is_blank cs) 0) (c ∷ cs)) ≡ true
  by_test rest true is =
      let one : 1 + prefix_len is_blank cs ≡ suc (prefix_len is_blank cs) = omega arith in
      ap (λ n. list_all is_blank (take n (c ∷ cs))) one ∙ and_from (is_blank c) (list_all is_blank (take (prefix_len is_blank cs) cs)) is rest
  by_test rest false is = refl

-- no comment sign outside quotes, where none is cut off

same_behind : (xs a b : List ℕ) → xs ++ a ≡ xs ++ b → a ≡ b
same_behind [] a b h = h
same_behind (x ∷ xs) a b h = same_behind xs a b cc

sign_cut : (c : ℕ) (t : List ℕ) → is_mark (Byte c) ≡ true → before_comment false false (c ∷ t) ≡ c ∷ t → not (is_comment_sign c) ≡ true
sign_cut c t h k = by_test (is_comment_sign c) refl where
  by_test : (b : Bool) → is_comment_sign c ≡ b → not (is_comment_sign c) ≡ true
  by_test false is = ap not is
  by_test true is =
      let m = and_parts (not (eqb c 34)) (not (eqb c 92)) h in
      let none : [] ≡ c ∷ t = sym (before-sign false c t (untrue (eqb c 34) m.0) (untrue (eqb c 92) m.1) (ap (λ b. b && true) is)) ∙ k in
      absurd cc

free_part : (p : Part) (t : List ℕ) → is_part p ≡ true → before_comment false false (part_text p ++ t) ≡ part_text p ++ t → is_free p ≡ true
free_part (Quoted ms) t h k = refl
free_part (Bare (Byte c)) t h k = sign_cut c t h k
free_part (Bare Quote) t h k = refl
free_part (Bare Backslash) t h k = refl
free_part (Bare Feed) t h k = refl
free_part (Bare Tab) t h k = refl
free_part (Bare Backspace) t h k = refl

free_parts : (ps : List Part) (t : List ℕ) → list_all is_part ps ≡ true → before_comment false false (flat_map part_text ps ++ t) ≡ flat_map part_text ps ++ t → list_all is_free ps ≡ true
free_parts [] t h k = refl
free_parts (p ∷ ps) t h k =
    let a = and_parts (is_part p) (list_all is_part ps) h in
    let rest = flat_map part_text ps ++ t in
    let whole : before_comment false false (part_text p ++ rest) ≡ part_text p ++ rest =
    ap (before_comment false false) (sym (append_assoc (part_text p) (flat_map part_text ps) t)) ∙ k ∙ append_assoc (part_text p) (flat_map part_text ps) t in
    let free = free_part p rest a.0 whole in
    and_from (is_free p) (list_all is_free ps) free
    (free_parts ps t a.1 (same_behind (part_text p) (before_comment false false rest) rest (sym (before-part p rest a.0 free) ∙ whole)))

-- from the value to the parts
says_value : (text value : List ℕ) → value_of text ≡ Some value → SaysValue text value
unfolding value_of
says_value text value h = record {
  front = front;
  parts = r.parts;
  back = s.back;
  comment = k.comment;
  text_is = k.is ∙ ap (λ t. t ++ k.comment) (body_is ∙ sym (append_assoc front inner s.back));
  value_is = r.value_is;
  well = r.well;
  free = free_parts r.parts s.back r.well
      (same_behind front (before_comment false false (inner ++ s.back)) (inner ++ s.back)
      (sym (before-blanks front (inner ++ s.back) blank) ∙ ap (before_comment false false) (sym body_is) ∙ k.again ∙ body_is));
  front_is_blank = blank;
  back_is_blank = s.blank;
  none_in_front = ap skip_blanks (sym r.text_is) ∙ skip_begun s.inner s.back (ap begins (sym s.is) ∙ begins_skip body) ∙ r.text_is;
  none_behind = ap trim_end (sym r.text_is) ∙ trim_closed s.inner s.closed ∙ r.text_is;
  ends = k.ends;
} where
  body : List ℕ
  body = before_comment false false text

  k : IsCut false false text body
  k = cut text false false

  front : List ℕ
  front = take (prefix_len is_blank body) body

  blank : list_all is_blank front ≡ true
  blank = front_blanks body

  s : IsSplit (skip_blanks body)
  s = split_end (skip_blanks body)

  r : IsInParts s.inner value
  r = in_parts s.inner false value (ap (unquoted false false) (sym (ap trim_end s.is ∙ trim-blanks s.inner s.back s.blank ∙ trim_closed s.inner s.closed)) ∙ h)

  inner : List ℕ
  inner = flat_map part_text r.parts

  body_is : body ≡ front ++ (inner ++ s.back)
  body_is = sym (take-append-drop (prefix_len is_blank body) body) ∙ ap (λ t. front ++ t) (s.is ∙ ap (λ t. t ++ s.back) r.text_is)

pub value_between : (text value : List ℕ) → (value_of text ≡ Some value) ↔ SaysValue text value
value_between text value = (says_value text value, value_said text value)
