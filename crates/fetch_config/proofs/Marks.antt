-- A text is read as its characters and quoted runs say, and each text that is read has them.
use Rattle.std.proofs.Common.{◌≡◌, ◌↔◌, ℕ, Bool, true, false, cond, not, eqb, subst, List, [], ◌∷◌, ◌++◌, map, Option, Some, None, refl, sym, ap, ◌∙◌, append_assoc}
use Rattle.std.specs.List.{list_all, flat_map}
use Rattle.std.proofs.lemmas.Bool.{eqb-true, and_parts, and_from}
use Rattle.fetch_base.specs.Scan.{◌>>=◌}
use Rattle.fetch_config.specs.Values.{escape_of, with_byte, unquoted}
use Rattle.fetch_config.specs.Marks.{Mark, Byte, Quote, Backslash, Feed, Tab, Backspace, mark_text, mark_byte, is_mark, Part, Bare, Quoted, part_text, part_value, is_part, IsInParts}
use Rattle.fetch_config.proofs.Decoding.{onto}

-- from the parts to the value

pub untrue : (b : Bool) → not b ≡ true → b ≡ false
untrue true h = absurd cc
untrue false h = refl

second : {A : Type 0} (a b : Bool) (x y z : A) → a ≡ false → b ≡ false → cond a x (cond b y z) ≡ z
second a b x y z e f = rw (e, f) refl

read-mark : (q : Bool) (mark : Mark) (t : List ℕ) → is_mark mark ≡ true → unquoted q false (mark_text mark ++ t) ≡ with_byte (mark_byte mark) (unquoted q false t)
unfolding unquoted
read-mark q (Byte c) t h =
    let b = and_parts (not (eqb c 34)) (not (eqb c 92)) h in
    second (eqb c 34) (eqb c 92) (unquoted (not q) false t) (unquoted q true t) (with_byte c (unquoted q false t)) (untrue (eqb c 34) b.0) (untrue (eqb c 92) b.1)
read-mark q Quote t h = refl
read-mark q Backslash t h = refl
read-mark q Feed t h = refl
read-mark q Tab t h = refl
read-mark q Backspace t h = refl

onto-more : (c : ℕ) (cs : List ℕ) (o : Option (List ℕ)) → with_byte c (onto cs o) ≡ onto (c ∷ cs) o
onto-more c cs None = refl
onto-more c cs (Some text) = refl

onto-nothing : (o : Option (List ℕ)) → o ≡ onto [] o
onto-nothing None = refl
onto-nothing (Some text) = refl

read-marks : (q : Bool) (marks : List Mark) (t : List ℕ) → list_all is_mark marks ≡ true → unquoted q false (flat_map mark_text marks ++ t) ≡ onto (map mark_byte marks) (unquoted q false t)
read-marks q [] t h = onto-nothing (unquoted q false t)
read-marks q (m ∷ ms) t h =
    let b = and_parts (is_mark m) (list_all is_mark ms) h in
    ap (unquoted q false) (append_assoc (mark_text m) (flat_map mark_text ms) t)
    ∙ read-mark q m (flat_map mark_text ms ++ t) b.0
    ∙ ap (with_byte (mark_byte m)) (read-marks q ms t b.1)
    ∙ onto-more (mark_byte m) (map mark_byte ms) (unquoted q false t)

read-quote : (q : Bool) (t : List ℕ) → unquoted q false (34 ∷ t) ≡ unquoted (not q) false t
unfolding unquoted
read-quote q t = refl

one_onto : (c : ℕ) (o : Option (List ℕ)) → with_byte c o ≡ onto (c ∷ []) o
one_onto c None = refl
one_onto c (Some text) = refl

read-part : (part : Part) (t : List ℕ) → is_part part ≡ true → unquoted false false (part_text part ++ t) ≡ onto (part_value part) (unquoted false false t)
read-part (Bare mark) t h = read-mark false mark t h ∙ one_onto (mark_byte mark) (unquoted false false t)
read-part (Quoted marks) t h =
    read-quote false ((flat_map mark_text marks ++ 34 ∷ []) ++ t)
    ∙ ap (unquoted true false) (append_assoc (flat_map mark_text marks) (34 ∷ []) t)
    ∙ read-marks true marks (34 ∷ t) h
    ∙ ap (onto (map mark_byte marks)) (read-quote true t)

read-nothing : unquoted false false [] ≡ Some []
unfolding unquoted
read-nothing = refl

pub read-parts : (parts : List Part) → list_all is_part parts ≡ true → unquoted false false (flat_map part_text parts) ≡ Some (flat_map part_value parts)
read-parts [] h = read-nothing
read-parts (p ∷ ps) h =
    let b = and_parts (is_part p) (list_all is_part ps) h in
    read-part p (flat_map part_text ps) b.0 ∙ ap (onto (part_value p)) (read-parts ps b.1)

-- from the value to the parts

-- characters up to a closing quote, and parts after it
pub record IsInRun (text value : List ℕ) : Type 0 where
  marks : List Mark
  well : list_all is_mark marks ≡ true
  rest_text : List ℕ
  rest_value : List ℕ
  rest : IsInParts rest_text rest_value
  text_is : text ≡ flat_map mark_text marks ++ 34 ∷ rest_text
  value_is : value ≡ map mark_byte marks ++ rest_value

abbrev pub IsRead : Bool → List ℕ → List ℕ → Type 0
IsRead true text value = IsInRun text value
IsRead false text value = IsInParts text value

add_mark : (q : Bool) (m : Mark) (text value : List ℕ) → is_mark m ≡ true → IsRead q text value → IsRead q (mark_text m ++ text) (mark_byte m ∷ value)
add_mark true m text value h r = record {
  marks = m ∷ r.marks;
  well = and_from (is_mark m) (list_all is_mark r.marks) h r.well;
  rest_text = r.rest_text;
  rest_value = r.rest_value;
  rest = r.rest;
  text_is = ap (λ t. mark_text m ++ t) r.text_is ∙ sym (append_assoc (mark_text m) (flat_map mark_text r.marks) (34 ∷ r.rest_text));
  value_is = ap (λ v. mark_byte m ∷ v) r.value_is;
}
add_mark false m text value h r = record {
  parts = Bare m ∷ r.parts;
  well = and_from (is_mark m) (list_all is_part r.parts) h r.well;
  text_is = ap (λ t. mark_text m ++ t) r.text_is;
  value_is = ap (λ v. mark_byte m ∷ v) r.value_is;
}

add_quote : (q : Bool) (text value : List ℕ) → IsRead (not q) text value → IsRead q (34 ∷ text) value
add_quote true text value r = record { marks = []; well = refl; rest_text = text; rest_value = value; rest = r; text_is = refl; value_is = refl }
add_quote false text value r = record {
  parts = Quoted r.marks ∷ r.rest.parts;
  well = and_from (list_all is_mark r.marks) (list_all is_part r.rest.parts) r.well r.rest.well;
  text_is = ap (λ t. 34 ∷ t) (
      r.text_is
      ∙ sym (append_assoc (flat_map mark_text r.marks) (34 ∷ []) r.rest_text)
      ∙ ap (λ t. (flat_map mark_text r.marks ++ 34 ∷ []) ++ t) r.rest.text_is);
  value_is = r.value_is ∙ ap (λ v. map mark_byte r.marks ++ v) r.rest.value_is;
}

record IsOneMore (c : ℕ) (o : Option (List ℕ)) (value : List ℕ) : Type 0 where
  behind : List ℕ
  is : o ≡ Some behind
  value_is : c ∷ behind ≡ value

one_more : (c : ℕ) (o : Option (List ℕ)) (value : List ℕ) → with_byte c o ≡ Some value → IsOneMore c o value
one_more c None value h = absurd cc
one_more c (Some text) value h = record { behind = text; is = refl; value_is = cc }

-- an escape that is read
record IsEscape (d : ℕ) (o : Option (List ℕ)) (value : List ℕ) : Type 0 where
  mark : Mark
  well : is_mark mark ≡ true
  text_is : mark_text mark ≡ 92 ∷ d ∷ []
  reads : with_byte (mark_byte mark) o ≡ Some value

escape : (d : ℕ) (o : Option (List ℕ)) (value : List ℕ) → (escape_of d >>= λ b. with_byte b o) ≡ Some value → IsEscape d o value
escape d o value = quote (eqb d 34) refl where
  then : Option ℕ → Option (List ℕ)
  then e = e >>= λ b. with_byte b o

  made : (m : Mark) (n : ℕ) → is_mark m ≡ true → mark_text m ≡ 92 ∷ n ∷ [] → eqb d n ≡ true → with_byte (mark_byte m) o ≡ Some value → IsEscape d o value
  made m n well is same h = record { mark = m; well = well; text_is = is ∙ ap (λ n. 92 ∷ n ∷ []) (sym (eqb-true d n same)); reads = h }

  back : (t : Bool) → eqb d 98 ≡ t → (cond t (Some 8) None >>= λ b. with_byte b o) ≡ Some value → IsEscape d o value
  back true is h = made Backspace 98 refl refl is h
  back false is h = absurd cc

  tab : (t : Bool) → eqb d 116 ≡ t → (cond t (Some 9) (cond (eqb d 98) (Some 8) None) >>= λ b. with_byte b o) ≡ Some value → IsEscape d o value
  tab true is h = made Tab 116 refl refl is h
  tab false is h = back (eqb d 98) refl h

  feed : (t : Bool) → eqb d 110 ≡ t → (cond t (Some 10) (cond (eqb d 116) (Some 9) (cond (eqb d 98) (Some 8) None)) >>= λ b. with_byte b o) ≡ Some value → IsEscape d o value
  feed true is h = made Feed 110 refl refl is h
  feed false is h = tab (eqb d 116) refl h

  slash : (t : Bool) → eqb d 92 ≡ t → (cond t (Some 92) (cond (eqb d 110) (Some 10) (cond (eqb d 116) (Some 9) (cond (eqb d 98) (Some 8) None))) >>= λ b. with_byte b o) ≡ Some value → IsEscape d o value
  slash true is h = made Backslash 92 refl refl is h
  slash false is h = feed (eqb d 110) refl h

  quote : (t : Bool) → eqb d 34 ≡ t → (cond t (Some 34) (cond (eqb d 92) (Some 92) (cond (eqb d 110) (Some 10) (cond (eqb d 116) (Some 9) (cond (eqb d 98) (Some 8) None)))) >>= λ b. with_byte b o) ≡ Some value → IsEscape d o value
  quote true is h = made Quote 34 refl refl is h
  quote false is h = slash (eqb d 92) refl h

-- what follows says its parts, wherever it is read
abbrev pub Follows : Bool → List ℕ → Type 0
Follows q text = (value : List ℕ) → unquoted q false text ≡ Some value → IsRead q text value

escape_cut : (q : Bool) (value : List ℕ) → unquoted q true [] ≡ Some value → ⊥
unfolding unquoted
escape_cut true value h = cc
escape_cut false value h = cc

read_escape : (q : Bool) (d : ℕ) (ds value : List ℕ) → Follows q ds → unquoted q true (d ∷ ds) ≡ Some value → IsRead q (92 ∷ d ∷ ds) value
unfolding unquoted
read_escape q d ds value follows h =
    let e = escape d (unquoted q false ds) value h in
    let m = one_more (mark_byte e.mark) (unquoted q false ds) value e.reads in
    let r = add_mark q e.mark ds m.behind e.well (follows m.behind m.is) in
    subst (λ t. IsRead q (t ++ ds) value) e.text_is (subst (IsRead q (mark_text e.mark ++ ds)) m.value_is r)

-- a text from its first byte on, given what follows that, and what follows an escape
read_byte : (q : Bool) (c : ℕ) (cs value : List ℕ) → Follows (not q) cs → Follows q cs → (unquoted q true cs ≡ Some value → IsRead q (92 ∷ cs) value) → unquoted q false (c ∷ cs) ≡ Some value → IsRead q (c ∷ cs) value
unfolding unquoted
read_byte q c cs value other same escaped = quote (eqb c 34) refl where
  slash : (t : Bool) → eqb c 34 ≡ false → eqb c 92 ≡ t → cond t (unquoted q true cs) (with_byte c (unquoted q false cs)) ≡ Some value → IsRead q (c ∷ cs) value
  slash true unquote is h = subst (λ n. IsRead q (n ∷ cs) value) (sym (eqb-true c 92 is)) (escaped h)
  slash false unquote is h =
      let m = one_more c (unquoted q false cs) value h in
      subst (IsRead q (c ∷ cs)) m.value_is (add_mark q (Byte c) cs m.behind (and_from (not (eqb c 34)) (not (eqb c 92)) (ap not unquote) (ap not is)) (same m.behind m.is))

  quote : (t : Bool) → eqb c 34 ≡ t → cond t (unquoted (not q) false cs) (cond (eqb c 92) (unquoted q true cs) (with_byte c (unquoted q false cs))) ≡ Some value → IsRead q (c ∷ cs) value
  quote true is h = subst (λ n. IsRead q (n ∷ cs) value) (sym (eqb-true c 34 is)) (add_quote q cs value (other value h))
  quote false is h = slash (eqb c 92) is refl h

read_end : (q : Bool) → Follows q []
unfolding unquoted
read_end true value h = absurd cc
read_end false value h = record { parts = []; well = refl; text_is = refl; value_is = cc }

pub in_parts : (text : List ℕ) (q : Bool) → Follows q text
in_parts [] q = read_end q
in_parts (c ∷ []) q = λ value. read_byte q c [] value (read_end (not q)) (read_end q) (λ h. absurd (escape_cut q value h))
in_parts (c ∷ d ∷ ds) q = λ value. read_byte q c (d ∷ ds) value (in_parts (d ∷ ds) (not q)) (in_parts (d ∷ ds) q) (read_escape q d ds value (in_parts ds q))

pub quotes_group : (text value : List ℕ) → (unquoted false false text ≡ Some value) ↔ IsInParts text value
quotes_group text value = (in_parts text false value, λ r. ap (unquoted false false) r.text_is ∙ read-parts r.parts r.well ∙ ap Some (sym r.value_is))
