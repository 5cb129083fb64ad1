-- Which lines are headers, and which are entries.
use Rattle.std.proofs.Common.{◌≡◌, ◌↔◌, ℕ, Bool, true, false, cond, not, ◌||◌, eqb, List, [], ◌∷◌, ◌++◌, take, drop, map, Option, Some, None, refl, sym, ap, subst, ◌∙◌, append_assoc}
use Rattle.std.specs.List.{list_all, flat_map, prefix_len, take_while}
use Rattle.std.specs.Option.{option_map}
use Rattle.std.specs.Char.{is_ascii_alphabetic}
use Rattle.std.proofs.lemmas.Bool.{eqb-true, and_parts, and_from}
use Rattle.std.proofs.lemmas.List.{take-append-drop}
use Rattle.fetch_base.specs.Scan.{◌>>=◌}
use Rattle.fetch_config.specs.declared.line.Line.{Line}
use Rattle.fetch_config.specs.declared.line.Line.TheVariants.{Nothing, Header, Entry}
use Rattle.fetch_config.specs.Pieces.{is_blank, is_comment_sign, is_name_byte, skip_blanks, is_nothing, is_name, is_key, behind}
use Rattle.fetch_config.specs.Values.{value_of, subsection_of}
use Rattle.fetch_config.specs.Subsections.{letter_text, letter_byte}
use Rattle.fetch_config.specs.Lines.{header_before, header_with_sub, header_behind, header_of, entry_behind, entry_of, line_at, has_nul, line_of}
use Rattle.fetch_config.specs.Shapes.{SaysSub, SaysHeader, SaysAssigned, SaysEntry}
use Rattle.fetch_config.proofs.WrittenValues.{no_blank}
use Rattle.fetch_config.proofs.WrittenLines.{other_byte, is_stop, divided, name_bytes, key_bytes}
use Rattle.fetch_config.proofs.Edges.{skip-blanks, front_blanks, value_between}
use Rattle.fetch_config.proofs.Letters.{backslash_takes, read-letters}

-- a text as its blanks and what follows them
record Led (text : List ℕ) : Type 0 where
  front : List ℕ
  blank : list_all is_blank front ≡ true
  is : text ≡ front ++ skip_blanks text

led : (text : List ℕ) → Led text
led text = record { front = take (prefix_len is_blank text) text; blank = front_blanks text; is = sym (take-append-drop (prefix_len is_blank text) text) }

-- where a line is read
record Read (text : List ℕ) (line : Line) : Type 0 where
  free : has_nul text ≡ false
  at : line_at (skip_blanks text) ≡ Some line

read : (text : List ℕ) (line : Line) → line_of text ≡ Some line → Read text line
unfolding line_of
read text line = step (has_nul text) refl
  where
    step : (t : Bool) → has_nul text ≡ t → cond t None (line_at (skip_blanks text)) ≡ Some line → Read text line
    step true free is = absurd cc
    step false free is = record { free = free; at = is }

read_back : (text : List ℕ) (line : Line) → has_nul text ≡ false → line_at (skip_blanks text) ≡ Some line → line_of text ≡ Some line
unfolding line_of
read_back text line free at = ap (λ (t : Bool). cond t None (line_at (skip_blanks text))) free ∙ at

bind : {A : Type 0} (o : Option A) (f : A → Option Line) (line : Line) → (o >>= f) ≡ Some line → (x : A) × (o ≡ Some x) × (f x ≡ Some line)
bind None f line is = absurd cc
bind (Some x) f line is = (x, refl, is)

behind_is : (c : ℕ) (text rest : List ℕ) → behind c text ≡ Some rest → text ≡ c ∷ rest
behind_is c [] rest is = absurd cc
behind_is c (x ∷ xs) rest is = step (eqb x c) refl is
  where
    step : (t : Bool) → eqb x c ≡ t → cond t (Some xs) None ≡ Some rest → x ∷ xs ≡ c ∷ rest
    step true same is =
        let e : xs ≡ rest = cc in
        ap (λ (y : ℕ). y ∷ xs) (eqb-true x c same) ∙ ap (λ (ys : List ℕ). c ∷ ys) e
    step false other is = absurd cc

record Closed (name : List ℕ) (sub : Option (List ℕ)) (tail found : List ℕ) (told : Option (List ℕ)) : Type 0 where
  nothing : is_nothing tail ≡ true
  name_is : name ≡ found
  sub_is : sub ≡ told

closed : (name : List ℕ) (sub : Option (List ℕ)) (tail found : List ℕ) (told : Option (List ℕ)) → header_before name sub tail ≡ Some (Header found told) → Closed name sub tail found told
closed name sub tail found told = step (is_nothing tail) refl
  where
    step : (t : Bool) → is_nothing tail ≡ t → cond t (Some (Header name sub)) None ≡ Some (Header found told) → Closed name sub tail found told
    step true nothing is = record { nothing = nothing; name_is = cc; sub_is = cc }
    step false nothing is = absurd cc

-- what follows a header's name
record Behind (text : List ℕ) (sub : Option (List ℕ)) : Type 0 where
  inner : List ℕ
  tail : List ℕ
  text_is : text ≡ inner ++ 93 ∷ tail
  sub_is : SaysSub inner sub
  nothing : is_nothing tail ≡ true

with_sub : (name : List ℕ) (c : ℕ) (text found : List ℕ) (told : Option (List ℕ)) → is_blank c ≡ true → header_with_sub name text ≡ Some (Header found told) → (name ≡ found) × Behind (c ∷ text) told
with_sub name c text found told blank is =
    let a = bind (behind 34 (skip_blanks text)) (λ quoted. subsection_of false quoted >>= λ sub. behind 93 sub.1 >>= λ tail. header_before name (Some sub.0) tail) (Header found told) is in
    let quoted = a.0 in
    let b = bind (subsection_of false quoted) (λ sub. behind 93 sub.1 >>= λ tail. header_before name (Some sub.0) tail) (Header found told) a.2 in
    let s = b.0.0 in
    let r = b.0.1 in
    let d = bind (behind 93 r) (λ tail. header_before name (Some s) tail) (Header found told) b.2 in
    let tail = d.0 in
    let e = closed name (Some s) tail found told d.2 in
    let q = (backslash_takes quoted s r).0 b.1 in
    let l = led text in
    let letters = flat_map letter_text q.letters in
    let whole : text ≡ l.front ++ 34 ∷ (letters ++ 34 ∷ 93 ∷ tail) =
    l.is ∙ ap (λ (xs : List ℕ). l.front ++ xs) (behind_is 34 (skip_blanks text) quoted a.1 ∙ ap (λ (xs : List ℕ). 34 ∷ xs) (q.text_is ∙ ap (λ (xs : List ℕ). letters ++ 34 ∷ xs) (behind_is 93 r tail d.1))) in (
      e.name_is,
      record {
        inner = c ∷ (l.front ++ 34 ∷ (letters ++ 34 ∷ []));
        tail = tail;
        text_is = ap (λ (xs : List ℕ). c ∷ xs)
            (whole ∙ ap (λ (xs : List ℕ). l.front ++ 34 ∷ xs) (sym (append_assoc letters (34 ∷ []) (93 ∷ tail))) ∙ sym (append_assoc l.front (34 ∷ (letters ++ 34 ∷ [])) (93 ∷ tail)));
        sub_is = subst (SaysSub (c ∷ (l.front ++ 34 ∷ (letters ++ 34 ∷ [])))) e.sub_is
            (record { blank = c; blanks = l.front; letters = q.letters; text_is = refl; are_blank = and_from (is_blank c) (list_all is_blank l.front) blank l.blank; well = q.well; sub_is = q.name_is });
        nothing = e.nothing;
      },
    )

header_rest : (name text found : List ℕ) (told : Option (List ℕ)) → header_behind name text ≡ Some (Header found told) → (name ≡ found) × Behind text told
header_rest name [] found told is = absurd cc
header_rest name (c ∷ cs) found told is = step (eqb c 93) (is_blank c) refl refl is
  where
    step : (t u : Bool) → eqb c 93 ≡ t → is_blank c ≡ u → cond t (header_before name None cs) (cond u (header_with_sub name cs) None) ≡ Some (Header found told) → (name ≡ found) × Behind (c ∷ cs) told
    step true u bracket blank is =
        let e = closed name None cs found told is in (
          e.name_is,
          record {
            inner = [];
            tail = cs;
            text_is = ap (λ (x : ℕ). x ∷ cs) (eqb-true c 93 bracket);
            sub_is = subst (SaysSub []) e.sub_is refl;
            nothing = e.nothing;
          },
        )
    step false true bracket blank is = with_sub name c cs found told blank is
    step false false bracket blank is = absurd cc

-- a header after its first bracket
record Opened (text name : List ℕ) (sub : Option (List ℕ)) : Type 0 where
  rest : List ℕ
  text_is : text ≡ name ++ rest
  named : is_name name ≡ true
  says : Behind rest sub

header_parts : (text found : List ℕ) (told : Option (List ℕ)) → header_of text ≡ Some (Header found told) → Opened text found told
header_parts text found told = step (is_name name) refl
  where
    name : List ℕ
    name = take_while is_name_byte text

    rest : List ℕ
    rest = drop (prefix_len is_name_byte text) text

    step : (t : Bool) → is_name name ≡ t → cond t (header_behind name rest) None ≡ Some (Header found told) → Opened text found told
    step true named is =
        let b = header_rest name rest found told is in
        record {
          rest = rest;
          text_is = sym (take-append-drop (prefix_len is_name_byte text) text) ∙ ap (λ (xs : List ℕ). xs ++ rest) b.0;
          named = ap is_name (sym b.0) ∙ named;
          says = b.1;
        }
    step false named is = absurd cc

entry_no_header : (text name : List ℕ) (sub : Option (List ℕ)) → entry_of text ≡ Some (Header name sub) → ⊥
entry_no_header text name sub = step (is_key (take_while is_name_byte text)) (skip_blanks (drop (prefix_len is_name_byte text) text))
  where
    key : List ℕ
    key = take_while is_name_byte text

    valued : (o : Option (List ℕ)) → option_map (λ value. Entry key (Some value)) o ≡ Some (Header name sub) → ⊥
    valued None is = cc
    valued (Some v) is = cc

    assigned : (t : Bool) (cs : List ℕ) → cond t (option_map (λ value. Entry key (Some value)) (value_of cs)) None ≡ Some (Header name sub) → ⊥
    assigned true cs is = valued (value_of cs) is
    assigned false cs is = cc

    step : (t : Bool) (rest : List ℕ) → cond t (entry_behind key rest) None ≡ Some (Header name sub) → ⊥
    step true [] is = cc
    step true (c ∷ cs) is = assigned (eqb c 61) cs is
    step false rest is = cc

header_at : (text name : List ℕ) (sub : Option (List ℕ)) → line_at text ≡ Some (Header name sub) → (rest : List ℕ) × (text ≡ 91 ∷ rest) × Opened rest name sub
header_at [] name sub is = absurd cc
header_at (c ∷ cs) name sub is = step (is_comment_sign c) (eqb c 91) refl is
  where
    step : (t u : Bool) → eqb c 91 ≡ u → cond t (Some Nothing) (cond u (header_of cs) (entry_of (c ∷ cs))) ≡ Some (Header name sub) → (rest : List ℕ) × (c ∷ cs ≡ 91 ∷ rest) × Opened rest name sub
    step true u bracket is = absurd cc
    step false true bracket is = (cs, ap (λ (x : ℕ). x ∷ cs) (eqb-true c 91 bracket), header_parts cs name sub is)
    step false false bracket is = absurd (entry_no_header (c ∷ cs) name sub is)

says_header : (text name : List ℕ) (sub : Option (List ℕ)) → line_of text ≡ Some (Header name sub) → SaysHeader text name sub
says_header text name sub is =
    let r = read text (Header name sub) is in
    let h = header_at (skip_blanks text) name sub r.at in
    let l = led text in
    let o = h.2 in
    record {
      front = l.front;
      inner = o.says.inner;
      tail = o.says.tail;
      text_is = l.is ∙ ap (λ (xs : List ℕ). l.front ++ xs) (h.1 ∙ ap (λ (xs : List ℕ). 91 ∷ xs) (o.text_is ∙ ap (λ (xs : List ℕ). name ++ xs) o.says.text_is));
      front_is_blank = l.blank;
      named = o.named;
      sub_is = o.says.sub_is;
      nothing = o.says.nothing;
      no_nul = r.free;
    }

-- and back
closes : (name : List ℕ) (sub : Option (List ℕ)) (tail : List ℕ) → is_nothing tail ≡ true → header_before name sub tail ≡ Some (Header name sub)
closes name sub tail nothing = ap (λ (t : Bool). cond t (Some (Header name sub)) None) nothing

blank_is : (c : ℕ) → is_blank c ≡ true → eqb c 93 ≡ false
blank_is c is = other_byte is_blank 93 c refl is

blank_no_name : (c : ℕ) → is_blank c ≡ true → is_name_byte c ≡ false
blank_no_name c = by_space (eqb c 32) refl
  where
    by_tab : (t : Bool) → eqb c 9 ≡ t → t ≡ true → is_name_byte c ≡ false
    by_tab true tab is = ap is_name_byte (eqb-true c 9 tab)
    by_tab false tab is = absurd cc

    by_space : (t : Bool) → eqb c 32 ≡ t → (t || eqb c 9) ≡ true → is_name_byte c ≡ false
    by_space true space is = ap is_name_byte (eqb-true c 32 space)
    by_space false space is = by_tab (eqb c 9) refl is

stops_sub : (inner tail : List ℕ) (sub : Option (List ℕ)) → SaysSub inner sub → is_stop (inner ++ 93 ∷ tail) ≡ true
unfolding is_stop
stops_sub inner tail None is = ap (λ (xs : List ℕ). is_stop (xs ++ 93 ∷ tail)) is
stops_sub inner tail (Some s) q =
    ap (λ (xs : List ℕ). is_stop (xs ++ 93 ∷ tail)) q.text_is
    ∙ ap not (blank_no_name q.blank (and_parts (is_blank q.blank) (list_all is_blank q.blanks) q.are_blank).0)

reads_sub : (name inner tail : List ℕ) (sub : Option (List ℕ)) → SaysSub inner sub → is_nothing tail ≡ true → header_behind name (inner ++ 93 ∷ tail) ≡ Some (Header name sub)
reads_sub name inner tail None is nothing = ap (λ (xs : List ℕ). header_behind name (xs ++ 93 ∷ tail)) is ∙ closes name None tail nothing
reads_sub name inner tail (Some s) q nothing =
    let both = and_parts (is_blank q.blank) (list_all is_blank q.blanks) q.are_blank in
    let letters = flat_map letter_text q.letters in
    let rest = q.blanks ++ 34 ∷ (letters ++ 34 ∷ []) in
    let regrouped : rest ++ 93 ∷ tail ≡ q.blanks ++ 34 ∷ (letters ++ 34 ∷ 93 ∷ tail) =
    append_assoc q.blanks (34 ∷ (letters ++ 34 ∷ [])) (93 ∷ tail) ∙ ap (λ (xs : List ℕ). q.blanks ++ 34 ∷ xs) (append_assoc letters (34 ∷ []) (93 ∷ tail)) in
    let skipped : skip_blanks (rest ++ 93 ∷ tail) ≡ 34 ∷ (letters ++ 34 ∷ 93 ∷ tail) =
    ap skip_blanks regrouped ∙ skip-blanks q.blanks (34 ∷ (letters ++ 34 ∷ 93 ∷ tail)) both.1 ∙ no_blank 34 (letters ++ 34 ∷ 93 ∷ tail) refl in
    ap (λ (xs : List ℕ). header_behind name (xs ++ 93 ∷ tail)) q.text_is
    ∙ ap (λ (t : Bool). cond t (header_before name None (rest ++ 93 ∷ tail)) (cond (is_blank q.blank) (header_with_sub name (rest ++ 93 ∷ tail)) None)) (blank_is q.blank both.0)
    ∙ ap (λ (t : Bool). cond t (header_with_sub name (rest ++ 93 ∷ tail)) None) both.0
    ∙ ap (λ (xs : List ℕ). behind 34 xs >>= λ quoted. subsection_of false quoted >>= λ sub. behind 93 sub.1 >>= λ tail. header_before name (Some sub.0) tail) skipped
    ∙ ap (λ (o : Option (List ℕ × List ℕ)). o >>= λ sub. behind 93 sub.1 >>= λ tail. header_before name (Some sub.0) tail) (read-letters q.letters (93 ∷ tail) q.well)
    ∙ closes name (Some (map letter_byte q.letters)) tail nothing
    ∙ ap (λ (x : List ℕ). Some (Header name (Some x))) (sym q.sub_is)

header_said : (text name : List ℕ) (sub : Option (List ℕ)) → SaysHeader text name sub → line_of text ≡ Some (Header name sub)
header_said text name sub h =
    let rest = h.inner ++ 93 ∷ h.tail in
    let skipped : skip_blanks text ≡ 91 ∷ (name ++ rest) =
    ap skip_blanks h.text_is ∙ skip-blanks h.front (91 ∷ (name ++ rest)) h.front_is_blank ∙ no_blank 91 (name ++ rest) refl in
    let d = divided name rest (name_bytes name h.named) (stops_sub h.inner h.tail sub h.sub_is) in
    read_back text (Header name sub) h.no_nul
    (ap line_at skipped
    ∙ ap (λ n. cond (is_name n) (header_behind n (drop (prefix_len is_name_byte (name ++ rest)) (name ++ rest))) None) d.front
    ∙ ap (λ r. cond (is_name name) (header_behind name r) None) d.back
    ∙ ap (λ t. cond t (header_behind name rest) None) h.named
    ∙ reads_sub name h.inner h.tail sub h.sub_is h.nothing)

pub header_line_is : (text name : List ℕ) (sub : Option (List ℕ)) → (line_of text ≡ Some (Header name sub)) ↔ SaysHeader text name sub
header_line_is text name sub = (says_header text name sub, header_said text name sub)

-- entries
header_no_entry : (text key : List ℕ) (value : Option (List ℕ)) → header_of text ≡ Some (Entry key value) → ⊥
header_no_entry text key value = step (is_name (take_while is_name_byte text)) (drop (prefix_len is_name_byte text) text)
  where
    name : List ℕ
    name = take_while is_name_byte text

    before : (sub : Option (List ℕ)) (t : Bool) → cond t (Some (Header name sub)) None ≡ Some (Entry key value) → ⊥
    before sub true is = cc
    before sub false is = cc

    subbed : (cs : List ℕ) → header_with_sub name cs ≡ Some (Entry key value) → ⊥
    subbed cs is =
        let a = bind (behind 34 (skip_blanks cs)) (λ quoted. subsection_of false quoted >>= λ sub. behind 93 sub.1 >>= λ tail. header_before name (Some sub.0) tail) (Entry key value) is in
        let b = bind (subsection_of false a.0) (λ sub. behind 93 sub.1 >>= λ tail. header_before name (Some sub.0) tail) (Entry key value) a.2 in
        let d = bind (behind 93 b.0.1) (λ tail. header_before name (Some b.0.0) tail) (Entry key value) b.2 in
        before (Some b.0.0) (is_nothing d.0) d.2

    by_byte : (t u : Bool) (cs : List ℕ) → cond t (header_before name None cs) (cond u (header_with_sub name cs) None) ≡ Some (Entry key value) → ⊥
    by_byte true u cs is = before None (is_nothing cs) is
    by_byte false true cs is = subbed cs is
    by_byte false false cs is = cc

    step : (t : Bool) (rest : List ℕ) → cond t (header_behind name rest) None ≡ Some (Entry key value) → ⊥
    step true [] is = cc
    step true (c ∷ cs) is = by_byte (eqb c 93) (is_blank c) cs is
    step false rest is = cc

record Keyed (text key : List ℕ) (value : Option (List ℕ)) : Type 0 where
  rest : List ℕ
  text_is : text ≡ key ++ rest
  keyed : is_key key ≡ true
  says : SaysAssigned (skip_blanks rest) value

assigned_parts : (key text found : List ℕ) (value : Option (List ℕ)) → entry_behind key text ≡ Some (Entry found value) → (key ≡ found) × SaysAssigned text value
assigned_parts key [] found value is =
    let same : key ≡ found = cc in
    let none : None ≡ value = cc in
    (same, subst (SaysAssigned []) none refl)
assigned_parts key (c ∷ cs) found value is = step (eqb c 61) refl is
  where
    valued : (o : Option (List ℕ)) → value_of cs ≡ o → eqb c 61 ≡ true → option_map (λ v. Entry key (Some v)) o ≡ Some (Entry found value) → (key ≡ found) × SaysAssigned (c ∷ cs) value
    valued None said sign is = absurd cc
    valued (Some v) said sign is =
        let same : key ≡ found = cc in
        let some : Some v ≡ value = cc in (
          same,
          subst (SaysAssigned (c ∷ cs)) some
              (record { rest = cs; text_is = ap (λ (x : ℕ). x ∷ cs) (eqb-true c 61 sign); value_is = (value_between cs v).0 said }),
        )

    step : (t : Bool) → eqb c 61 ≡ t → cond t (option_map (λ v. Entry key (Some v)) (value_of cs)) None ≡ Some (Entry found value) → (key ≡ found) × SaysAssigned (c ∷ cs) value
    step true sign is = valued (value_of cs) refl sign is
    step false sign is = absurd cc

entry_parts : (text found : List ℕ) (value : Option (List ℕ)) → entry_of text ≡ Some (Entry found value) → Keyed text found value
entry_parts text found value = step (is_key key) refl
  where
    key : List ℕ
    key = take_while is_name_byte text

    rest : List ℕ
    rest = drop (prefix_len is_name_byte text) text

    step : (t : Bool) → is_key key ≡ t → cond t (entry_behind key (skip_blanks rest)) None ≡ Some (Entry found value) → Keyed text found value
    step true keyed is =
        let b = assigned_parts key (skip_blanks rest) found value is in
        record {
          rest = rest;
          text_is = sym (take-append-drop (prefix_len is_name_byte text) text) ∙ ap (λ (xs : List ℕ). xs ++ rest) b.0;
          keyed = ap is_key (sym b.0) ∙ keyed;
          says = b.1;
        }
    step false keyed is = absurd cc

entry_at : (text key : List ℕ) (value : Option (List ℕ)) → line_at text ≡ Some (Entry key value) → Keyed text key value
entry_at [] key value is = absurd cc
entry_at (c ∷ cs) key value is = step (is_comment_sign c) (eqb c 91) is
  where
    step : (t u : Bool) → cond t (Some Nothing) (cond u (header_of cs) (entry_of (c ∷ cs))) ≡ Some (Entry key value) → Keyed (c ∷ cs) key value
    step true u is = absurd cc
    step false true is = absurd (header_no_entry cs key value is)
    step false false is = entry_parts (c ∷ cs) key value is

says_entry : (text key : List ℕ) (value : Option (List ℕ)) → line_of text ≡ Some (Entry key value) → SaysEntry text key value
says_entry text key value is =
    let r = read text (Entry key value) is in
    let k = entry_at (skip_blanks text) key value r.at in
    let l = led text in
    let m = led k.rest in
    record {
      front = l.front;
      blanks = m.front;
      back = skip_blanks k.rest;
      text_is = l.is ∙ ap (λ (xs : List ℕ). l.front ++ xs) (k.text_is ∙ ap (λ (xs : List ℕ). key ++ xs) m.is);
      front_is_blank = l.blank;
      blanks_are_blank = m.blank;
      keyed = k.keyed;
      value_is = k.says;
      no_nul = r.free;
    }

stops_blanks : (blanks back : List ℕ) (value : Option (List ℕ)) → list_all is_blank blanks ≡ true → SaysAssigned back value → is_stop (blanks ++ back) ≡ true
unfolding is_stop
stops_blanks [] back None blank is = ap is_stop is
stops_blanks [] back (Some v) blank a = ap is_stop a.text_is
stops_blanks (c ∷ cs) back value blank is = ap not (blank_no_name c (and_parts (is_blank c) (list_all is_blank cs) blank).0)

begun : (back : List ℕ) (value : Option (List ℕ)) → SaysAssigned back value → skip_blanks back ≡ back
begun back None is = ap skip_blanks is ∙ sym is
begun back (Some v) a = ap skip_blanks a.text_is ∙ no_blank 61 a.rest refl ∙ sym a.text_is

reads_assigned : (key back : List ℕ) (value : Option (List ℕ)) → SaysAssigned back value → entry_behind key back ≡ Some (Entry key value)
reads_assigned key back None is = ap (entry_behind key) is
reads_assigned key back (Some v) a =
    ap (entry_behind key) a.text_is ∙ ap (option_map (λ (x : List ℕ). Entry key (Some x))) ((value_between a.rest v).1 a.value_is)

letter_at : (c : ℕ) (cs : List ℕ) → is_ascii_alphabetic c ≡ true → line_at (c ∷ cs) ≡ entry_of (c ∷ cs)
letter_at c cs is =
    let no_comment : is_comment_sign c ≡ false =
    ap (λ (t : Bool). t || eqb c 59) (other_byte is_ascii_alphabetic 35 c refl is) ∙ other_byte is_ascii_alphabetic 59 c refl is in
    ap (λ (t : Bool). cond t (Some Nothing) (cond (eqb c 91) (header_of cs) (entry_of (c ∷ cs)))) no_comment
    ∙ ap (λ (t : Bool). cond t (header_of cs) (entry_of (c ∷ cs))) (other_byte is_ascii_alphabetic 91 c refl is)

letter_no_blank : (c : ℕ) → is_ascii_alphabetic c ≡ true → is_blank c ≡ false
letter_no_blank c is = ap (λ (t : Bool). t || eqb c 9) (other_byte is_ascii_alphabetic 32 c refl is) ∙ other_byte is_ascii_alphabetic 9 c refl is

key_at : (key rest : List ℕ) → is_key key ≡ true → line_at (skip_blanks (key ++ rest)) ≡ entry_of (key ++ rest)
key_at [] rest is = absurd cc
key_at (c ∷ cs) rest is =
    let first = (and_parts (is_ascii_alphabetic c) (list_all is_name_byte cs) is).0 in
    ap line_at (no_blank c (cs ++ rest) (letter_no_blank c first)) ∙ letter_at c (cs ++ rest) first

entry_said : (text key : List ℕ) (value : Option (List ℕ)) → SaysEntry text key value → line_of text ≡ Some (Entry key value)
entry_said text key value e =
    let rest = e.blanks ++ e.back in
    let d = divided key rest (key_bytes key e.keyed) (stops_blanks e.blanks e.back value e.blanks_are_blank e.value_is) in
    read_back text (Entry key value) e.no_nul
    (ap line_at (ap skip_blanks e.text_is ∙ skip-blanks e.front (key ++ rest) e.front_is_blank)
    ∙ key_at key rest e.keyed
    ∙ ap (λ n. cond (is_key n) (entry_behind n (skip_blanks (drop (prefix_len is_name_byte (key ++ rest)) (key ++ rest)))) None) d.front
    ∙ ap (λ r. cond (is_key key) (entry_behind key (skip_blanks r)) None) d.back
    ∙ ap (λ t. cond t (entry_behind key (skip_blanks rest)) None) e.keyed
    ∙ ap (entry_behind key) (skip-blanks e.blanks e.back e.blanks_are_blank ∙ begun e.back value e.value_is)
    ∙ reads_assigned key e.back value e.value_is)

pub entry_line_is : (text key : List ℕ) (value : Option (List ℕ)) → (line_of text ≡ Some (Entry key value)) ↔ SaysEntry text key value
entry_line_is text key value = (says_entry text key value, entry_said text key value)
