-- What is read can be kept.
use Rattle.std.proofs.Common.{◌≡◌, ℕ, ◌+◌, ◌-◌, Bool, true, false, cond, not, ◌&&◌, ◌||◌, eqb, ltb, subst, List, [], ◌∷◌, length, take, drop, Option, Some, None, refl, sym, ap}
use Rattle.std.specs.Prelude.{IfSome, slice_index, position}
use Rattle.std.specs.List.{list_all, prefix_len, suffix_len, take_while, filter_map, cons_option, slice_split, onto_first}
use Rattle.std.specs.Option.{option_map, option_map_or}
use Rattle.std.specs.Str.Lines.{lines, lines_of_parts, strip_carriage_return}
use Rattle.std.proofs.lemmas.Bool.{and_parts, and_from}
use Rattle.fetch_base.specs.Scan.{◌>>=◌, split_first, split_last}
use Rattle.fetch_config.specs.Overrides.{path_and_value, api_meta, override_section, section_at, override_of, unkept_place}
use Rattle.fetch_config.specs.declared.line.Line.{Line}
use Rattle.fetch_config.specs.declared.line.Line.TheVariants.{Nothing, Header, Entry}
use Rattle.fetch_config.specs.declared.meta.Meta.{Meta}
use Rattle.fetch_config.specs.declared.section.Section.{Section}
use Rattle.fetch_config.specs.Pieces.{is_blank, is_comment_sign, is_name_byte, skip_blanks, trim_end, is_nothing, is_name, is_key, behind, IsWithout}
use Rattle.fetch_config.specs.Values.{escape_of, with_byte, with_front, unquoted, before_comment, value_of, subsection_of}
use Rattle.fetch_config.specs.Lines.{EntryList, header_before, header_with_sub, header_behind, header_of, entry_behind, entry_of, line_at, has_nul, line_of, gather, sections_of}
use Rattle.fetch_config.specs.Kept.{is_nul, is_nul_or_feed, is_kept_value, is_kept_sub, is_kept_entry, is_kept, AreKept}
use Rattle.fetch_config.proofs.Keeping.{all-take, all-drop, all-from_position}

-- no NUL
abbrev IsValue : List ℕ → Type 0
IsValue text = list_all (λ c. not (is_nul c)) text ≡ true

-- no NUL and no line feed
abbrev IsText : List ℕ → Type 0
IsText text = list_all (λ c. not (is_nul_or_feed c)) text ≡ true

pick : {A : Type 0} (P : A → Type 0) (t : Bool) (x y : A) → P x → P y → P (cond t x y)
pick P true x y p q = p
pick P false x y p q = q

bound : {A B : Type 0} (P : A → Type 0) (Q : B → Type 0) (o : Option A) (f : A → Option B) → IfSome o P → ((x : A) → P x → IfSome (f x) Q) → IfSome (o >>= f) Q
bound P Q None f p h = tt
bound P Q (Some x) f p h = h x p

value_byte : (b : ℕ) (o : Option (List ℕ)) → not (is_nul b) ≡ true → IfSome o IsValue → IfSome (with_byte b o) IsValue
value_byte b None here rest = tt
value_byte b (Some text) here rest = and_from (not (is_nul b)) (list_all (λ c. not (is_nul c)) text) here rest

escaped_byte : (c : ℕ) (o : Option (List ℕ)) → IfSome o IsValue → IfSome (escape_of c >>= λ b. with_byte b o) IsValue
escaped_byte c o rest =
    let P : Option ℕ → Type 0 = λ e. IfSome (e >>= λ b. with_byte b o) IsValue in
    pick P (eqb c 34) (Some 34) _ (value_byte 34 o refl rest)
    (pick P (eqb c 92) (Some 92) _ (value_byte 92 o refl rest)
    (pick P (eqb c 110) (Some 10) _ (value_byte 10 o refl rest)
    (pick P (eqb c 116) (Some 9) _ (value_byte 9 o refl rest)
    (pick P (eqb c 98) (Some 8) None (value_byte 8 o refl rest) tt))))

value-unquoted : (q e : Bool) (text : List ℕ) → IsValue text → IfSome (unquoted q e text) IsValue
unfolding unquoted
value-unquoted q e [] h = pick (λ (o : Option (List ℕ)). IfSome o IsValue) (q || e) None (Some []) tt refl
value-unquoted q true (c ∷ cs) h = escaped_byte c (unquoted q false cs) (value-unquoted q false cs (and_parts (not (is_nul c)) (list_all (λ c. not (is_nul c)) cs) h).1)
value-unquoted q false (c ∷ cs) h =
    let b = and_parts (not (is_nul c)) (list_all (λ c. not (is_nul c)) cs) h in
    let P : Option (List ℕ) → Type 0 = λ o. IfSome o IsValue in
    pick P (eqb c 34) (unquoted (not q) false cs) _ (value-unquoted (not q) false cs b.1)
    (pick P (eqb c 92) (unquoted q true cs) (with_byte c (unquoted q false cs)) (value-unquoted q true cs b.1) (value_byte c (unquoted q false cs) b.0 (value-unquoted q false cs b.1)))

value-before : (q e : Bool) (text : List ℕ) → IsValue text → IsValue (before_comment q e text)
unfolding before_comment
value-before q true [] h = refl
value-before q false [] h = refl
value-before q true (c ∷ cs) h =
    let b = and_parts (not (is_nul c)) (list_all (λ c. not (is_nul c)) cs) h in and_from (not (is_nul c)) (list_all (λ c. not (is_nul c)) (before_comment q false cs)) b.0 (value-before q false cs b.1)
value-before q false (c ∷ cs) h =
    let b = and_parts (not (is_nul c)) (list_all (λ c. not (is_nul c)) cs) h in
    let more : (r s : Bool) → IsValue (c ∷ before_comment r s cs) = λ r s. and_from (not (is_nul c)) (list_all (λ c. not (is_nul c)) (before_comment r s cs)) b.0 (value-before r s cs b.1) in
    pick IsValue (eqb c 34) (c ∷ before_comment (not q) false cs) _ (more (not q) false)
    (pick IsValue (eqb c 92) (c ∷ before_comment q true cs) _ (more q true)
    (pick IsValue (is_comment_sign c && not q) [] (c ∷ before_comment q false cs) refl (more q false)))

value-value_of : (text : List ℕ) → IsValue text → IfSome (value_of text) IsValue
unfolding value_of
value-value_of text h =
    let front = before_comment false false text in
    let inner = skip_blanks front in
    value-unquoted false false (trim_end inner)
    (all-take (λ c. not (is_nul c)) (length inner - suffix_len is_blank inner) inner (all-drop (λ c. not (is_nul c)) (prefix_len is_blank front) front (value-before false false text h)))

text_front : (c : ℕ) (o : Option (List ℕ × List ℕ)) → not (is_nul_or_feed c) ≡ true → IfSome o (λ p. IsText p.0 × IsText p.1) → IfSome (with_front c o) (λ p. IsText p.0 × IsText p.1)
text_front c None here rest = tt
text_front c (Some p) here rest = (and_from (not (is_nul_or_feed c)) (list_all (λ c. not (is_nul_or_feed c)) p.0) here rest.0, rest.1)

text-subsection : (e : Bool) (text : List ℕ) → IsText text → IfSome (subsection_of e text) (λ p. IsText p.0 × IsText p.1)
unfolding subsection_of
text-subsection true [] h = tt
text-subsection false [] h = tt
text-subsection true (c ∷ cs) h =
    let b = and_parts (not (is_nul_or_feed c)) (list_all (λ c. not (is_nul_or_feed c)) cs) h in text_front c (subsection_of false cs) b.0 (text-subsection false cs b.1)
text-subsection false (c ∷ cs) h =
    let b = and_parts (not (is_nul_or_feed c)) (list_all (λ c. not (is_nul_or_feed c)) cs) h in
    let P : Option (List ℕ × List ℕ) → Type 0 = λ o. IfSome o (λ p. IsText p.0 × IsText p.1) in
    pick P (eqb c 34) (Some ([], cs)) _ (refl, b.1)
    (pick P (eqb c 92) (subsection_of true cs) (with_front c (subsection_of false cs)) (text-subsection true cs b.1) (text_front c (subsection_of false cs) b.0 (text-subsection false cs b.1)))

pub is_kept_line : Line → Bool
is_kept_line Nothing = true
is_kept_line (Header name sub) = is_kept_sub sub
is_kept_line (Entry key value) = is_kept_value value

abbrev IsKeptLine : Line → Type 0
IsKeptLine l = is_kept_line l ≡ true

text-behind : (c : ℕ) (text : List ℕ) → IsText text → IfSome (behind c text) IsText
text-behind c [] h = tt
text-behind c (x ∷ xs) h = pick (λ (o : Option (List ℕ)). IfSome o IsText) (eqb x c) (Some xs) None (and_parts (not (is_nul_or_feed x)) (list_all (λ c. not (is_nul_or_feed c)) xs) h).1 tt

text-skip : (text : List ℕ) → IsText text → IsText (skip_blanks text)
text-skip text h = all-drop (λ c. not (is_nul_or_feed c)) (prefix_len is_blank text) text h

kept-header : (name : List ℕ) (sub : Option (List ℕ)) (tail : List ℕ) → is_kept_sub sub ≡ true → IfSome (header_before name sub tail) IsKeptLine
unfolding is_kept_line
kept-header name sub tail h = pick (λ (o : Option Line). IfSome o IsKeptLine) (is_nothing tail) (Some (Header name sub)) None h tt

kept-with_sub : (name text : List ℕ) → IsText text → IfSome (header_with_sub name text) IsKeptLine
kept-with_sub name text h =
    bound IsText IsKeptLine (behind 34 (skip_blanks text)) _ (text-behind 34 (skip_blanks text) (text-skip text h)) (λ quoted q.
    bound (λ (p : List ℕ × List ℕ). IsText p.0 × IsText p.1) IsKeptLine (subsection_of false quoted) _ (text-subsection false quoted q) (λ sub s.
    bound IsText IsKeptLine (behind 93 sub.1) _ (text-behind 93 sub.1 s.1) (λ tail t. kept-header name (Some sub.0) tail s.0)))

kept-header_of : (text : List ℕ) → IsText text → IfSome (header_of text) IsKeptLine
kept-header_of text h =
    let name = take_while is_name_byte text in
    pick (λ (o : Option Line). IfSome o IsKeptLine) (is_name name) (header_behind name (drop (prefix_len is_name_byte text) text)) None
    (from_name name (drop (prefix_len is_name_byte text) text) (all-drop (λ c. not (is_nul_or_feed c)) (prefix_len is_name_byte text) text h)) tt
  where
    from_name : (name text : List ℕ) → IsText text → IfSome (header_behind name text) IsKeptLine
    from_name name [] h = tt
    from_name name (c ∷ cs) h =
        let b = and_parts (not (is_nul_or_feed c)) (list_all (λ c. not (is_nul_or_feed c)) cs) h in
        pick (λ (o : Option Line). IfSome o IsKeptLine) (eqb c 93) (header_before name None cs) _ (kept-header name None cs refl)
        (pick (λ (o : Option Line). IfSome o IsKeptLine) (is_blank c) (header_with_sub name cs) None (kept-with_sub name cs b.1) tt)

one_weaker : (c : ℕ) → not (is_nul_or_feed c) ≡ true → not (is_nul c) ≡ true
one_weaker c h = by_tests (eqb c 0) (eqb c 10) h where
  by_tests : (a b : Bool) → not (a || b) ≡ true → not a ≡ true
  by_tests true b h = h
  by_tests false b h = refl

weaker : (text : List ℕ) → IsText text → IsValue text
weaker [] h = refl
weaker (c ∷ cs) h =
    let b = and_parts (not (is_nul_or_feed c)) (list_all (λ c. not (is_nul_or_feed c)) cs) h in and_from (not (is_nul c)) (list_all (λ c. not (is_nul c)) cs) (one_weaker c b.0) (weaker cs b.1)

entry_with : (key : List ℕ) (o : Option (List ℕ)) → IfSome o IsValue → IfSome (option_map (λ value. Entry key (Some value)) o) IsKeptLine
unfolding is_kept_line
entry_with key None h = tt
entry_with key (Some value) h = h

kept-entry_behind : (key text : List ℕ) → IsText text → IfSome (entry_behind key text) IsKeptLine
unfolding is_kept_line
kept-entry_behind key [] h = refl
kept-entry_behind key (c ∷ cs) h =
    let b = and_parts (not (is_nul_or_feed c)) (list_all (λ c. not (is_nul_or_feed c)) cs) h in
    pick (λ (o : Option Line). IfSome o IsKeptLine) (eqb c 61) (option_map (λ value. Entry key (Some value)) (value_of cs)) None (entry_with key (value_of cs) (value-value_of cs (weaker cs b.1))) tt

kept-entry_of : (text : List ℕ) → IsText text → IfSome (entry_of text) IsKeptLine
kept-entry_of text h =
    let key = take_while is_name_byte text in
    let rest = drop (prefix_len is_name_byte text) text in
    pick (λ (o : Option Line). IfSome o IsKeptLine) (is_key key) (entry_behind key (skip_blanks rest)) None
    (kept-entry_behind key (skip_blanks rest) (text-skip rest (all-drop (λ c. not (is_nul_or_feed c)) (prefix_len is_name_byte text) text h))) tt

kept-line_at : (text : List ℕ) → IsText text → IfSome (line_at text) IsKeptLine
unfolding is_kept_line
kept-line_at [] h = refl
kept-line_at (c ∷ cs) h =
    let b = and_parts (not (is_nul_or_feed c)) (list_all (λ c. not (is_nul_or_feed c)) cs) h in
    pick (λ (o : Option Line). IfSome o IsKeptLine) (is_comment_sign c) (Some Nothing) _ refl
    (pick (λ (o : Option Line). IfSome o IsKeptLine) (eqb c 91) (header_of cs) (entry_of (c ∷ cs)) (kept-header_of cs b.1) (kept-entry_of (c ∷ cs) h))

one_both : (a b : Bool) → a ≡ false → not b ≡ true → not (a || b) ≡ true
one_both true b h k = absurd cc
one_both false b h k = k

or_none : (a b : Bool) → (a || b) ≡ false → (a ≡ false) × (b ≡ false)
or_none true b h = absurd cc
or_none false b h = (refl, h)

both_none : (text : List ℕ) → has_nul text ≡ false → IsWithout 10 text → IsText text
both_none [] h k = refl
both_none (c ∷ cs) h k =
    let a = or_none (eqb c 0) (has_nul cs) h in
    let b = and_parts (not (eqb c 10)) (list_all (λ c. not (eqb c 10)) cs) k in
    and_from (not (is_nul_or_feed c)) (list_all (λ c. not (is_nul_or_feed c)) cs) (one_both (eqb c 0) (eqb c 10) a.0 b.0) (both_none cs a.1 b.1)

kept-line_of : (text : List ℕ) → IsWithout 10 text → IfSome (line_of text) IsKeptLine
unfolding line_of
kept-line_of text h = by_test (has_nul text) refl where
  by_test : (t : Bool) → has_nul text ≡ t → IfSome (cond t None (line_at (skip_blanks text))) IsKeptLine
  by_test true is = tt
  by_test false is = kept-line_at (skip_blanks text) (text-skip text (both_none text is h))

abbrev no_feed : List ℕ → Bool
no_feed l = list_all (λ b. not (eqb b 10)) l

onto_without : (c : ℕ) (parts : List (List ℕ)) → eqb c 10 ≡ false → list_all no_feed parts ≡ true → list_all no_feed (onto_first c parts) ≡ true
onto_without c [] is h = and_from (no_feed (c ∷ [])) true (and_from (not (eqb c 10)) true (ap not is) refl) refl
onto_without c (part ∷ parts) is h =
    let b = and_parts (no_feed part) (list_all no_feed parts) h in and_from (no_feed (c ∷ part)) (list_all no_feed parts) (and_from (not (eqb c 10)) (no_feed part) (ap not is) b.0) b.1

split_by : (c : ℕ) (parts : List (List ℕ)) (t : Bool) → eqb c 10 ≡ t → list_all no_feed parts ≡ true → list_all no_feed (cond t ([] ∷ parts) (onto_first c parts)) ≡ true
split_by c parts true is h = h
split_by c parts false is h = onto_without c parts is h

split_without : (text : List ℕ) → list_all no_feed (slice_split (λ b. eqb b 10) text) ≡ true
split_without [] = refl
split_without (c ∷ cs) = split_by c (slice_split (λ b. eqb b 10) cs) (eqb c 10) refl (split_without cs)

parts_without : (parts : List (List ℕ)) → list_all no_feed parts ≡ true → list_all no_feed (lines_of_parts parts) ≡ true
parts_without [] h = refl
parts_without (x ∷ []) h = pick (λ (ls : List (List ℕ)). list_all no_feed ls ≡ true) (eqb (length x) 0) [] (x ∷ []) refl h
parts_without (x ∷ y ∷ more) h =
    let b = and_parts (no_feed x) (list_all no_feed (y ∷ more)) h in
    and_from (no_feed (strip_carriage_return x)) (list_all no_feed (lines_of_parts (y ∷ more)))
    (pick (λ (l : List ℕ). no_feed l ≡ true) (eqb (slice_index x (length x - 1)) 13) (take (length x - 1) x) x (all-take (λ b. not (eqb b 10)) (length x - 1) x b.0) b.0)
    (parts_without (y ∷ more) b.1)

kept_option : (o : Option Line) (ls : List Line) → IfSome o IsKeptLine → list_all is_kept_line ls ≡ true → list_all is_kept_line (cons_option o ls) ≡ true
kept_option None ls here rest = rest
kept_option (Some l) ls here rest = and_from (is_kept_line l) (list_all is_kept_line ls) here rest

kept_lines : (ls : List (List ℕ)) → list_all no_feed ls ≡ true → list_all is_kept_line (filter_map line_of ls) ≡ true
kept_lines [] h = refl
kept_lines (l ∷ ls) h = let b = and_parts (no_feed l) (list_all no_feed ls) h in kept_option (line_of l) (filter_map line_of ls) (kept-line_of l b.0) (kept_lines ls b.1)

record IsGathered (g : EntryList × List Section) : Type 0 where
  before : list_all is_kept_entry g.0 ≡ true
  sections : AreKept g.1

gathered : (meta : Meta) (ls : List Line) → list_all is_kept_line ls ≡ true → IsGathered (gather meta ls)
unfolding is_kept_line is_kept
gathered meta [] h = record { before = refl; sections = refl }
gathered meta (Nothing ∷ ls) h = gathered meta ls h
gathered meta (Entry key value ∷ ls) h =
    let b = and_parts (is_kept_value value) (list_all is_kept_line ls) h in
    let g = gathered meta ls b.1 in
    record { before = and_from (is_kept_value value) (list_all is_kept_entry (gather meta ls).0) b.0 g.before; sections = g.sections }
gathered meta (Header name sub ∷ ls) h =
    let b = and_parts (is_kept_sub sub) (list_all is_kept_line ls) h in
    let g = gathered meta ls b.1 in
    record {
      before = refl;
      sections = and_from (is_kept_sub sub && list_all is_kept_entry (gather meta ls).0) (list_all is_kept (gather meta ls).1) (and_from (is_kept_sub sub) (list_all is_kept_entry (gather meta ls).0) b.0 g.before) g.sections;
    }

pub kept-sections_of : (meta : Meta) (text : List ℕ) → AreKept (sections_of meta text)
unfolding sections_of
kept-sections_of meta text = (gathered meta (filter_map line_of (lines text)) (kept_lines (lines text) (parts_without (slice_split (λ b. eqb b 10) text) (split_without text)))).sections

-- what an override adds

text_pieces : (c : ℕ) (text : List ℕ) → IsText text → IfSome (split_first c text) (λ p. IsText p.0 × IsText p.1)
text_pieces c text h = at (position (λ b. eqb b c) text) where
  at : (o : Option ℕ) → IfSome {T = List ℕ × List ℕ} (option_map (λ i. (take i text, drop (i + 1) text)) o) (λ p. IsText p.0 × IsText p.1)
  at None = tt
  at (Some i) = (all-take (λ c. not (is_nul_or_feed c)) i text h, all-drop (λ c. not (is_nul_or_feed c)) (i + 1) text h)

last_pieces : (c : ℕ) (text : List ℕ) → IsText text → IfSome (split_last c text) (λ p. IsText p.0 × IsText p.1)
last_pieces c text h =
    let n = suffix_len (λ b. not (eqb b c)) text in
    pick (λ (o : Option (List ℕ × List ℕ)). IfSome o (λ p. IsText p.0 × IsText p.1)) (ltb n (length text)) (Some (take (length text - n - 1) text, drop (length text - n) text)) None
    (all-take (λ c. not (is_nul_or_feed c)) (length text - n - 1) text h, all-drop (λ c. not (is_nul_or_feed c)) (length text - n) text h) tt

abbrev IsKeptSection : Section → Type 0
IsKeptSection s = is_kept s ≡ true

kept-override_section : (name : List ℕ) (sub : Option (List ℕ)) (key : List ℕ) (value : Option (List ℕ)) → is_kept_sub sub ≡ true → is_kept_value value ≡ true → IfSome (override_section name sub key value) IsKeptSection
unfolding is_kept
kept-override_section name sub key value h k =
    pick (λ (o : Option Section). IfSome o IsKeptSection) (is_name name && is_key key) (Some (record { name = name; sub = sub; meta = api_meta; entries = (key, value) ∷ [] })) None
    (and_from (is_kept_sub sub) (is_kept_value value && true) h (and_from (is_kept_value value) true k refl)) tt

by_last : (name behind : List ℕ) (value : Option (List ℕ)) (o : Option (List ℕ × List ℕ)) → IfSome o (λ p. IsText p.0 × IsText p.1) → is_kept_value value ≡ true
    → IfSome (option_map_or (λ last. override_section name (Some last.0) last.1 value) o (override_section name None behind value)) IsKeptSection
by_last name behind value None h k = kept-override_section name None behind value refl k
by_last name behind value (Some last) h k = kept-override_section name (Some last.0) last.1 value h.0 k

kept-section_at : (path : List ℕ) (value : Option (List ℕ)) → IsText path → is_kept_value value ≡ true → IfSome (section_at path value) IsKeptSection
kept-section_at path value h k =
    bound (λ (p : List ℕ × List ℕ). IsText p.0 × IsText p.1) IsKeptSection (split_first 46 path) _ (text_pieces 46 path h) (λ first f. by_last first.0 first.1 value (split_last 46 first.1) (last_pieces 46 first.1 f.1) k)

value_piece : (text : List ℕ) → IsValue text → is_kept_value (path_and_value text).1 ≡ true
value_piece text h = at (position (λ b. eqb b 61) text) where
  at : (o : Option ℕ) → is_kept_value (option_map_or {U = List ℕ × Option (List ℕ)} (λ (p : List ℕ × List ℕ). (p.0, Some p.1)) (option_map (λ i. (take i text, drop (i + 1) text)) o) (text, None)).1 ≡ true
  at None = refl
  at (Some i) = all-drop (λ c. not (is_nul c)) (i + 1) text h

no_places : (a b : Option ℕ) → option_map_or (λ place. Some place) a b ≡ None → (a ≡ None) × (b ≡ None)
no_places None b h = (refl, h)
no_places (Some n) b h = absurd cc

pub kept-override_of : (text : List ℕ) (s : Section) → None ≡ unkept_place text → override_of text ≡ Some s → is_kept s ≡ true
unfolding unkept_place override_of
kept-override_of text s none is =
    let parts = path_and_value text in
    let places = no_places (position is_nul_or_feed parts.0) (position is_nul text) (sym none) in
    subst (λ (o : Option Section). IfSome o IsKeptSection) is
    (kept-section_at parts.0 parts.1 (all-from_position is_nul_or_feed parts.0 places.0) (value_piece text (all-from_position is_nul text places.1)))
