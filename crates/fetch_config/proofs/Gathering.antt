-- What the sections so far and the lines that are left say together.
use Rattle.std.proofs.Common.{◌≡◌, ℕ, ◌+◌, ◌≤◌, Bool, true, false, cond, ◌||◌, List, [], ◌∷◌, ◌++◌, length, Option, Some, None, refl, sym, ap, ◌∙◌, arith, append_assoc, append-nil}
use Rattle.std.specs.List.{filter_map, cons_option}
use Rattle.std.specs.Option.{option_map}
use Rattle.std.specs.Str.Lines.{lines}
use Rattle.std.proofs.lemmas.Bool.{false≢true}
use Rattle.fetch_config.specs.declared.line.Line.{Line}
use Rattle.fetch_config.specs.declared.line.Line.TheVariants.{Nothing, Header, Entry}
use Rattle.fetch_config.specs.declared.meta.Meta.{Meta}
use Rattle.fetch_config.specs.declared.section.Section.{Section}
use Rattle.fetch_config.specs.Lines.{EntryList, line_of, gather, sections_of, fits_behind, opens, first_broken, each_line, broken_line}
use Rattle.fetch_config.specs.Reading.{with_entries, empty_section, after_line, is_opened}

abbrev gathered : Meta → List ℕ → EntryList × List Section
gathered meta rest = gather meta (filter_map line_of (lines rest))

-- the sections so far, with what the rest adds
abbrev pub joined : Meta → List Section → List ℕ → List Section
joined meta ss rest = with_entries ss (gathered meta rest).0 ++ (gathered meta rest).1

-- the first broken line, after this many lines
abbrev pub told : ℕ → List Section → List ℕ → Option ℕ
told number ss rest = option_map (λ n. number + n) (first_broken (is_opened ss) (each_line (lines rest)))

with_entries-nil : (ss : List Section) → with_entries ss [] ≡ ss
with_entries-nil [] = refl
with_entries-nil (s ∷ []) = ap (λ es. record { name = s.name; sub = s.sub; meta = s.meta; entries = es } ∷ []) (append-nil s.entries)
with_entries-nil (s ∷ t ∷ ss) = ap (λ ts. s ∷ ts) (with_entries-nil (t ∷ ss))

with_entries-more : (ss : List Section) (xs ys : EntryList) → with_entries (with_entries ss xs) ys ≡ with_entries ss (xs ++ ys)
with_entries-more [] xs ys = refl
with_entries-more (s ∷ []) xs ys = ap (λ es. record { name = s.name; sub = s.sub; meta = s.meta; entries = es } ∷ []) (append_assoc s.entries xs ys)
with_entries-more (s ∷ t ∷ []) xs ys = ap (λ ts. s ∷ ts) (with_entries-more (t ∷ []) xs ys)
with_entries-more (s ∷ t ∷ u ∷ ss) xs ys = ap (λ ts. s ∷ ts) (with_entries-more (t ∷ u ∷ ss) xs ys)

with_entries-last : (ss : List Section) (s : Section) (xs : EntryList) → with_entries (ss ++ s ∷ []) xs ≡ ss ++ record { name = s.name; sub = s.sub; meta = s.meta; entries = s.entries ++ xs } ∷ []
with_entries-last [] s xs = refl
with_entries-last (t ∷ []) s xs = refl
with_entries-last (t ∷ u ∷ ss) s xs = ap (λ ts. t ∷ ts) (with_entries-last (u ∷ ss) s xs)

one_line : (meta : Meta) (ss : List Section) (l : Line) (more : EntryList × List Section) → fits_behind (is_opened ss) (Some l) ≡ true
    → (ls : List Line) → gather meta ls ≡ more → with_entries (after_line meta ss (Some l)) (gather meta ls).0 ++ (gather meta ls).1 ≡ with_entries ss (gather meta (l ∷ ls)).0 ++ (gather meta (l ∷ ls)).1
one_line meta ss Nothing more fits ls is = refl
one_line meta ss (Entry key value) more fits ls is = ap (λ ts. ts ++ (gather meta ls).1) (with_entries-more ss ((key, value) ∷ []) (gather meta ls).0)
one_line meta ss (Header name sub) more fits ls is =
    let s : Section = record { name = name; sub = sub; meta = meta; entries = (gather meta ls).0 } in
    ap (λ ts. ts ++ (gather meta ls).1) (with_entries-last ss (empty_section meta name sub) (gather meta ls).0)
    ∙ append_assoc ss (s ∷ []) (gather meta ls).1
    ∙ ap (λ ts. ts ++ (s ∷ (gather meta ls).1)) (sym (with_entries-nil ss))

-- a line that reads
with_line : (meta : Meta) (ss : List Section) (o : Option Line) (ls : List Line) → fits_behind (is_opened ss) o ≡ true
    → with_entries (after_line meta ss o) (gather meta ls).0 ++ (gather meta ls).1 ≡ with_entries ss (gather meta (cons_option o ls)).0 ++ (gather meta (cons_option o ls)).1
with_line meta ss None ls fits = absurd (false≢true fits)
with_line meta ss (Some l) ls fits = one_line meta ss l (gather meta ls) fits ls refl

pub joined-step : (meta : Meta) (ss new : List Section) (line rest behind : List ℕ) → lines rest ≡ line ∷ lines behind → fits_behind (is_opened ss) (line_of line) ≡ true
    → new ≡ after_line meta ss (line_of line) → joined meta new behind ≡ joined meta ss rest
joined-step meta ss new line rest behind first fits is =
    ap (λ ts. with_entries ts (gathered meta behind).0 ++ (gathered meta behind).1) is
    ∙ with_line meta ss (line_of line) (filter_map line_of (lines behind)) fits
    ∙ ap (λ ls. with_entries ss (gather meta (filter_map line_of ls)).0 ++ (gather meta (filter_map line_of ls)).1) (sym first)

opened_last : (ss : List Section) (s : Section) → is_opened (ss ++ s ∷ []) ≡ true
opened_last [] s = refl
opened_last (t ∷ ss) s = refl

opened_more : (ss : List Section) (es : EntryList) → is_opened (with_entries ss es) ≡ is_opened ss
opened_more [] es = refl
opened_more (s ∷ []) es = refl
opened_more (s ∷ t ∷ ss) es = refl

or-true : (b : Bool) → (b || true) ≡ true
or-true true = refl
or-true false = refl

or-false : (b : Bool) → (b || false) ≡ b
or-false true = refl
or-false false = refl

opened_after : (meta : Meta) (ss : List Section) (o : Option Line) → is_opened (after_line meta ss o) ≡ (is_opened ss || opens o)
opened_after meta ss None = sym (or-false (is_opened ss))
opened_after meta ss (Some Nothing) = sym (or-false (is_opened ss))
opened_after meta ss (Some (Entry key value)) = opened_more ss ((key, value) ∷ []) ∙ sym (or-false (is_opened ss))
opened_after meta ss (Some (Header name sub)) = opened_last ss (empty_section meta name sub) ∙ sym (or-true (is_opened ss))

counted : (number : ℕ) (o : Option ℕ) → option_map (λ n. number + 1 + n) o ≡ option_map (λ n. number + n) (option_map (λ n. n + 1) o)
counted number None = refl
counted number (Some n) = ap Some (omega arith)

pub told-step : (meta : Meta) (number : ℕ) (ss new : List Section) (line rest behind : List ℕ) → lines rest ≡ line ∷ lines behind → fits_behind (is_opened ss) (line_of line) ≡ true
    → new ≡ after_line meta ss (line_of line) → told (number + 1) new behind ≡ told number ss rest
told-step meta number ss new line rest behind first fits is =
    ap (λ ts. told (number + 1) ts behind) is
    ∙ ap (λ b. option_map (λ n. number + 1 + n) (first_broken b (each_line (lines behind)))) (opened_after meta ss (line_of line))
    ∙ counted number (first_broken (is_opened ss || opens (line_of line)) (each_line (lines behind)))
    ∙ ap (λ b. option_map (λ n. number + n) (cond b (option_map (λ n. n + 1) (first_broken (is_opened ss || opens (line_of line)) (each_line (lines behind)))) (Some 1))) (sym fits)
    ∙ ap (λ ls. option_map (λ n. number + n) (first_broken (is_opened ss) (each_line ls))) (sym first)

pub told-stop : (number : ℕ) (ss : List Section) (line rest behind : List ℕ) → lines rest ≡ line ∷ lines behind → fits_behind (is_opened ss) (line_of line) ≡ false → told number ss rest ≡ Some (number + 1)
told-stop number ss line rest behind first fits =
    ap (λ ls. option_map (λ n. number + n) (first_broken (is_opened ss) (each_line ls))) first
    ∙ ap (λ b. option_map (λ n. number + n) (cond b (option_map (λ n. n + 1) (first_broken (is_opened ss || opens (line_of line)) (each_line (lines behind)))) (Some 1))) fits

no_lines : (rest : List ℕ) → length rest ≤ 0 → rest ≡ []
no_lines [] h = refl
no_lines (c ∷ cs) h = absurd (omega arith)

pub joined-end : (meta : Meta) (ss : List Section) (rest : List ℕ) → length rest ≤ 0 → joined meta ss rest ≡ ss
joined-end meta ss rest over = ap (joined meta ss) (no_lines rest over) ∙ append-nil (with_entries ss []) ∙ with_entries-nil ss

pub told-end : (number : ℕ) (ss : List Section) (rest : List ℕ) → length rest ≤ 0 → told number ss rest ≡ None
told-end number ss rest over = ap (told number ss) (no_lines rest over)

same : (o : Option ℕ) → option_map (λ n. 0 + n) o ≡ o
same None = refl
same (Some n) = ap Some (omega arith)

pub joined-start : (meta : Meta) (text : List ℕ) → joined meta [] text ≡ sections_of meta text
unfolding sections_of
joined-start meta text = refl

pub told-start : (text : List ℕ) → told 0 [] text ≡ broken_line text
unfolding broken_line
told-start text = same (first_broken false (each_line (lines text)))
