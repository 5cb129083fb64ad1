-- What is written of sections is read back.
use Rattle.std.proofs.Common.{◌≡◌, ℕ, ◌+◌, Bool, true, false, cond, not, ◌||◌, eqb, List, [], ◌∷◌, ◌++◌, map, Option, Some, None, refl, sym, ap, ◌∙◌, append_assoc, append-nil, subst}
use Rattle.std.specs.List.{list_all, flat_map, filter_map, cons_option, slice_split, onto_first}
use Rattle.std.specs.Option.{option_map}
use Rattle.std.specs.Str.Lines.{lines, lines_of_parts}
use Rattle.std.proofs.lemmas.Bool.{and_parts}
use Rattle.fetch_config.specs.declared.line.Line.{Line}
use Rattle.fetch_config.specs.declared.line.Line.TheVariants.{Header, Entry}
use Rattle.fetch_config.specs.declared.meta.Meta.{Meta}
use Rattle.fetch_config.specs.declared.meta.Origin.{Origin}
use Rattle.fetch_config.specs.declared.section.Section.{Section}
use Rattle.fetch_config.specs.Pieces.{IsWithout, is_name, is_key}
use Rattle.fetch_config.specs.Lines.{EntryList, line_of, gather, sections_of, fits_behind, opens, first_broken, each_line, broken_line}
use Rattle.fetch_config.specs.Kept.{is_kept_value, is_kept_sub, is_kept_entry, is_kept, AreKept}
use Rattle.fetch_config.specs.Print.{equals_text, entry_text, sub_text, header_text, section_text, text_of, of_origin}
use Rattle.fetch_config.specs.Written.{is_named, AreNamed, read_from, Says}
use Rattle.fetch_config.proofs.FirstLine.{parts_some, lines_of_more}
use Rattle.fetch_config.proofs.WrittenValues.{EndsWell, unstripped}
use Rattle.fetch_config.proofs.WrittenLines.{IsPlain, no_feed, header_line, header-plain, header-ends, header_back, entry_line, entry-plain, entry-ends, entry_back}

-- one line of a text

abbrev is_feed : ℕ → Bool
is_feed b = eqb b 10

untrue : (b : Bool) → not b ≡ true → b ≡ false
untrue true h = absurd cc
untrue false h = refl

split_off : (line rest : List ℕ) → IsWithout 10 line → slice_split is_feed (line ++ 10 ∷ rest) ≡ line ∷ slice_split is_feed rest
split_off [] rest h = refl
split_off (c ∷ cs) rest h =
    let b = and_parts (not (eqb c 10)) (list_all (λ b. not (eqb b 10)) cs) h in
    ap (λ t. cond t ([] ∷ slice_split is_feed (cs ++ 10 ∷ rest)) (onto_first c (slice_split is_feed (cs ++ 10 ∷ rest)))) (untrue (eqb c 10) b.0)
    ∙ ap (onto_first c) (split_off cs rest b.1)

line_off : (line rest : List ℕ) → IsPlain line → EndsWell line → lines (line ++ 10 ∷ rest) ≡ line ∷ lines rest
line_off line rest h w =
    let some = parts_some rest in
    ap lines_of_parts (split_off line rest (no_feed line h))
    ∙ lines_of_more line some.0 some.1 (slice_split is_feed rest) some.2
    ∙ ap (λ l. l ∷ lines rest) (unstripped line w)

-- The text begins with a line that says this, and the rest follows.
record BeginsWith (l : Line) (text rest : List ℕ) : Type 0 where
  line : List ℕ
  is : lines text ≡ line ∷ lines rest
  says : line_of line ≡ Some l

header_first : (s : Section) (rest : List ℕ) → is_name s.name ≡ true → is_kept_sub s.sub ≡ true → BeginsWith (Header s.name s.sub) (header_text s ++ rest) rest
header_first s rest h k = record {
  line = header_line s.name s.sub;
  is = ap lines regroup ∙ line_off (header_line s.name s.sub) rest (header-plain s.name s.sub h k) (header-ends s.name s.sub);
  says = header_back s.name s.sub h k;
} where
  regroup : header_text s ++ rest ≡ header_line s.name s.sub ++ 10 ∷ rest
  regroup = ap (λ t. 91 ∷ t) (
      append_assoc (s.name ++ sub_text s.sub) (93 ∷ 10 ∷ []) rest
      ∙ append_assoc s.name (sub_text s.sub) (93 ∷ 10 ∷ rest)
      ∙ ap (λ t. s.name ++ t) (sym (append_assoc (sub_text s.sub) (93 ∷ []) (10 ∷ rest)))
      ∙ sym (append_assoc s.name (sub_text s.sub ++ 93 ∷ []) (10 ∷ rest)))

entry_first : (entry : List ℕ × Option (List ℕ)) (rest : List ℕ) → is_key entry.0 ≡ true → is_kept_value entry.1 ≡ true → BeginsWith (Entry entry.0 entry.1) (entry_text entry ++ rest) rest
entry_first entry rest h k = record {
  line = entry_line entry;
  is = ap lines regroup ∙ line_off (entry_line entry) rest (entry-plain entry.0 entry.1 h k) (entry-ends entry.0 entry.1 h);
  says = entry_back entry.0 entry.1 h k;
} where
  regroup : entry_text entry ++ rest ≡ entry_line entry ++ 10 ∷ rest
  regroup = ap (λ t. 9 ∷ t) (append_assoc (entry.0 ++ equals_text entry.1) (10 ∷ []) rest)

-- what one line more adds

abbrev gathered : Meta → List ℕ → EntryList × List Section
gathered meta text = gather meta (filter_map line_of (lines text))

gather_first : (meta : Meta) (l : Line) (text rest : List ℕ) → BeginsWith l text rest → gathered meta text ≡ gather meta (l ∷ filter_map line_of (lines rest))
gather_first meta l text rest b = ap (λ ls. gather meta (filter_map line_of ls)) b.is ∙ ap (λ o. gather meta (cons_option o (filter_map line_of (lines rest)))) b.says

abbrev broken : Bool → List ℕ → Option ℕ
broken opened text = first_broken opened (each_line (lines text))

broken_first : (opened : Bool) (l : Line) (text rest : List ℕ) → BeginsWith l text rest → fits_behind opened (Some l) ≡ true → broken (opened || opens (Some l)) rest ≡ None → broken opened text ≡ None
broken_first opened l text rest b fits none =
    ap (λ ls. first_broken opened (each_line ls)) b.is
    ∙ ap (λ o. first_broken opened (o ∷ each_line (lines rest))) b.says
    ∙ ap (λ t. cond t (option_map (λ n. n + 1) (broken (opened || opens (Some l)) rest)) (Some 1)) fits
    ∙ ap (λ o. option_map (λ n. n + 1) o) none

-- the entries of a section

are_keys : EntryList → Bool
are_keys entries = list_all (λ entry. is_key entry.0) entries

entries_first : (entry : List ℕ × Option (List ℕ)) (es : EntryList) (rest : List ℕ) → is_key entry.0 ≡ true → is_kept_value entry.1 ≡ true
    → BeginsWith (Entry entry.0 entry.1) (flat_map entry_text (entry ∷ es) ++ rest) (flat_map entry_text es ++ rest)
entries_first entry es rest h k =
    let b = entry_first entry (flat_map entry_text es ++ rest) h k in
    record { line = b.line; is = ap lines (append_assoc (entry_text entry) (flat_map entry_text es) rest) ∙ b.is; says = b.says }

gather_entries : (meta : Meta) (es : EntryList) (rest : List ℕ) → are_keys es ≡ true → list_all is_kept_entry es ≡ true
    → gathered meta (flat_map entry_text es ++ rest) ≡ (es ++ (gathered meta rest).0, (gathered meta rest).1)
unfolding are_keys
gather_entries meta [] rest h k = refl
gather_entries meta (e ∷ es) rest h k =
    let a = and_parts (is_key e.0) (are_keys es) h in
    let b = and_parts (is_kept_entry e) (list_all is_kept_entry es) k in
    gather_first meta (Entry e.0 e.1) (flat_map entry_text (e ∷ es) ++ rest) (flat_map entry_text es ++ rest) (entries_first e es rest a.0 b.0)
    ∙ ap (λ (g : EntryList × List Section). (e ∷ g.0, g.1)) (gather_entries meta es rest a.1 b.1)

broken_entries : (es : EntryList) (rest : List ℕ) → are_keys es ≡ true → list_all is_kept_entry es ≡ true → broken true rest ≡ None → broken true (flat_map entry_text es ++ rest) ≡ None
unfolding are_keys
broken_entries [] rest h k none = none
broken_entries (e ∷ es) rest h k none =
    let a = and_parts (is_key e.0) (are_keys es) h in
    let b = and_parts (is_kept_entry e) (list_all is_kept_entry es) k in
    broken_first true (Entry e.0 e.1) (flat_map entry_text (e ∷ es) ++ rest) (flat_map entry_text es ++ rest) (entries_first e es rest a.0 b.0) refl (broken_entries es rest a.1 b.1 none)

-- a section

record IsWritten (s : Section) : Type 0 where
  name : is_name s.name ≡ true
  keys : are_keys s.entries ≡ true
  sub : is_kept_sub s.sub ≡ true
  values : list_all is_kept_entry s.entries ≡ true

written : (s : Section) → is_named s ≡ true → is_kept s ≡ true → IsWritten s
unfolding is_named is_kept are_keys
written s h k =
    let a = and_parts (is_name s.name) (list_all (λ entry. is_key entry.0) s.entries) h in
    let b = and_parts (is_kept_sub s.sub) (list_all is_kept_entry s.entries) k in
    record { name = a.0; keys = a.1; sub = b.0; values = b.1 }

section_first : (s : Section) (rest : List ℕ) → IsWritten s → BeginsWith (Header s.name s.sub) (section_text s ++ rest) (flat_map entry_text s.entries ++ rest)
section_first s rest w =
    let b = header_first s (flat_map entry_text s.entries ++ rest) w.name w.sub in
    record { line = b.line; is = ap lines (append_assoc (header_text s) (flat_map entry_text s.entries) rest) ∙ b.is; says = b.says }

one_section : Meta → Section → EntryList × List Section → EntryList × List Section
one_section meta s g = ([], record { name = s.name; sub = s.sub; meta = meta; entries = g.0 } ∷ g.1)

gather_section : (meta : Meta) (s : Section) (rest : List ℕ) (more : List Section) → IsWritten s → gathered meta rest ≡ ([], more) → gathered meta (section_text s ++ rest) ≡ ([], read_from meta s ∷ more)
unfolding one_section
gather_section meta s rest more w is =
    gather_first meta (Header s.name s.sub) (section_text s ++ rest) (flat_map entry_text s.entries ++ rest) (section_first s rest w)
    ∙ ap (one_section meta s) (gather_entries meta s.entries rest w.keys w.values)
    ∙ ap (λ (g : EntryList × List Section). one_section meta s (s.entries ++ g.0, g.1)) is
    ∙ ap (λ es. one_section meta s (es, more)) (append-nil s.entries)

sections_back : (meta : Meta) (ss : List Section) → AreNamed ss → AreKept ss → gathered meta (flat_map section_text ss) ≡ ([], map (read_from meta) ss)
sections_back meta [] h k = refl
sections_back meta (s ∷ ss) h k =
    let a = and_parts (is_named s) (list_all is_named ss) h in
    let b = and_parts (is_kept s) (list_all is_kept ss) k in
    gather_section meta s (flat_map section_text ss) (map (read_from meta) ss) (written s a.0 b.0) (sections_back meta ss a.1 b.1)

or_true : (b : Bool) → (b || true) ≡ true
or_true true = refl
or_true false = refl

none_broken : (opened : Bool) (ss : List Section) → AreNamed ss → AreKept ss → broken opened (flat_map section_text ss) ≡ None
none_broken opened [] h k = refl
none_broken opened (s ∷ ss) h k =
    let a = and_parts (is_named s) (list_all is_named ss) h in
    let b = and_parts (is_kept s) (list_all is_kept ss) k in
    let w = written s a.0 b.0 in
    let rest = flat_map section_text ss in
    broken_first opened (Header s.name s.sub) (section_text s ++ rest) (flat_map entry_text s.entries ++ rest) (section_first s rest w) refl
    (ap (λ t. broken t (flat_map entry_text s.entries ++ rest)) (or_true opened) ∙ broken_entries s.entries rest w.keys w.values (none_broken true ss a.1 b.1))

pub says_again : (ss : List Section) → AreNamed ss → AreKept ss → Says ss (text_of ss)
unfolding text_of sections_of broken_line
says_again ss h k = record { accepted = none_broken false ss h k; same = λ meta. ap (λ (g : EntryList × List Section). g.1) (sections_back meta ss h k) }

all_of : (ss : List Section) → of_origin None ss ≡ ss
all_of [] = refl
all_of (s ∷ ss) = ap (λ ts. s ∷ ts) (all_of ss)

pub says_all : (origin : Option Origin) (ss : List Section) (text : List ℕ) → AreKept ss → text ≡ text_of (of_origin origin ss) → origin ≡ None → AreNamed ss → Says ss text
says_all origin ss text k is none h = subst (Says ss) (sym (is ∙ ap (λ o. text_of (of_origin o ss)) none ∙ ap text_of (all_of ss))) (says_again ss h k)
