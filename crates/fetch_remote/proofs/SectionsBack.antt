-- The sections that are left of a text are written and read again as they are.
use Rattle.std.proofs.Common.{◌≡◌, ℕ, Bool, true, false, not, List, [], ◌∷◌, map, Option, Some, None, refl, sym, ap, ◌∙◌}
use Rattle.std.specs.Prelude.{◌&&◌, ◌||◌, if◌then◌else◌, filter}
use Rattle.std.specs.List.{AllByRecursion, cons_option, filter_map, list_all, list_any}
use Rattle.std.specs.Str.Lines.{lines}
use Rattle.fetch_config.specs.Kept.{is_kept}
use Rattle.fetch_config.specs.Lines.{EntryList, gather, line_of, sections_of}
use Rattle.fetch_config.specs.Pieces.{is_key, is_name}
use Rattle.fetch_config.specs.Print.{text_of}
use Rattle.fetch_config.specs.Written.{AreNamed, is_named, read_from}
use Rattle.fetch_config.specs.declared.line.Line.{Line}
use Rattle.fetch_config.specs.declared.line.Line.TheVariants.{Nothing, Header, Entry}
use Rattle.fetch_config.specs.declared.meta.Meta.{Meta}
use Rattle.fetch_config.specs.declared.section.Section.{Section}
use Rattle.fetch_config.proofs.Headers.{header_line_is, entry_line_is}
use Rattle.fetch_config.proofs.KeptLines.{kept-sections_of}
use Rattle.fetch_config.proofs.WrittenTexts.{says_again}

-- names and keys obey the grammar, and each section is from there
record Gathered (meta : Meta) (g : EntryList × List Section) : Type 0 where
  keyed : list_all (λ (e : List ℕ × Option (List ℕ)). is_key e.0) g.0 ≡ true
  named : AreNamed g.1
  from : AllByRecursion (λ (s : Section). s.meta ≡ meta) g.1

and_true : (a b : Bool) → a ≡ true → b ≡ true → (a && b) ≡ true
and_true a b x y = rw (x, y) refl

header_more : (meta : Meta) (name : List ℕ) (sub : Option (List ℕ)) (g : EntryList × List Section) → is_name name ≡ true → Gathered meta g → Gathered meta ([], record { name = name; sub = sub; meta = meta; entries = g.0 } ∷ g.1)
unfolding is_named
header_more meta name sub g is h = record {
  keyed = refl;
  named = and_true (is_name name && list_all (λ (e : List ℕ × Option (List ℕ)). is_key e.0) g.0) (list_all is_named g.1) (and_true (is_name name) (list_all (λ (e : List ℕ × Option (List ℕ)). is_key e.0) g.0) is h.keyed) h.named;
  from = (refl, h.from);
}

line_more : (meta : Meta) (text : List ℕ) (rest : List Line) (o : Option Line) → line_of text ≡ o → Gathered meta (gather meta rest) → Gathered meta (gather meta (cons_option o rest))
line_more meta text rest None is h = h
line_more meta text rest (Some Nothing) is h = h
line_more meta text rest (Some (Entry key value)) is h =
    record { keyed = and_true (is_key key) (list_all (λ (e : List ℕ × Option (List ℕ)). is_key e.0) (gather meta rest).0) ((entry_line_is text key value).0 is).keyed h.keyed; named = h.named; from = h.from }
line_more meta text rest (Some (Header name sub)) is h = header_more meta name sub (gather meta rest) ((header_line_is text name sub).0 is).named h

gathered : (meta : Meta) (texts : List (List ℕ)) → Gathered meta (gather meta (filter_map line_of texts))
unfolding is_named
gathered meta [] = record { keyed = refl; named = refl; from = tt }
gathered meta (text ∷ texts) = line_more meta text (filter_map line_of texts) (line_of text) refl (gathered meta texts)

of_text : (meta : Meta) (text : List ℕ) → AreNamed (sections_of meta text) × AllByRecursion (λ (s : Section). s.meta ≡ meta) (sections_of meta text)
unfolding sections_of
of_text meta text = let g = gathered meta (lines text) in (g.named, g.from)

-- ---- those that pass a test

both : (a b : Bool) → (a && b) ≡ true → (a ≡ true) × (b ≡ true)
both true b h = (refl, h)
both false b h = absurd cc

all_filter : {X : Type 0} (p t : X → Bool) (xs : List X) → list_all p xs ≡ true → list_all p (filter t xs) ≡ true
all_filter p t [] all = refl
all_filter p t (x ∷ xs) all = let two = both (p x) (list_all p xs) all in by (t x) two.0 (all_filter p t xs two.1)
  where
    by : (b : Bool) → p x ≡ true → list_all p (filter t xs) ≡ true → list_all p (if b then x ∷ filter t xs else filter t xs) ≡ true
    by true here rest = and_true (p x) (list_all p (filter t xs)) here rest
    by false here rest = rest

-- none of those that are left passes, also once they are read again
none_left : (p : Section → Bool) (meta : Meta) (ss : List Section) → AllByRecursion (λ (s : Section). s.meta ≡ meta) ss → list_any p (map (read_from meta) (filter (λ s. not (p s)) ss)) ≡ false
none_left p meta [] all = refl
none_left p meta (s ∷ ss) all = by (p s) refl (none_left p meta ss all.1)
  where
    same : read_from meta s ≡ s
    same = ap (λ (m : Meta). record s { meta = m }) (sym all.0)

    by : (b : Bool) → p s ≡ b → list_any p (map (read_from meta) (filter (λ x. not (p x)) ss)) ≡ false
        → list_any p (map (read_from meta) (if not b then s ∷ filter (λ x. not (p x)) ss else filter (λ x. not (p x)) ss)) ≡ false
    by true is rest = rest
    by false is rest = ap (λ (b : Bool). b || list_any p (map (read_from meta) (filter (λ x. not (p x)) ss))) (ap p same ∙ is) ∙ rest

pub none_read : (p : Section → Bool) (meta : Meta) (text : List ℕ) → list_any p (sections_of meta (text_of (filter (λ s. not (p s)) (sections_of meta text)))) ≡ false
none_read p meta text =
    let g = of_text meta text in
    let left : List Section = filter (λ s. not (p s)) (sections_of meta text) in
    let says = says_again left (all_filter is_named (λ s. not (p s)) (sections_of meta text) g.0) (all_filter is_kept (λ s. not (p s)) (sections_of meta text) (kept-sections_of meta text)) in
    ap (list_any p) (says.same meta) ∙ none_left p meta (sections_of meta text) g.1
