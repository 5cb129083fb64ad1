-- The sources of each destination, in a map from which they are taken.
use Rattle.std.proofs.Common.{◌≡◌, ℕ, Bool, true, false, cond, ◌||◌, List, [], ◌∷◌, ◌++◌, get_or, take, ◌<◌, length, ◌+◌, Option, Some, None, refl, sym, ap, subst, ◌∙◌}
use Rattle.std.specs.Map.{lookup}
use Rattle.std.specs.Cmp.Lexicographic.{slice_cmp, texts_ties}
use Rattle.std.specs.Ordering.{nat_cmp, is_eq}
use Rattle.std.specs.Str.{bytes_eq}
use Rattle.std.proofs.lemmas.List.{take_more}
use Rattle.std.proofs.lemmas.List.Folds.{list_any-append}
use Rattle.std.proofs.lemmas.Slice.Eq.{bytes_eq-Decides}
use Rattle.fetch_specs.specs.declared.found.SourceRef.{SourceRef}
use Rattle.fetch_specs.specs.declared.found.Match.{Match}
use Rattle.fetch_specs.specs.Conflicts.{is_side, sources_to, more_sources, has_destination, conflict_of, conflict_at, entered, sources_at, conflict_in}
use Rattle.fetch_specs.proofs.Conflicting.{bytes-back, sources-more}

abbrev pub Entries : Type 0
Entries = List (List ℕ × List SourceRef)

-- what an entry of the map is after it was put in or taken out
abbrev pub Puts : List ℕ → Option (List SourceRef) → Entries → Entries → Type 0
Puts d w old more = (q : List ℕ) → lookup (λ t. is_eq (slice_cmp nat_cmp q t)) more ≡ cond (is_eq (slice_cmp nat_cmp d q)) w (lookup (λ t. is_eq (slice_cmp nat_cmp q t)) old)

pub put_at : (q d : List ℕ) (w : Option (List SourceRef)) (old more : Entries) → Puts d w old more → sources_at more q ≡ cond (bytes_eq q d) (entered w) (sources_at old q)
put_at q d w old more puts =
    ap entered (puts q)
    ∙ ap (λ (t : Bool). entered (cond t w (lookup (λ t. is_eq (slice_cmp nat_cmp q t)) old))) (sym (texts_ties d q) ∙ bytes-back d q)
    ∙ by_test (bytes_eq q d)
  where
    by_test : (t : Bool) → entered (cond t w (lookup (λ t. is_eq (slice_cmp nat_cmp q t)) old)) ≡ cond t (entered w) (sources_at old q)
    by_test true = refl
    by_test false = refl

-- a source more, where the destination's sources were taken out and put in again
pub source-more : (q d k : List ℕ) (s : SourceRef) (old mid more : Entries) (before after : List SourceRef)
    → k ≡ d
    → before ≡ sources_at old d
    → sources_at mid q ≡ cond (bytes_eq q d) [] (sources_at old q)
    → after ≡ more_sources before s
    → Puts k (Some after) mid more
    → sources_at more q ≡ cond (bytes_eq q d) (more_sources (sources_at old q) s) (sources_at old q)
source-more q d k s old mid more before after key is out adds puts =
    put_at q d (Some after) mid more (subst (λ (k : List ℕ). Puts k (Some after) mid more) key puts)
    ∙ ap (λ (ss : List SourceRef). cond (bytes_eq q d) after ss) out
    ∙ by_test (bytes_eq q d) refl
  where
    by_test : (t : Bool) → bytes_eq q d ≡ t → cond t after (cond t [] (sources_at old q)) ≡ cond t (more_sources (sources_at old q) s) (sources_at old q)
    by_test true same = adds ∙ ap (λ (ss : List SourceRef). more_sources ss s) (is ∙ ap (sources_at old) (sym ((bytes_eq-Decides q d).0 same)))
    by_test false other = refl

-- one match more
pub sources-turn : (ms : List Match) (i : ℕ) (m : Match) (q : List ℕ) (old more : Entries) → i < length ms → m ≡ get_or ms i m
    → sources_at old q ≡ sources_to (take i ms) q
    → sources_at more q ≡ cond (is_side q m.rhs) (more_sources (sources_at old q) m.lhs) (sources_at old q)
    → sources_at more q ≡ sources_to (take (i + 1) ms) q
sources-turn ms i m q old more lt is known grows =
    grows
    ∙ ap (λ (ss : List SourceRef). cond (is_side q m.rhs) (more_sources ss m.lhs) ss) known
    ∙ sym (sources-more (take i ms) m q)
    ∙ ap (λ (xs : List Match). sources_to xs q) (ap (λ (x : Match). take i ms ++ x ∷ []) is ∙ sym (take_more ms i m lt))

-- the map has the sources of the destinations that don't stand in front
abbrev pub HasOthers : List Match → List Match → Entries → Type 0
HasOthers ms front entries = (q : List ℕ) → sources_at entries q ≡ cond (has_destination front q) [] (sources_to ms q)

pub conflict-taken : (ms front : List Match) (entries : Entries) (o : Option (List ℕ)) → HasOthers ms front entries → conflict_in entries o ≡ conflict_at ms front o
conflict-taken ms front entries None has = refl
conflict-taken ms front entries (Some d) has = ap (conflict_of d) (has d) ∙ by_test (has_destination front d)
  where
    by_test : (t : Bool) → conflict_of d (cond t [] (sources_to ms d)) ≡ cond t [] (conflict_of d (sources_to ms d))
    by_test true = refl
    by_test false = refl

pub others-turn : (ms : List Match) (i : ℕ) (m : Match) (old more : Entries) → i < length ms → m ≡ get_or ms i m
    → HasOthers ms (take i ms) old
    → ((q : List ℕ) → sources_at more q ≡ cond (is_side q m.rhs) [] (sources_at old q))
    → HasOthers ms (take (i + 1) ms) more
others-turn ms i m old more lt is has rest = λ q.
    rest q
    ∙ ap (λ (ss : List SourceRef). cond (is_side q m.rhs) [] ss) (has q)
    ∙ either (has_destination (take i ms) q) (is_side q m.rhs) (sources_to ms q)
    ∙ ap (λ (t : Bool). cond t [] (sources_to ms q)) (sym (list_any-append (λ x. is_side q x.rhs) (take i ms) (m ∷ [])))
    ∙ ap (λ (xs : List Match). cond (has_destination xs q) [] (sources_to ms q)) (ap (λ (x : Match). take i ms ++ x ∷ []) is ∙ sym (take_more ms i m lt))
  where
    either : (a b : Bool) (ss : List SourceRef) → cond b [] (cond a [] ss) ≡ cond (a || (b || false)) [] ss
    either true true ss = refl
    either true false ss = refl
    either false true ss = refl
    either false false ss = refl
