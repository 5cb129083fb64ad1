-- The conflicts of more and more matches.
use Rattle.std.proofs.Common.{◌≡◌, ℕ, Bool, true, false, cond, ◌||◌, List, [], ◌∷◌, ◌++◌, map, append-nil, Option, Some, None, refl, sym, ap, ◌∙◌}
use mathlib.Core.List.{map-append}
use Rattle.std.specs.List.{list_any, filter, filter_map}
use Rattle.std.specs.Cmp.Lexicographic.{texts_ties}
use Rattle.std.specs.Str.{bytes_eq}
use Rattle.std.proofs.lemmas.List.Elements.{filter_map-append}
use Rattle.std.proofs.lemmas.Slice.Eq.{bytes_eq-Decides}
use Rattle.fetch_specs.specs.declared.conflict.Conflict.{Conflict}
use Rattle.fetch_specs.specs.declared.found.SourceRef.{SourceRef}
use Rattle.fetch_specs.specs.declared.found.Match.{Match}
use Rattle.fetch_specs.specs.Matches.{source_key, once}
use Rattle.fetch_specs.specs.Conflicts.{is_same_source, is_side, sources_to, destinations_of, sourced, is_double, more_sources, has_destination, conflict_of, conflict_at}
use Rattle.fetch_specs.proofs.Keys.{texts-back, filter-append, once-push, any-once}

pub bytes-back : (a b : List ℕ) → bytes_eq a b ≡ bytes_eq b a
bytes-back a b = texts_ties a b ∙ texts-back a b ∙ sym (texts_ties b a)

source-alike : (s a y : SourceRef) → is_same_source a y ≡ true → is_same_source a s ≡ is_same_source y s
source-alike s a y is = ap (λ (t : List ℕ). bytes_eq t (source_key s)) ((bytes_eq-Decides (source_key a) (source_key y)).0 is)

-- one source more
once-more : (xs : List SourceRef) (s : SourceRef) → once is_same_source (xs ++ s ∷ []) ≡ more_sources (once is_same_source xs) s
once-more xs s =
    once-push is_same_source xs s
    ∙ ap (λ (t : Bool). cond t (once is_same_source xs) (once is_same_source xs ++ s ∷ [])) (sym (any-once is_same_source (λ y. is_same_source y s) xs (λ a y is. source-alike s a y is)))

-- one match more
pub sources-more : (ms : List Match) (m : Match) (d : List ℕ)
    → sources_to (ms ++ m ∷ []) d ≡ cond (is_side d m.rhs) (more_sources (sources_to ms d) m.lhs) (sources_to ms d)
sources-more ms m d =
    let front : List Match = filter (λ x. is_side d x.rhs) ms in
    ap (λ (xs : List Match). once is_same_source (map (λ x. x.lhs) xs)) (filter-append (λ x. is_side d x.rhs) ms (m ∷ []))
    ∙ step front (is_side d m.rhs)
  where
    step : (front : List Match) (t : Bool) → once is_same_source (map (λ x. x.lhs) (front ++ cond t (m ∷ []) []))
        ≡ cond t (more_sources (once is_same_source (map (λ x. x.lhs) front)) m.lhs) (once is_same_source (map (λ x. x.lhs) front))
    step front true = ap (once is_same_source) (map-append (λ (x : Match). x.lhs) front (m ∷ [])) ∙ once-more (map (λ x. x.lhs) front) m.lhs
    step front false = ap (λ (xs : List Match). once is_same_source (map (λ x. x.lhs) xs)) (append-nil front)

-- whether a destination was there
seen : (ms : List Match) (d : List ℕ) → list_any (λ y. bytes_eq y d) (filter_map (λ m. m.rhs) ms) ≡ has_destination ms d
seen [] d = refl
seen (m ∷ ms) d = step m.rhs refl (seen ms d)
  where
    step : (o : Option (List ℕ)) → m.rhs ≡ o → list_any (λ y. bytes_eq y d) (filter_map (λ m. m.rhs) ms) ≡ has_destination ms d
        → list_any (λ y. bytes_eq y d) (filter_map (λ m. m.rhs) (m ∷ ms)) ≡ has_destination (m ∷ ms) d
    step None is on = rw is on
    step (Some side) is on =
        rw is (ap (λ (t : Bool). t || list_any (λ y. bytes_eq y d) (filter_map (λ m. m.rhs) ms)) (bytes-back side d) ∙ ap (λ (t : Bool). bytes_eq d side || t) on)

abbrev listed : List Match → List (List ℕ) → List Conflict
listed ms ds = filter is_double (map (sourced ms) ds)

pushed : (ms : List Match) (ds : List (List ℕ)) (d : List ℕ) (t : Bool) → listed ms (cond t ds (ds ++ d ∷ [])) ≡ listed ms ds ++ cond t [] (conflict_of d (sources_to ms d))
pushed ms ds d true = sym (append-nil (listed ms ds))
pushed ms ds d false =
    ap (filter is_double) (map-append (sourced ms) ds (d ∷ [])) ∙ filter-append is_double (map (sourced ms) ds) (sourced ms d ∷ [])

-- the conflicts of the destinations of one match more
pub conflicts-more : (ms front : List Match) (m : Match) → listed ms (destinations_of (front ++ m ∷ [])) ≡ listed ms (destinations_of front) ++ conflict_at ms front m.rhs
conflicts-more ms front m =
    ap (λ (xs : List (List ℕ)). listed ms (once bytes_eq xs)) (filter_map-append (λ (x : Match). x.rhs) front (m ∷ [])) ∙ step m.rhs refl
  where
    step : (o : Option (List ℕ)) → m.rhs ≡ o → listed ms (once bytes_eq (filter_map (λ x. x.rhs) front ++ filter_map (λ x. x.rhs) (m ∷ []))) ≡ listed ms (destinations_of front) ++ conflict_at ms front m.rhs
    step None is =
        rw is (ap (λ (xs : List (List ℕ)). listed ms (once bytes_eq xs)) (append-nil (filter_map (λ x. x.rhs) front)) ∙ sym (append-nil (listed ms (destinations_of front))))
    step (Some d) is =
        rw is (ap (listed ms) (once-push bytes_eq (filter_map (λ x. x.rhs) front) d)
        ∙ pushed ms (destinations_of front) d (list_any (λ y. bytes_eq y d) (filter_map (λ x. x.rhs) front))
        ∙ ap (λ (t : Bool). listed ms (destinations_of front) ++ cond t [] (conflict_of d (sources_to ms d))) (seen front d))
