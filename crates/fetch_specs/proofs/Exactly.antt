-- A source that takes one name alone maps what it maps at the first place of that name.
use Rattle.std.proofs.Common.{◌≡◌, ℕ, suc, ◌+◌, ◌<◌, Bool, true, false, cond, ◌&&◌, ◌||◌, List, [], ◌∷◌, ◌++◌, map, length, get_or, Option, Some, None, refl, sym, ap, ap₂, ◌∙◌, arith}
use Rattle.std.specs.Prelude.{is_some, option_map}
use Rattle.std.specs.List.{list_any}
use Rattle.std.specs.Map.{lookup}
use Rattle.std.specs.Cmp.Lexicographic.{slice_cmp, texts_ties}
use Rattle.std.specs.Ordering.{nat_cmp, is_eq}
use Rattle.std.specs.Str.{bytes_eq}
use Rattle.std.proofs.lemmas.List.{get_or-map, length-map}
use Rattle.std.proofs.lemmas.List.Folds.{list_any-append}
use Rattle.std.proofs.lemmas.Slice.Eq.{bytes_eq-Decides}
use Rattle.fetch_specs.specs.declared.found.Match.{Match}
use Rattle.fetch_specs.specs.declared.found.SourceRef.TheVariants as sources
use Rattle.fetch_specs.specs.declared.matching.Item.{Item}
use Rattle.fetch_specs.specs.Specs.{Spec}
use Rattle.fetch_specs.specs.Matches.{has_star, is_full, is_expansion, front_of, back_of, between, where_true, source_taken, source_id, expanded, is_exclusion, is_excluded, name_mapping, name_matches, names_from, found, key_of, is_same, added, added_all}
use Rattle.fetch_specs.specs.Exact.{exact_source, place_from, place_in, matches_at}
use Rattle.fetch_specs.proofs.Keys.{added_all-append}
use Rattle.fetch_specs.proofs.Conflicting.{bytes-back}

pub exact_is : (source : Option (List ℕ)) (name : List ℕ) → exact_source source ≡ Some name → (source ≡ Some name) × (has_star name ≡ false) × (is_full name ≡ true)
exact_is None name is = absurd cc
exact_is (Some s) name is = by_tests (has_star s) (is_full s) refl refl is
  where
    by_tests : (a b : Bool) → has_star s ≡ a → is_full s ≡ b → cond a None (cond b (Some s) None) ≡ Some name → (Some s ≡ Some name) × (has_star name ≡ false) × (is_full name ≡ true)
    by_tests true b p q h = absurd cc
    by_tests false false p q h = absurd cc
    by_tests false true p q h = let same : s ≡ name = cc in (ap Some same, ap has_star (sym same) ∙ p, ap is_full (sym same) ∙ q)

-- ---- a match that is there
itself : (pairs : Bool) (a : Match) → is_same pairs a a ≡ true
itself pairs a = ap₂ (λ (s t : Bool). s && t) ((bytes_eq-Decides (key_of pairs a).0 (key_of pairs a).0).1 refl) ((bytes_eq-Decides (key_of pairs a).1 (key_of pairs a).1).1 refl)

there : (pairs : Bool) (ms : List Match) (a : Match) → list_any (λ x. is_same pairs x a) (added pairs ms a) ≡ true
there pairs ms a = by_test (list_any (λ x. is_same pairs x a) ms) refl
  where
    by_test : (t : Bool) → list_any (λ x. is_same pairs x a) ms ≡ t → list_any (λ x. is_same pairs x a) (cond t ms (ms ++ a ∷ [])) ≡ true
    by_test true is = is
    by_test false is = list_any-append (λ x. is_same pairs x a) ms (a ∷ []) ∙ ap₂ (λ (s t : Bool). s || (t || false)) is (itself pairs a)

again : (pairs : Bool) (ms : List Match) (a b : Match) → key_of pairs a ≡ key_of pairs b → added pairs (added pairs ms a) b ≡ added pairs ms a
again pairs ms a b key =
    ap (λ (t : Bool). cond t (added pairs ms a) (added pairs ms a ++ b ∷ []))
    (ap (λ (k : List ℕ × List ℕ). list_any (λ x. bytes_eq (key_of pairs x).0 k.0 && bytes_eq (key_of pairs x).1 k.1) (added pairs ms a)) (sym key) ∙ there pairs ms a)

module _ (pairs : Bool) (specs : List Spec) (i : ℕ) (spec : Spec) (name : List ℕ) where
  abbrev mapped : ℕ → List ℕ → List Match
  mapped j n = name_matches specs i spec j n

  abbrev one : ℕ → List ℕ → Match
  one j middle = record { lhs = sources.FullName name; rhs = option_map (expanded middle) spec.destination; item_index = Some j; spec_index = i }

  same_key : (p : Bool) (j k : ℕ) (middle : List ℕ) → key_of p (one j middle) ≡ key_of p (one k middle)
  same_key true j k middle = refl
  same_key false j k middle = refl

  -- at a second place of the name it maps nothing more
  by_test : (ms : List Match) (j k : ℕ) (middle : List ℕ) (t : Bool) → added_all pairs (added_all pairs ms (found (cond t None (Some (one j middle))))) (found (cond t None (Some (one k middle)))) ≡ added_all pairs ms (found (cond t None (Some (one j middle))))
  by_test ms j k middle true = refl
  by_test ms j k middle false = again pairs ms (one j middle) (one k middle) (same_key pairs j k middle)

  by_middle : (ms : List Match) (j k : ℕ) (o : Option (List ℕ)) → added_all pairs (added_all pairs ms (found (name_mapping specs i spec j name o))) (found (name_mapping specs i spec k name o)) ≡ added_all pairs ms (found (name_mapping specs i spec j name o))
  by_middle ms j k None = refl
  by_middle ms j k (Some middle) = by_test ms j k middle (is_exclusion spec.mode || is_some (source_id spec.source) || is_excluded specs name)

  module _ (is : spec.source ≡ Some name) (plain : has_star name ≡ false) (full : is_full name ≡ true) where
    other : (j : ℕ) (n : List ℕ) → bytes_eq name n ≡ false → mapped j n ≡ []
    other j n off =
        ap (λ (o : Option (List ℕ)). found (name_mapping specs i spec j n o))
        (ap (λ (s : Option (List ℕ)). source_taken s n) is
        ∙ ap (λ (t : Bool). cond t (between (front_of name) (back_of name) n) (where_true (cond (is_full name) (bytes_eq name n) (is_expansion name n)))) plain
        ∙ ap (λ (t : Bool). where_true (cond t (bytes_eq name n) (is_expansion name n))) full ∙ ap where_true off)

    rest : (ns : List (List ℕ)) (k j : ℕ) (ms : List Match) → added_all pairs (added_all pairs ms (mapped j name)) (names_from mapped k ns) ≡ added_all pairs ms (mapped j name)
    rest [] k j ms = refl
    rest (n ∷ ns) k j ms =
        added_all-append pairs (added_all pairs ms (mapped j name)) (mapped k n) (names_from mapped (k + 1) ns)
        ∙ ap (λ (xs : List Match). added_all pairs xs (names_from mapped (k + 1) ns)) (step (bytes_eq name n) refl) ∙ rest ns (k + 1) j ms
      where
        step : (t : Bool) → bytes_eq name n ≡ t → added_all pairs (added_all pairs ms (mapped j name)) (mapped k n) ≡ added_all pairs ms (mapped j name)
        step false off = ap (added_all pairs (added_all pairs ms (mapped j name))) (other k n off)
        step true alike =
            ap (λ (m : List ℕ). added_all pairs (added_all pairs ms (mapped j name)) (mapped k m)) (sym ((bytes_eq-Decides name n).0 alike))
            ∙ by_middle ms j k (source_taken spec.source name)

    pub at_first : (ns : List (List ℕ)) (k : ℕ) (ms : List Match) → added_all pairs ms (names_from mapped k ns) ≡ added_all pairs ms (matches_at mapped name (place_from k name ns))
    at_first [] k ms = refl
    at_first (n ∷ ns) k ms = added_all-append pairs ms (mapped k n) (names_from mapped (k + 1) ns) ∙ step (bytes_eq name n) refl (at_first ns (k + 1) ms) (rest ns (k + 1) k ms)
      where
        step : (t : Bool) → bytes_eq name n ≡ t
            → added_all pairs ms (names_from mapped (k + 1) ns) ≡ added_all pairs ms (matches_at mapped name (place_from (k + 1) name ns))
            → added_all pairs (added_all pairs ms (mapped k name)) (names_from mapped (k + 1) ns) ≡ added_all pairs ms (mapped k name)
            → added_all pairs (added_all pairs ms (mapped k n)) (names_from mapped (k + 1) ns) ≡ added_all pairs ms (matches_at mapped name (cond t (Some k) (place_from (k + 1) name ns)))
        step false off more none = ap (λ (m : List Match). added_all pairs (added_all pairs ms m) (names_from mapped (k + 1) ns)) (other k n off) ∙ more
        step true alike more none = ap (λ (m : List ℕ). added_all pairs (added_all pairs ms (mapped k m)) (names_from mapped (k + 1) ns)) (sym ((bytes_eq-Decides name n).0 alike)) ∙ none

-- ---- where a name stands
record Standing (name : List ℕ) (ns : List (List ℕ)) (k j : ℕ) : Type 0 where
  pub at : ℕ
  pub is : j ≡ k + at
  pub within : at < length ns
  pub there : (d : List ℕ) → get_or ns at d ≡ name

stands : (name : List ℕ) (ns : List (List ℕ)) (k j : ℕ) → place_from k name ns ≡ Some j → Standing name ns k j
stands name [] k j is = absurd cc
stands name (n ∷ ns) k j is = step (bytes_eq name n) refl is (stands name ns (k + 1) j)
  where
    step : (t : Bool) → bytes_eq name n ≡ t → cond t (Some k) (place_from (k + 1) name ns) ≡ Some j → (place_from (k + 1) name ns ≡ Some j → Standing name ns (k + 1) j) → Standing name (n ∷ ns) k j
    step true alike h on = let same : k ≡ j = cc in record { at = 0; is = omega (arith, same); within = omega arith; there = λ d. sym ((bytes_eq-Decides name n).0 alike) }
    step false off h on = let s = on h in record { at = suc s.at; is = let e = s.is in omega (arith, e); within = let w = s.within in omega (arith, w); there = s.there }

-- what is kept of the first place of a name is what the name's test gives
pub record Tested (specs : List Spec) (kept : List Bool) (name : List ℕ) (j : ℕ) : Type 0 where
  pub within : j < length kept
  pub is : (d : Bool) → get_or kept j d ≡ is_excluded specs name

pub tested : (specs : List Spec) (items : List Item) (kept : List Bool) (name : List ℕ) (j : ℕ) → kept ≡ map (λ item. is_excluded specs item.full_ref_name) items → place_from 0 name (map (λ item. item.full_ref_name) items) ≡ Some j → Tested specs kept name j
tested specs items kept name j all is =
    let s = stands name (map (λ (item : Item). item.full_ref_name) items) 0 j is in
    let here : j ≡ s.at = let e = s.is in omega (arith, e) in
    let short = length-map items (λ (item : Item). item.full_ref_name) in
    let low : s.at < length items = let w = s.within in omega (arith, w, short) in
    let item : Item = record { full_ref_name = name } in
    let long = ap length all ∙ length-map items (λ (item : Item). is_excluded specs item.full_ref_name) in
    record {
      within = omega (arith, low, here, long);
      is = λ d.
          ap₂ (λ (bs : List Bool) (n : ℕ). get_or bs n d) all here ∙ get_or-map (λ (item : Item). is_excluded specs item.full_ref_name) items s.at item d low
          ∙ ap (is_excluded specs) (sym (get_or-map (λ (item : Item). item.full_ref_name) items s.at item name low) ∙ s.there name);
    }

-- ---- a map of the first places, made from the end
abbrev pub Puts : List ℕ → ℕ → List (List ℕ × ℕ) → List (List ℕ × ℕ) → Type 0
Puts d k old more = (q : List ℕ) → lookup (λ t. is_eq (slice_cmp nat_cmp q t)) more ≡ cond (is_eq (slice_cmp nat_cmp d q)) (Some k) (lookup (λ t. is_eq (slice_cmp nat_cmp q t)) old)

pub place-more : (q n : List ℕ) (ns : List (List ℕ)) (k : ℕ) (old more : List (List ℕ × ℕ)) → Puts n k old more → place_in old q ≡ place_from (k + 1) q ns → place_in more q ≡ place_from k q (n ∷ ns)
place-more q n ns k old more puts has =
    puts q ∙ ap (λ (t : Bool). cond t (Some k) (place_in old q)) (sym (texts_ties n q) ∙ bytes-back n q) ∙ ap (cond (bytes_eq q n) (Some k)) has

-- ---- without an exclusion no name is excluded
pub none_excluded : (specs : List Spec) (name : List ℕ) → list_any (λ s. is_exclusion s.mode) specs ≡ false → is_excluded specs name ≡ false
none_excluded [] name none = refl
none_excluded (s ∷ specs) name none = step (is_exclusion s.mode) none (none_excluded specs name)
  where
    step : (t : Bool) → (t || list_any (λ s. is_exclusion s.mode) specs) ≡ false → (list_any (λ s. is_exclusion s.mode) specs ≡ false → is_excluded specs name ≡ false)
        → ((t && is_some (source_taken s.source name)) || is_excluded specs name) ≡ false
    step true h more = absurd cc
    step false h more = more h
