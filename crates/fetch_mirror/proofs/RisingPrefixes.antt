-- The prefixes that a share asks for rise, and none is empty.
use Rattle.std.proofs.Common.{◌≡◌, ℕ, suc, ◌+◌, ◌-◌, Bool, true, false, cond, not, ◌&&◌, eqb, List, [], ◌∷◌, ◌++◌, length, take, drop, map, Option, Some, refl, ap, ◌∙◌, arith}
use Rattle.std.specs.Prelude.{is_some, slice_get, nat_eq}
use Rattle.std.specs.Cmp.Lexicographic.{slice_cmp}
use Rattle.std.specs.List.{list_all, list_any, position_or_len, starts_with}
use Rattle.std.specs.Ordering.{is_lt, nat_cmp}
use Rattle.std.specs.Str.{bytes_eq}
use Rattle.std.proofs.lemmas.Bool.{and_parts, or_from}
use Rattle.std.proofs.lemmas.List.{get_or_at, length-append}
use Rattle.std.proofs.lemmas.Option.{slice_get-get_or}
use Rattle.fetch_base.specs.declared.id.ObjectId.{ObjectId}
use Rattle.fetch_refs.specs.Names.{name_cmp}
use Rattle.fetch_asked.specs.Requests.{last_of}
use Rattle.fetch_specs.specs.Categories.{refs}
use Rattle.fetch_specs.specs.Matches.{has_star}
use Rattle.fetch_specs.specs.Parses.{head}
use Rattle.fetch_specs.specs.Prefixes.{ascends, asks_for_all, expansions, prefixes_of, refs_prefix, second_slash, spec_prefixes}
use Rattle.fetch_specs.proofs.Ascending.{is_listing}
use Rattle.fetch_mirror.specs.Listings.{AreRising}
use Rattle.fetch_mirror.specs.Shares.{IsUnderRefs, as_itself}
use Rattle.fetch_mirror.proofs.Divided.{at_later}
use Rattle.fetch_mirror.proofs.OwnMatches.{no_id}

last-push : (before : List (List ℕ)) (text : List ℕ) → last_of (before ++ text ∷ []) ≡ text
last-push before text =
    let n : length (before ++ text ∷ []) - 1 ≡ length before = omega (arith, length-append before (text ∷ [])) in
    rw n (get_or_at before text [] [] (length before) refl)

rising : (before : List (List ℕ)) (last : List ℕ) (texts : List (List ℕ)) → last_of before ≡ last → ascends texts ≡ true → list_all (λ t. is_lt (slice_cmp nat_cmp last t)) texts ≡ true → AreRising before texts
rising before last [] is ascend above = tt
rising before last (text ∷ texts) is ascend above =
    let a = and_parts (list_all (λ t. is_lt (slice_cmp nat_cmp text t)) texts) (ascends texts) ascend in
    let b = and_parts (is_lt (slice_cmp nat_cmp last text)) (list_all (λ t. is_lt (slice_cmp nat_cmp last t)) texts) above in
    (ap (λ (l : List ℕ). is_lt (name_cmp l text)) is ∙ b.0, rising (before ++ text ∷ []) text texts (last-push before text) a.1 a.0)

-- what isn't empty is greater than the empty text
above_none : (texts : List (List ℕ)) → list_any (bytes_eq []) texts ≡ false → list_all (λ t. is_lt (slice_cmp nat_cmp [] t)) texts ≡ true
above_none [] none = refl
above_none ([] ∷ texts) none = absurd cc
above_none ((b ∷ text) ∷ texts) none = above_none texts none

-- ---- a name asks for no empty prefix

abbrev start : List ℕ → List ℕ
start name = take (second_slash name) name

some_start : (rest : List ℕ) → bytes_eq [] (start (refs ++ rest)) ≡ false
unfolding refs
some_start rest =
    let more = position_or_len (λ b. eqb b 47) (drop 5 (refs ++ rest)) in
    let n : second_slash (refs ++ rest) ≡ suc (5 + more) = omega arith in
    ap (λ (k : ℕ). bytes_eq [] (take k (refs ++ rest))) n

not_head : (rest : List ℕ) → bytes_eq (refs ++ rest) head ≡ false
unfolding refs head
not_head rest = refl

begins : (rest : List ℕ) → starts_with nat_eq (refs ++ rest) refs ≡ true
unfolding refs
begins rest = refl

none_by : (t : Bool) (text : List ℕ) → bytes_eq [] text ≡ false → list_any (bytes_eq []) (cond t [] (text ∷ [])) ≡ false
none_by true text is = refl
none_by false text is = or_from (bytes_eq [] text) false is refl

no_prefix : (name : List ℕ) → IsUnderRefs name → list_any (bytes_eq []) (spec_prefixes (as_itself name)) ≡ false
no_prefix name u =
    ap (λ (o : Option ObjectId). list_any (bytes_eq []) (cond (is_some o) [] (cond (bytes_eq name head) (head ∷ []) (cond (starts_with nat_eq name refs) (refs_prefix name) (cond (has_star name) [] (expansions name)))))) (no_id name u)
    ∙ ap (λ (l : List ℕ). list_any (bytes_eq []) (cond (bytes_eq l head) (head ∷ []) (cond (starts_with nat_eq l refs) (refs_prefix l) (cond (has_star l) [] (expansions l))))) u.is
    ∙ ap (λ (t : Bool). list_any (bytes_eq []) (cond t (head ∷ []) (cond (starts_with nat_eq (refs ++ u.rest) refs) (refs_prefix (refs ++ u.rest)) (cond (has_star (refs ++ u.rest)) [] (expansions (refs ++ u.rest)))))) (not_head u.rest)
    ∙ ap (λ (t : Bool). list_any (bytes_eq []) (cond t (refs_prefix (refs ++ u.rest)) (cond (has_star (refs ++ u.rest)) [] (expansions (refs ++ u.rest))))) (begins u.rest)
    ∙ none_by (has_star (start (refs ++ u.rest))) (start (refs ++ u.rest)) (some_start u.rest)

no_prefixes : (names : List (List ℕ)) → ((i : ℕ) (name : List ℕ) → slice_get names i ≡ Some name → IsUnderRefs name) → list_any (λ spec. list_any (bytes_eq []) (spec_prefixes spec)) (map as_itself names) ≡ false
no_prefixes [] under = refl
no_prefixes (name ∷ names) under =
    or_from (list_any (bytes_eq []) (spec_prefixes (as_itself name))) _ (no_prefix name (under 0 name (slice_get-get_or (name ∷ names) 0 name (omega arith))))
    (no_prefixes names (λ i other at. under (suc i) other (at_later name other names i at)))

and_none : (t u : Bool) → u ≡ false → (t && u) ≡ false
and_none true u is = is
and_none false u is = refl

-- so the prefixes of names under `refs/` rise from the first one on
pub rising_prefixes : (names : List (List ℕ)) → ((i : ℕ) (name : List ℕ) → slice_get names i ≡ Some name → IsUnderRefs name) → AreRising [] (prefixes_of (map as_itself names))
rising_prefixes names under =
    let listing = is_listing (map as_itself names) in
    rising [] [] (prefixes_of (map as_itself names)) refl listing.sorted
    (above_none (prefixes_of (map as_itself names)) (listing.members [] ∙ and_none (not (list_any asks_for_all (map as_itself names))) _ (no_prefixes names under)))
