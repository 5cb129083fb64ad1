-- Each name that a refspec takes begins with one of the prefixes, or all is asked for.
use Rattle.std.proofs.Common.{◌≡◌, ℕ, zero, suc, Bool, true, false, cond, not, ◌&&◌, ◌||◌, eqb, List, [], ◌∷◌, ◌++◌, length, take, drop, refl, sym, ap, ◌∙◌, inl, inr, append_assoc, append-nil}
use Rattle.std.specs.Prelude.{nat_eq, nat_le, ◌+◌, is_some, Option, Some, None}
use Rattle.std.specs.List.{Contains, list_any, starts_with, ends_with, flat_map}
use Rattle.std.specs.Str.{bytes_eq}
use Rattle.std.proofs.lemmas.Bool.{and_parts}
use Rattle.std.proofs.lemmas.Bool.Decides.{Decides-eqb}
use Rattle.std.proofs.lemmas.List.{take-append-drop}
use Rattle.std.proofs.lemmas.List.Folds.{list_any_at}
use Rattle.std.proofs.lemmas.List.Sums.{take_while-cons}
use Rattle.std.proofs.lemmas.Slice.Eq.{bytes_eq-Decides, starts_is}
use Rattle.fetch_specs.specs.Categories.{refs, tags, heads, remotes}
use Rattle.fetch_specs.specs.Parses.{head, id_named}
use Rattle.fetch_specs.specs.Matches.{has_star, front_of, back_of, between, slash_head, is_full, is_expansion, where_true, taken, is_exclusion, source_id, source_taken, takes}
use Rattle.fetch_specs.specs.Specs.{Spec}
use Rattle.fetch_specs.specs.Prefixes.{second_slash, refs_prefix, expansions, source_prefixes, has_open_star, is_open_side, asks_for_all, side_prefixes, spec_prefixes, put_all, prefixes_of, IsAskedFor}
use Rattle.fetch_specs.proofs.Ascending.{all-members, given}

starts : (s p rest : List ℕ) → s ≡ p ++ rest → starts_with nat_eq s p ≡ true
starts s p rest is = (starts_is Decides-eqb s p (starts_with nat_eq s p) refl).1 rest is

started : (s p : List ℕ) → starts_with nat_eq s p ≡ true → s ≡ p ++ drop (length p) s
started s p is = (starts_is Decides-eqb s p (starts_with nat_eq s p) refl).0 is

or_false : (a b : Bool) → (a || b) ≡ false → (a ≡ false) × (b ≡ false)
or_false true b is = absurd cc
or_false false b is = (refl, is)

-- what stands before a star goes on after each prefix without a star
longer_front : (s : List ℕ) (k : ℕ) → has_star (take k s) ≡ false → (r : List ℕ) × (front_of s ≡ take k s ++ r)
longer_front [] zero free = ([], refl)
longer_front [] (suc k) free = ([], refl)
longer_front (b ∷ s) zero free = (front_of (b ∷ s), refl)
longer_front (b ∷ s) (suc k) free =
    let both = or_false (eqb b 42) (has_star (take k s)) free in
    let on = longer_front s k both.1 in
    (on.0, take_while-cons (λ x. not (eqb x 42)) b s ∙ ap (λ (t : Bool). cond (not t) (b ∷ front_of s) []) both.0 ∙ ap (λ (xs : List ℕ). b ∷ xs) on.1)

some_where : (t : Bool) (x : List ℕ) → is_some (cond t (Some x) None) ≡ true → t ≡ true
some_where true x is = refl
some_where false x is = absurd cc

where_some : (t : Bool) → is_some (where_true t) ≡ true → t ≡ true
where_some true is = refl
where_some false is = absurd cc

-- a name between a prefix and a suffix begins with the prefix
fronted : (front back name : List ℕ) → is_some (between front back name) ≡ true → starts_with nat_eq name front ≡ true
fronted front back name is =
    let all = some_where (nat_le (length front + length back) (length name) && starts_with nat_eq name front && ends_with nat_eq name back) _ is in
    let both = (and_parts (nat_le (length front + length back) (length name) && starts_with nat_eq name front) (ends_with nat_eq name back) all).0 in
    (and_parts (nat_le (length front + length back) (length name)) (starts_with nat_eq name front) both).1

same_starts : (a name : List ℕ) → bytes_eq a name ≡ true → starts_with nat_eq name a ≡ true
same_starts a name is = starts name a [] (sym ((bytes_eq-Decides a name).0 is) ∙ sym (append-nil a))

or_either : (a b c d : Bool) → (a ≡ true → c ≡ true) → (b ≡ true → d ≡ true) → (a || b) ≡ true → (c || d) ≡ true
or_either true b c d left right is = ap (λ (t : Bool). t || d) (left refl)
or_either false b true d left right is = refl
or_either false b false d left right is = right is

last_or : (a c : Bool) → (a ≡ true → c ≡ true) → a ≡ true → (c || false) ≡ true
last_or a c on is = ap (λ (t : Bool). t || false) (on is)

or_assoc : (a b c : Bool) → ((a || b) || c) ≡ (a || (b || c))
or_assoc true b c = refl
or_assoc false b c = refl

in_turn : (a b c d e f : Bool) → (a || b || c || d || e || f) ≡ (a || (b || (c || (d || (e || f)))))
in_turn a b c d e f =
    or_assoc (((a || b) || c) || d) e f ∙ or_assoc ((a || b) || c) d (e || f) ∙ or_assoc (a || b) c (d || (e || f)) ∙ or_assoc a b (c || (d || (e || f)))

-- a name that a short source stands for begins with one of its expansions
expanded : (source name : List ℕ) → is_expansion source name ≡ true → list_any (starts_with nat_eq name) (expansions source) ≡ true
expanded source name is =
    or_either (bytes_eq source name) _ _ _ (same_starts source name)
    (or_either (bytes_eq (refs ++ source) name) _ _ _ (same_starts (refs ++ source) name)
    (or_either (bytes_eq (tags ++ source) name) _ _ _ (same_starts (tags ++ source) name)
    (or_either (bytes_eq (heads ++ source) name) _ _ _ (same_starts (heads ++ source) name)
    (or_either (bytes_eq (remotes ++ source) name) _ _ _ (same_starts (remotes ++ source) name)
    (last_or (bytes_eq (remotes ++ (source ++ slash_head)) name) _ (same_starts (remotes ++ (source ++ slash_head)) name))))))
    (sym (in_turn (bytes_eq source name) (bytes_eq (refs ++ source) name) (bytes_eq (tags ++ source) name) (bytes_eq (heads ++ source) name) (bytes_eq (remotes ++ source) name) (bytes_eq (remotes ++ (source ++ slash_head)) name)) ∙ is)

one : (p : List ℕ → Bool) (x : List ℕ) → p x ≡ true → list_any p (x ∷ []) ≡ true
one p x is = ap (λ (t : Bool). t || false) is

no_star_in_head : has_star head ≡ false
unfolding head
no_star_in_head = refl

-- a source under `refs/` whose prefix has no star
under_refs : (source name : List ℕ) → starts_with nat_eq source refs ≡ true → has_star (take (second_slash source) source) ≡ false → is_some (taken source name) ≡ true
    → list_any (starts_with nat_eq name) (refs_prefix source) ≡ true
under_refs source name under free takes =
    ap (λ (t : Bool). list_any (starts_with nat_eq name) (cond t [] (take (second_slash source) source ∷ []))) free
    ∙ one (starts_with nat_eq name) (take (second_slash source) source) (by_star (has_star source) refl)
  where
    whole : bytes_eq source name ≡ true → starts_with nat_eq name (take (second_slash source) source) ≡ true
    whole same = starts name (take (second_slash source) source) (drop (second_slash source) source) (sym ((bytes_eq-Decides source name).0 same) ∙ sym (take-append-drop (second_slash source) source))

    by_star : (t : Bool) → has_star source ≡ t → starts_with nat_eq name (take (second_slash source) source) ≡ true
    by_star true star =
        let fits : is_some (between (front_of source) (back_of source) name) ≡ true =
        sym (ap (λ (t : Bool). is_some (cond t (between (front_of source) (back_of source) name) (where_true (cond (is_full source) (bytes_eq source name) (is_expansion source name))))) star) ∙ takes in
        let long = longer_front source (second_slash source) free in
        let is = started name (front_of source) (fronted (front_of source) (back_of source) name fits) in
        starts name (take (second_slash source) source) (long.0 ++ drop (length (front_of source)) name)
        (is ∙ ap (λ (xs : List ℕ). xs ++ drop (length (front_of source)) name) long.1 ∙ append_assoc (take (second_slash source) source) long.0 (drop (length (front_of source)) name))
    by_star false plain =
        let fits : is_some (where_true (cond (is_full source) (bytes_eq source name) (is_expansion source name))) ≡ true =
        sym (ap (λ (t : Bool). is_some (cond t (between (front_of source) (back_of source) name) (where_true (cond (is_full source) (bytes_eq source name) (is_expansion source name))))) plain) ∙ takes in
        let full : is_full source ≡ true = ap (λ (t : Bool). bytes_eq source head || t) under ∙ or_true (bytes_eq source head) in
        whole (where_some (bytes_eq source name) (sym (ap (λ (t : Bool). is_some (where_true (cond t (bytes_eq source name) (is_expansion source name)))) full) ∙ fits))
      where
        or_true : (a : Bool) → (a || true) ≡ true
        or_true true = refl
        or_true false = refl

-- a source that is no id asks for a prefix of each name that it takes, unless its star is open
source_asks : (source name : List ℕ) → is_some (id_named source) ≡ false → has_open_star source ≡ false → is_some (taken source name) ≡ true
    → list_any (starts_with nat_eq name) (source_prefixes source) ≡ true
source_asks source name no_id closed takes =
    ap (λ (t : Bool). list_any (starts_with nat_eq name) (cond t [] (cond (bytes_eq source head) (head ∷ []) (cond (starts_with nat_eq source refs) (refs_prefix source) (cond (has_star source) [] (expansions source)))))) no_id
    ∙ of_head (bytes_eq source head) refl
  where
    of_star : (t : Bool) → has_star source ≡ t → bytes_eq source head ≡ false → starts_with nat_eq source refs ≡ false → list_any (starts_with nat_eq name) (cond t [] (expansions source)) ≡ true
    of_star true star other beside =
        let e : true ≡ false = sym star ∙ sym (ap (λ (t : Bool). cond t (has_star (take (second_slash source) source)) (has_star source)) beside) ∙ closed in
        absurd cc
    of_star false plain other beside =
        let short : is_full source ≡ false = ap (λ (t : Bool). t || starts_with nat_eq source refs) other ∙ beside in
        let fits : is_some (where_true (cond (is_full source) (bytes_eq source name) (is_expansion source name))) ≡ true =
        sym (ap (λ (t : Bool). is_some (cond t (between (front_of source) (back_of source) name) (where_true (cond (is_full source) (bytes_eq source name) (is_expansion source name))))) plain) ∙ takes in
        expanded source name (where_some (is_expansion source name) (sym (ap (λ (t : Bool). is_some (where_true (cond t (bytes_eq source name) (is_expansion source name)))) short) ∙ fits))

    of_refs : (t : Bool) → starts_with nat_eq source refs ≡ t → bytes_eq source head ≡ false → list_any (starts_with nat_eq name) (cond t (refs_prefix source) (cond (has_star source) [] (expansions source))) ≡ true
    of_refs true under other =
        under_refs source name under (sym (ap (λ (t : Bool). cond t (has_star (take (second_slash source) source)) (has_star source)) under) ∙ closed) takes
    of_refs false beside other = of_star (has_star source) refl other beside

    of_head : (t : Bool) → bytes_eq source head ≡ t → list_any (starts_with nat_eq name) (cond t (head ∷ []) (cond (starts_with nat_eq source refs) (refs_prefix source) (cond (has_star source) [] (expansions source)))) ≡ true
    of_head true is =
        let same : source ≡ head = (bytes_eq-Decides source head).0 is in
        let plain : has_star source ≡ false = ap has_star same ∙ no_star_in_head in
        let fits : is_some (where_true (cond (is_full source) (bytes_eq source name) (is_expansion source name))) ≡ true =
        sym (ap (λ (t : Bool). is_some (cond t (between (front_of source) (back_of source) name) (where_true (cond (is_full source) (bytes_eq source name) (is_expansion source name))))) plain) ∙ takes in
        let full : is_full source ≡ true = ap (λ (t : Bool). t || starts_with nat_eq source refs) is in
        let it : bytes_eq source name ≡ true = where_some (bytes_eq source name) (sym (ap (λ (t : Bool). is_some (where_true (cond t (bytes_eq source name) (is_expansion source name)))) full) ∙ fits) in
        one (starts_with nat_eq name) head (ap (starts_with nat_eq name) (sym same) ∙ same_starts source name it)
    of_head false other = of_refs (starts_with nat_eq source refs) refl other

side_asks : (source : Option (List ℕ)) (name : List ℕ) → is_some (source_id source) ≡ false → is_open_side source ≡ false → is_some (source_taken source name) ≡ true
    → list_any (starts_with nat_eq name) (side_prefixes source) ≡ true
side_asks None name no_id closed takes = absurd cc
side_asks (Some source) name no_id closed takes = source_asks source name no_id closed takes

negated : (a : Bool) → not a ≡ true → a ≡ false
negated true is = absurd cc
negated false is = refl

spec_asks : (spec : Spec) (name : List ℕ) → asks_for_all spec ≡ false → takes spec name ≡ true → list_any (starts_with nat_eq name) (spec_prefixes spec) ≡ true
spec_asks spec name closed takes_it =
    let whole = and_parts (not (is_exclusion spec.mode) && not (is_some (source_id spec.source))) (is_some (source_taken spec.source name)) takes_it in
    let first = and_parts (not (is_exclusion spec.mode)) (not (is_some (source_id spec.source))) whole.0 in
    let shut : is_open_side spec.source ≡ false = sym (ap (λ (t : Bool). t && is_open_side spec.source) first.0) ∙ closed in
    ap (λ (t : Bool). list_any (starts_with nat_eq name) (cond t [] (side_prefixes spec.source))) (negated (is_exclusion spec.mode) first.0)
    ∙ side_asks spec.source name (negated (is_some (source_id spec.source)) first.1) shut whole.1

-- an element that passes
pub passes : {X : Type 0} (p : X → Bool) (xs : List X) (x : X) → Contains xs x → p x ≡ true → list_any p xs ≡ true
passes p xs x there is = list_any_at p xs there.0 x there.1 (ap p there.2 ∙ is)

pub each_asked_for : (specs : List Spec) (spec : Spec) (name : List ℕ) → Contains specs spec → takes spec name ≡ true → IsAskedFor (prefixes_of specs) name
unfolding prefixes_of
each_asked_for specs spec name there takes_it = by_all (list_any asks_for_all specs) refl
  where
    by_all : (t : Bool) → list_any asks_for_all specs ≡ t → IsAskedFor (cond t [] (put_all [] (flat_map spec_prefixes specs))) name
    by_all true all = inl refl
    by_all false none =
        let closed : asks_for_all spec ≡ false = no_one (asks_for_all spec) refl in
        inr (all-members (starts_with nat_eq name) [] (flat_map spec_prefixes specs) ∙ given (starts_with nat_eq name) specs
        ∙ passes (λ s. list_any (starts_with nat_eq name) (spec_prefixes s)) specs spec there (spec_asks spec name closed takes_it))
      where
        no_one : (t : Bool) → asks_for_all spec ≡ t → asks_for_all spec ≡ false
        no_one true is = let e : true ≡ false = sym (passes asks_for_all specs spec there is) ∙ none in absurd cc
        no_one false is = is
