-- What a source with a star asks for.
use Rattle.std.proofs.Common.{◌≡◌, ℕ, suc, ◌+◌, Bool, true, false, cond, not, ◌&&◌, ◌||◌, eqb, ◌⊎◌, List, [], ◌∷◌, ◌++◌, length, take, drop, refl, sym, ap, ◌∙◌, inl, inr, arith, append_assoc}
use Rattle.std.specs.Prelude.{nat_eq, is_some}
use Rattle.std.specs.List.{list_any, starts_with, position_or_len}
use Rattle.std.specs.Str.{bytes_eq}
use Rattle.std.proofs.lemmas.Bool.{eqb-true}
use Rattle.std.proofs.lemmas.Bool.Decides.{Decides-eqb}
use Rattle.std.proofs.lemmas.List.Folds.{list_any-append}
use Rattle.std.proofs.lemmas.Slice.Eq.{bytes_eq-Decides, starts_is}
use Rattle.fetch_specs.specs.Categories.{refs}
use Rattle.fetch_specs.specs.Parses.{head, id_named}
use Rattle.fetch_specs.specs.Matches.{has_star, is_exclusion}
use Rattle.fetch_specs.specs.Specs.{Spec}
use Rattle.fetch_specs.specs.Prefixes.{second_slash, refs_prefix, expansions, source_prefixes, side_prefixes, spec_prefixes, is_open_side, asks_for_all, IsPlainFront}

record Cut (r front : List ℕ) : Type 0 where
  name : List ℕ
  rest : List ℕ
  whole : r ≡ name ++ 47 ∷ rest
  front_is : front ≡ name ++ 47 ∷ []
  no_slash : list_any (λ b. eqb b 47) name ≡ false

-- a text up to and with its slash
cut : (r : List ℕ) → (take (position_or_len (λ b. eqb b 47) r + 1) r ≡ r) ⊎ Cut r (take (position_or_len (λ b. eqb b 47) r + 1) r)
cut [] = inl refl
cut (b ∷ r) = step (eqb b 47) refl (cut r)
  where
    longer : (n : ℕ) → take ((1 + n) + 1) (b ∷ r) ≡ b ∷ take (n + 1) r
    longer n = let e : (1 + n) + 1 ≡ suc (n + 1) = omega arith in ap (λ (k : ℕ). take k (b ∷ r)) e

    step : (t : Bool) → eqb b 47 ≡ t → (take (position_or_len (λ b. eqb b 47) r + 1) r ≡ r) ⊎ Cut r (take (position_or_len (λ b. eqb b 47) r + 1) r)
        → (take (cond (not t) (1 + position_or_len (λ b. eqb b 47) r) 0 + 1) (b ∷ r) ≡ b ∷ r) ⊎ Cut (b ∷ r) (take (cond (not t) (1 + position_or_len (λ b. eqb b 47) r) 0 + 1) (b ∷ r))
    step true is on =
        let e : b ≡ 47 = eqb-true b 47 is in
        inr (record { name = []; rest = r; whole = ap (λ (x : ℕ). x ∷ r) e; front_is = ap (λ (x : ℕ). x ∷ []) e; no_slash = refl })
    step false is (inl e) = inl (longer (position_or_len (λ b. eqb b 47) r) ∙ ap (λ (xs : List ℕ). b ∷ xs) e)
    step false is (inr w) = inr (record {
      name = b ∷ w.name;
      rest = w.rest;
      whole = ap (λ (xs : List ℕ). b ∷ xs) w.whole;
      front_is = longer (position_or_len (λ b. eqb b 47) r) ∙ ap (λ (xs : List ℕ). b ∷ xs) w.front_is;
      no_slash = ap (λ (t : Bool). t || list_any (λ x. eqb x 47) w.name) is ∙ w.no_slash;
    })

prefix_is : (r : List ℕ) → take (second_slash (refs ++ r)) (refs ++ r) ≡ refs ++ take (position_or_len (λ b. eqb b 47) r + 1) r
unfolding refs
prefix_is r =
    let n = position_or_len (λ b. eqb b 47) r in
    let e : (5 + n) + 1 ≡ suc (suc (suc (suc (suc (n + 1))))) = omega arith in
    ap (λ (k : ℕ). take k (refs ++ r)) e

any-none : (p : List ℕ → Bool) (t : Bool) (xs : List (List ℕ)) → list_any p (cond t [] xs) ≡ true → list_any p xs ≡ true
any-none p true xs is = absurd cc
any-none p false xs is = is

no_star_in_head : has_star head ≡ false
unfolding head
no_star_in_head = refl

or_right : (a b c : Bool) → (a || (b || c)) ≡ false → b ≡ false
or_right true b c is = absurd cc
or_right false true c is = absurd cc
or_right false false c is = refl

-- the one text that is asked for
record One (text prefix : List ℕ) : Type 0 where
  plain : has_star prefix ≡ false
  same : text ≡ prefix

one : (text prefix : List ℕ) (t : Bool) → has_star prefix ≡ t → list_any (bytes_eq text) (cond t [] (prefix ∷ [])) ≡ true → One text prefix
one text prefix true is any = absurd cc
one text prefix false is any = record { plain = is; same = (bytes_eq-Decides text prefix).0 (or_false (bytes_eq text prefix) any) }
  where
    or_false : (a : Bool) → (a || false) ≡ true → a ≡ true
    or_false true is = refl
    or_false false is = absurd cc

under_refs : (source r text : List ℕ) → source ≡ refs ++ r → has_star source ≡ true → list_any (bytes_eq text) (refs_prefix source) ≡ true → IsPlainFront source text
under_refs source r text whole star any = step (cut r)
  where
    split : (take (position_or_len (λ b. eqb b 47) r + 1) r ≡ r) ⊎ Cut r (take (position_or_len (λ b. eqb b 47) r + 1) r)
        → has_star (take (second_slash (refs ++ r)) (refs ++ r)) ≡ false → text ≡ take (second_slash (refs ++ r)) (refs ++ r) → IsPlainFront source text
    split (inl all) plain same =
        let e : true ≡ false = sym star ∙ ap has_star (whole ∙ ap (λ (xs : List ℕ). refs ++ xs) (sym all) ∙ sym (prefix_is r)) ∙ plain in
        absurd cc
    split (inr w) plain same =
        let is : text ≡ refs ++ (w.name ++ 47 ∷ []) = same ∙ prefix_is r ∙ ap (λ (xs : List ℕ). refs ++ xs) w.front_is in
        let free : has_star (refs ++ (w.name ++ 47 ∷ [])) ≡ false = ap has_star (sym (prefix_is r ∙ ap (λ (xs : List ℕ). refs ++ xs) w.front_is)) ∙ plain in
        record {
          name = w.name;
          rest = w.rest;
          front = is;
          begins = whole ∙ ap (λ (xs : List ℕ). refs ++ xs) (w.whole ∙ sym (append_assoc w.name (47 ∷ []) w.rest))
              ∙ sym (append_assoc refs (w.name ++ 47 ∷ []) w.rest) ∙ ap (λ (xs : List ℕ). xs ++ w.rest) (sym is);
          no_star = or_right (has_star refs) (has_star w.name) (has_star (47 ∷ []))
              (sym (list_any-append (λ b. eqb b 42) refs (w.name ++ 47 ∷ []) ∙ ap (λ (t : Bool). has_star refs || t) (list_any-append (λ b. eqb b 42) w.name (47 ∷ []))) ∙ free);
          no_slash = w.no_slash;
        }

    step : (take (position_or_len (λ b. eqb b 47) r + 1) r ≡ r) ⊎ Cut r (take (position_or_len (λ b. eqb b 47) r + 1) r) → IsPlainFront source text
    step cases =
        let prefix = take (second_slash (refs ++ r)) (refs ++ r) in
        let asked : list_any (bytes_eq text) (refs_prefix (refs ++ r)) ≡ true = ap (λ (s : List ℕ). list_any (bytes_eq text) (refs_prefix s)) (sym whole) ∙ any in
        let w = one text prefix (has_star prefix) refl asked in
        split cases w.plain w.same

pub starred : (source text : List ℕ) → has_star source ≡ true → list_any (bytes_eq text) (source_prefixes source) ≡ true → IsPlainFront source text
starred source text star any =
    of_head (bytes_eq source head) refl
    (any-none (bytes_eq text) (is_some (id_named source)) (cond (bytes_eq source head) (head ∷ []) (cond (starts_with nat_eq source refs) (refs_prefix source) (cond (has_star source) [] (expansions source)))) any)
  where
    of_refs : (t : Bool) → starts_with nat_eq source refs ≡ t → list_any (bytes_eq text) (cond t (refs_prefix source) (cond (has_star source) [] (expansions source))) ≡ true → IsPlainFront source text
    of_refs true on any = under_refs source (drop (length refs) source) text ((starts_is Decides-eqb source refs (starts_with nat_eq source refs) refl).0 on) star any
    of_refs false off any =
        let e : false ≡ true = sym (ap (λ (t : Bool). list_any (bytes_eq text) (cond t [] (expansions source))) star) ∙ any in
        absurd cc

    of_head : (t : Bool) → bytes_eq source head ≡ t
        → list_any (bytes_eq text) (cond t (head ∷ []) (cond (starts_with nat_eq source refs) (refs_prefix source) (cond (has_star source) [] (expansions source)))) ≡ true → IsPlainFront source text
    of_head true is any =
        let e : true ≡ false = sym star ∙ ap has_star ((bytes_eq-Decides source head).0 is) ∙ no_star_in_head in
        absurd cc
    of_head false is any = of_refs (starts_with nat_eq source refs) refl any

pub of_id : (source : List ℕ) → is_some (id_named source) ≡ true → source_prefixes source ≡ []
of_id source is =
    ap (λ (t : Bool). cond t [] (cond (bytes_eq source head) (head ∷ []) (cond (starts_with nat_eq source refs) (refs_prefix source) (cond (has_star source) [] (expansions source))))) is

pub of_exclusion : (spec : Spec) → is_exclusion spec.mode ≡ true → (spec_prefixes spec ≡ []) × (asks_for_all spec ≡ false)
of_exclusion spec is = (ap (λ (t : Bool). cond t [] (side_prefixes spec.source)) is, ap (λ (t : Bool). not t && is_open_side spec.source) is)
