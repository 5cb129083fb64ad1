-- What a listing is asked for ascends, and is what the refspecs ask for.
use Rattle.std.proofs.Common.{◌≡◌, ℕ, Bool, true, false, cond, not, ◌&&◌, ◌||◌, List, [], ◌∷◌, refl, sym, ap, ◌∙◌}
use Rattle.std.specs.List.{list_any, list_all, flat_map}
use Rattle.std.specs.Ordering.{nat_cmp, is_lt, is_eq, ordering_reverse}
use Rattle.std.specs.Cmp.Lexicographic.{slice_cmp, nat_list_cmp_total, texts_ties}
use Rattle.std.specs.declared.cmp.Ordering.{Ordering}
use Rattle.std.specs.declared.cmp.Ordering.TheVariants.{Less, Equal, Greater}
use Rattle.std.specs.Str.{bytes_eq}
use Rattle.std.proofs.lemmas.Bool.{and_parts}
use Rattle.std.proofs.lemmas.List.Folds.{list_any-append}
use Rattle.std.proofs.lemmas.Slice.Eq.{bytes_eq-Decides}
use Rattle.fetch_specs.specs.Specs.{Spec}
use Rattle.fetch_specs.specs.Prefixes.{placed, put, put_all, spec_prefixes, asks_for_all, prefixes_of, ascends, IsListing}

abbrev before : List ℕ → List ℕ → Bool
before a b = is_lt (slice_cmp nat_cmp a b)

less : (o : Ordering) → is_lt o ≡ true → o ≡ Less
less Less is = refl
less Equal is = absurd cc
less Greater is = absurd cc

-- what stands before a text stands before all after it
before-all : (a b : List ℕ) (ts : List (List ℕ)) → before a b ≡ true → list_all (before b) ts ≡ true → list_all (before a) ts ≡ true
before-all a b [] is all = refl
before-all a b (t ∷ ts) is all =
    let both = and_parts (before b t) (list_all (before b) ts) all in
    let on : before a t ≡ true = ap is_lt (nat_list_cmp_total.trans a b t (less (slice_cmp nat_cmp a b) is) (less (slice_cmp nat_cmp b t) both.0)) in
    ap (λ (x : Bool). x && list_all (before a) ts) on ∙ before-all a b ts is both.1

put-all : (p : List ℕ → Bool) (text : List ℕ) (ts : List (List ℕ)) → p text ≡ true → list_all p ts ≡ true → list_all p (put text ts) ≡ true
put-all p text [] here all = ap (λ (x : Bool). x && true) here
put-all p text (t ∷ ts) here all = step (slice_cmp nat_cmp text t) (put-all p text ts here)
  where
    step : (o : Ordering) → (list_all p ts ≡ true → list_all p (put text ts) ≡ true) → list_all p (placed o text t ts (put text ts)) ≡ true
    step Less on = ap (λ (x : Bool). x && list_all p (t ∷ ts)) here ∙ all
    step Equal on = all
    step Greater on =
        let both = and_parts (p t) (list_all p ts) all in
        ap (λ (x : Bool). x && list_all p (put text ts)) both.0 ∙ on both.1

-- one text more
put-ascends : (text : List ℕ) (ts : List (List ℕ)) → ascends ts ≡ true → ascends (put text ts) ≡ true
put-ascends text [] up = refl
put-ascends text (t ∷ ts) up = step (slice_cmp nat_cmp text t) refl (put-ascends text ts)
  where
    step : (o : Ordering) → slice_cmp nat_cmp text t ≡ o → (ascends ts ≡ true → ascends (put text ts) ≡ true) → ascends (placed o text t ts (put text ts)) ≡ true
    step Less is on =
        let both = and_parts (list_all (before t) ts) (ascends ts) up in
        let first : before text t ≡ true = ap is_lt is in
        ap (λ (x : Bool). (x && list_all (before text) ts) && ascends (t ∷ ts)) first
        ∙ ap (λ (x : Bool). x && ascends (t ∷ ts)) (before-all text t ts first both.0) ∙ up
    step Equal is on = up
    step Greater is on =
        let both = and_parts (list_all (before t) ts) (ascends ts) up in
        let first : before t text ≡ true = ap is_lt (nat_list_cmp_total.antisymm t text ∙ ap ordering_reverse is) in
        ap (λ (x : Bool). x && ascends (put text ts)) (put-all (before t) text ts first both.0) ∙ on both.1

or-swap : (a b r : Bool) → (a || (b || r)) ≡ (b || (a || r))
or-swap true true r = refl
or-swap true false r = refl
or-swap false true r = refl
or-swap false false r = refl

or-again : (a r : Bool) → (a || r) ≡ (a || (a || r))
or-again true r = refl
or-again false r = refl

put-members : (p : List ℕ → Bool) (text : List ℕ) (ts : List (List ℕ)) → list_any p (put text ts) ≡ (p text || list_any p ts)
put-members p text [] = refl
put-members p text (t ∷ ts) = step (slice_cmp nat_cmp text t) refl (put-members p text ts)
  where
    step : (o : Ordering) → slice_cmp nat_cmp text t ≡ o → list_any p (put text ts) ≡ (p text || list_any p ts)
        → list_any p (placed o text t ts (put text ts)) ≡ (p text || (p t || list_any p ts))
    step Less is on = refl
    step Equal is on =
        let same : text ≡ t = (bytes_eq-Decides text t).0 (texts_ties text t ∙ ap is_eq is) in
        or-again (p t) (list_any p ts) ∙ ap (λ (x : List ℕ). p x || (p t || list_any p ts)) (sym same)
    step Greater is on = ap (λ (x : Bool). p t || x) on ∙ or-swap (p t) (p text) (list_any p ts)

all-ascend : (into ts : List (List ℕ)) → ascends into ≡ true → ascends (put_all into ts) ≡ true
all-ascend into [] up = up
all-ascend into (t ∷ ts) up = all-ascend (put t into) ts (put-ascends t into up)

or-across : (a b r : Bool) → ((a || b) || r) ≡ (b || (a || r))
or-across true true r = refl
or-across true false r = refl
or-across false true r = refl
or-across false false r = refl

pub all-members : (p : List ℕ → Bool) (into ts : List (List ℕ)) → list_any p (put_all into ts) ≡ (list_any p into || list_any p ts)
all-members p into [] = or-false (list_any p into)
  where
    or-false : (a : Bool) → a ≡ (a || false)
    or-false true = refl
    or-false false = refl
all-members p into (t ∷ ts) =
    all-members p (put t into) ts ∙ ap (λ (x : Bool). x || list_any p ts) (put-members p t into)
    ∙ or-across (p t) (list_any p into) (list_any p ts)

pub given : (p : List ℕ → Bool) (specs : List Spec) → list_any p (flat_map spec_prefixes specs) ≡ list_any (λ spec. list_any p (spec_prefixes spec)) specs
given p [] = refl
given p (spec ∷ specs) =
    list_any-append p (spec_prefixes spec) (flat_map spec_prefixes specs) ∙ ap (λ (x : Bool). list_any p (spec_prefixes spec) || x) (given p specs)

pub is_listing : (specs : List Spec) → IsListing specs (prefixes_of specs)
unfolding prefixes_of
is_listing specs = by_all (list_any asks_for_all specs) refl
  where
    by_all : (t : Bool) → list_any asks_for_all specs ≡ t → IsListing specs (cond t [] (put_all [] (flat_map spec_prefixes specs)))
    by_all true all = record {
      sorted = refl;
      members = λ q. ap (λ (t : Bool). not t && list_any (λ spec. list_any (bytes_eq q) (spec_prefixes spec)) specs) (sym all);
    }
    by_all false none = record {
      sorted = all-ascend [] (flat_map spec_prefixes specs) refl;
      members = λ q. all-members (bytes_eq q) [] (flat_map spec_prefixes specs) ∙ given (bytes_eq q) specs
          ∙ ap (λ (t : Bool). not t && list_any (λ spec. list_any (bytes_eq q) (spec_prefixes spec)) specs) (sym none);
    }
