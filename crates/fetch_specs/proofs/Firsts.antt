-- What is kept once, match by match.
use Rattle.std.proofs.Common.{◌≡◌, ◌↔◌, ℕ, Bool, true, false, not, ◌&&◌, ◌||◌, eqb, ltb, ◌⊎◌, List, [], ◌∷◌, ◌++◌, Option, Some, None, refl, sym, ap, subst, ◌∙◌, inl, inr, arith}
use Rattle.std.specs.List.{Contains, filter, list_any, list_all}
use Rattle.std.proofs.lemmas.Bool.{and_parts, and_from, le-ltb}
use Rattle.std.proofs.lemmas.List.Elements.{All-contains, All-filter, All-contains_itself, Contains-append_right, Contains-append_cases}
use Rattle.std.proofs.lemmas.Slice.Eq.{bytes_eq-Decides}
use Rattle.fetch_specs.specs.declared.found.Match.{Match}
use Rattle.fetch_specs.specs.Matches.{once, is_same, key_of}
use Rattle.fetch_specs.specs.Made.{comes_before, places_before, are_ordered, IsFirst}
use Rattle.fetch_specs.proofs.Members.{none_in, first_in, first_or_rest, in_rest, to_filter, passed}

pub from_filter : {X : Type 0} (p : X → Bool) (xs : List X) (x : X) → Contains (filter p xs) x → Contains xs x
from_filter p xs x there = All-contains (Contains xs) (filter p xs) x (All-filter p (Contains xs) xs (All-contains_itself xs)) there

pub record New {X : Type 0} (same : X → X → Bool) (xs : List X) (x : X) : Type 0 where
  pub front : List X
  pub back : List X
  pub whole : xs ≡ front ++ x ∷ back
  pub new : list_any (λ y. same y x) front ≡ false

negated : (t : Bool) → not t ≡ true → t ≡ false
negated true is = absurd cc
negated false is = refl

pub is_new : {X : Type 0} (same : X → X → Bool) (xs : List X) (x : X) → Contains (once same xs) x → New same xs x
is_new same [] x there = absurd (none_in x there)
is_new {X = X} same (a ∷ xs) x there = step (first_or_rest a (filter (λ y. not (same a y)) (once same xs)) x there) (is_new same xs x)
  where
    step : (a ≡ x) ⊎ Contains (filter (λ y. not (same a y)) (once same xs)) x → (Contains (once same xs) x → New same xs x) → New same (a ∷ xs) x
    step (inl is) on = record { front = []; back = xs; whole = ap (λ (y : X). y ∷ xs) is; new = refl }
    step (inr rest) on =
        let s = on (from_filter (λ y. not (same a y)) (once same xs) x rest) in
        let other : same a x ≡ false = negated (same a x) (passed (λ y. not (same a y)) (once same xs) x rest) in
        record { front = a ∷ s.front; back = s.back; whole = ap (λ (ys : List X). a ∷ ys) s.whole; new = ap (λ (t : Bool). t || list_any (λ y. same y x) s.front) other ∙ s.new }

or_none : (a b : Bool) → (a || b) ≡ false → (a ≡ false) × (b ≡ false)
or_none true b is = absurd cc
or_none false b is = (refl, is)

pub new_there : {X : Type 0} (same : X → X → Bool) (front : List X) (x : X) (back : List X) → list_any (λ y. same y x) front ≡ false → Contains (once same (front ++ x ∷ back)) x
new_there same [] x back new = first_in x _
new_there same (a ∷ front) x back new =
    let both = or_none (same a x) (list_any (λ y. same y x) front) new in
    in_rest a (filter (λ y. not (same a y)) (once same (front ++ x ∷ back))) x
    (to_filter (λ y. not (same a y)) (once same (front ++ x ∷ back)) x (new_there same front x back both.1) (ap not both.0))

-- the first element that passes
pub record Earliest {X : Type 0} (p : X → Bool) (xs : List X) : Type 0 where
  pub front : List X
  pub it : X
  pub back : List X
  pub whole : xs ≡ front ++ it ∷ back
  pub none : list_any p front ≡ false
  pub passes : p it ≡ true

pub earliest : {X : Type 0} (p : X → Bool) (xs : List X) → list_any p xs ≡ true → Earliest p xs
earliest p [] is = absurd cc
earliest {X = X} p (x ∷ xs) is = step (p x) refl is (earliest p xs)
  where
    step : (t : Bool) → p x ≡ t → (t || list_any p xs) ≡ true → (list_any p xs ≡ true → Earliest p xs) → Earliest p (x ∷ xs)
    step true here is on = record { front = []; it = x; back = xs; whole = refl; none = refl; passes = here }
    step false here is on =
        let e = on is in
        record { front = x ∷ e.front; it = e.it; back = e.back; whole = ap (λ (ys : List X). x ∷ ys) e.whole; none = ap (λ (t : Bool). t || list_any p e.front) here ∙ e.none; passes = e.passes }

pub all_at : {X : Type 0} (p : X → Bool) (xs : List X) (x : X) → list_all p xs ≡ true → Contains xs x → p x ≡ true
all_at p [] x all there = absurd (none_in x there)
all_at p (y ∷ ys) x all there =
    let both = and_parts (p y) (list_all p ys) all in
    step both.0 (first_or_rest y ys x there) (all_at p ys x both.1)
  where
    step : p y ≡ true → (y ≡ x) ⊎ Contains ys x → (Contains ys x → p x ≡ true) → p x ≡ true
    step here (inl same) on = ap p (sym same) ∙ here
    step here (inr rest) on = on rest

pub none_at : {X : Type 0} (p : X → Bool) (xs : List X) (x : X) → list_any p xs ≡ false → Contains xs x → p x ≡ false
none_at p [] x none there = absurd (none_in x there)
none_at p (y ∷ ys) x none there =
    let both = or_none (p y) (list_any p ys) none in
    step both.0 (first_or_rest y ys x there) (none_at p ys x both.1)
  where
    step : p y ≡ false → (y ≡ x) ⊎ Contains ys x → (Contains ys x → p x ≡ false) → p x ≡ false
    step here (inl same) on = ap p (sym same) ∙ here
    step here (inr rest) on = on rest

pub any_at : {X : Type 0} (p : X → Bool) (xs : List X) (x : X) → Contains xs x → p x ≡ true → list_any p xs ≡ true
any_at p xs x there is = step (list_any p xs) refl
  where
    step : (t : Bool) → list_any p xs ≡ t → list_any p xs ≡ true
    step true here = here
    step false here = let e : false ≡ true = sym (none_at p xs x here there) ∙ is in absurd cc

pub all_from : {X : Type 0} (p : X → Bool) (xs : List X) → ((x : X) → Contains xs x → p x ≡ true) → list_all p xs ≡ true
all_from p [] each = refl
all_from p (x ∷ xs) each = and_from (p x) (list_all p xs) (each x (first_in x xs)) (all_from p xs (λ y there. each y (in_rest x xs y there)))

-- what stands in front doesn't come after
ordered_front : (front : List Match) (x : Match) (back : List Match) (y : Match) → are_ordered (front ++ x ∷ back) ≡ true → Contains front y → comes_before x y ≡ false
ordered_front [] x back y up there = absurd (none_in y there)
ordered_front (a ∷ front) x back y up there =
    let both = and_parts (list_all (λ z. not (comes_before z a)) (front ++ x ∷ back)) (are_ordered (front ++ x ∷ back)) up in
    step both.0 (first_or_rest a front y there) (ordered_front front x back y both.1)
  where
    step : list_all (λ z. not (comes_before z a)) (front ++ x ∷ back) ≡ true → (a ≡ y) ⊎ Contains front y → (Contains front y → comes_before x y ≡ false) → comes_before x y ≡ false
    step all (inl same) on =
        ap (comes_before x) (sym same) ∙ negated (comes_before x a) (all_at (λ z. not (comes_before z a)) (front ++ x ∷ back) x all (Contains-append_right front (x ∷ back) x (first_in x back)))
    step all (inr rest) on = on rest

ordered_back : (front : List Match) (x : Match) (back : List Match) (y : Match) → are_ordered (front ++ x ∷ back) ≡ true → Contains back y → comes_before y x ≡ false
ordered_back [] x back y up there =
    negated (comes_before y x) (all_at (λ z. not (comes_before z x)) back y (and_parts (list_all (λ z. not (comes_before z x)) back) (are_ordered back) up).0 there)
ordered_back (a ∷ front) x back y up there =
    ordered_back front x back y (and_parts (list_all (λ z. not (comes_before z a)) (front ++ x ∷ back)) (are_ordered (front ++ x ∷ back)) up).1 there

itself : (pairs : Bool) (m : Match) → is_same pairs m m ≡ true
itself pairs m = and_from _ _ ((bytes_eq-Decides (key_of pairs m).0 (key_of pairs m).0).1 refl) ((bytes_eq-Decides (key_of pairs m).1 (key_of pairs m).1).1 refl)

not_less : (n : ℕ) → ltb n n ≡ false
not_less n = le-ltb n n (omega arith)

and_none : (t : Bool) → (t && false) ≡ false
and_none true = refl
and_none false = refl

pub not_before : (i : ℕ) (o : Option ℕ) → places_before i o i o ≡ false
not_before i None = not_less i
not_before i (Some j) = ap (λ (t : Bool). t || (eqb i i && ltb j j)) (not_less i) ∙ ap (λ (t : Bool). eqb i i && t) (not_less j) ∙ and_none (eqb i i)

-- of a list in order, with one match a place and source, the first of each is kept
pub first_of_each : (made : Match → Type 0) (pairs : Bool) (xs : List Match) → ((m : Match) → Contains xs m ↔ made m) → are_ordered xs ≡ true
    → ((a b : Match) → made a → made b → comes_before a b ≡ false → comes_before b a ≡ false → is_same pairs a b ≡ true → a ≡ b)
    → (m : Match) → Contains (once (is_same pairs) xs) m ↔ IsFirst made pairs m
first_of_each made pairs xs members up alone m = (there, back_again)
  where
    in_whole : (front : List Match) (x : Match) (back : List Match) → xs ≡ front ++ x ∷ back → Contains xs x
    in_whole front x back is = subst (λ (ys : List Match). Contains ys x) (sym is) (Contains-append_right front (x ∷ back) x (first_in x back))

    there : Contains (once (is_same pairs) xs) m → IsFirst made pairs m
    there kept =
        let s = is_new (is_same pairs) xs m kept in
        ((members m).0 (in_whole s.front m s.back s.whole), λ other is before. step s other before (Contains-append_cases s.front (m ∷ s.back) other (subst (λ (ys : List Match). Contains ys other) s.whole ((members other).1 is))))
      where
        behind : (s : New (is_same pairs) xs m) (other : Match) → comes_before other m ≡ true → (m ≡ other) ⊎ Contains s.back other → ⊥
        behind s other before (inl same) =
            let e : true ≡ false = sym before ∙ ap (λ (x : Match). comes_before x m) (sym same) ∙ not_before m.spec_index m.item_index in cc
        behind s other before (inr rest) =
            let e : true ≡ false = sym before ∙ ordered_back s.front m s.back other (ap are_ordered (sym s.whole) ∙ up) rest in cc

        step : (s : New (is_same pairs) xs m) (other : Match) → comes_before other m ≡ true → Contains s.front other ⊎ Contains (m ∷ s.back) other → is_same pairs other m ≡ false
        step s other before (inl front) = none_at (λ y. is_same pairs y m) s.front other s.new front
        step s other before (inr rest) = absurd (behind s other before (first_or_rest m s.back other rest))

    back_again : IsFirst made pairs m → Contains (once (is_same pairs) xs) m
    back_again first =
        let e = earliest (λ y. is_same pairs y m) xs (any_at (λ y. is_same pairs y m) xs m ((members m).1 first.0) (itself pairs m)) in
        let it_made = (members e.it).0 (in_whole e.front e.it e.back e.whole) in
        let is : e.it ≡ m = by_before e it_made (comes_before e.it m) refl in
        subst (λ (x : Match). Contains (once (is_same pairs) xs) x) is
        (subst (λ (ys : List Match). Contains (once (is_same pairs) ys) e.it) (sym e.whole)
        (new_there (is_same pairs) e.front e.it e.back (subst (λ (x : Match). list_any (λ y. is_same pairs y x) e.front ≡ false) (sym is) e.none)))
      where
        by_place : (e : Earliest (λ y. is_same pairs y m) xs) → made e.it → comes_before e.it m ≡ false → Contains e.front m ⊎ Contains (e.it ∷ e.back) m → e.it ≡ m
        by_place e it_made before (inl front) =
            let wrong : true ≡ false = sym (itself pairs m) ∙ none_at (λ y. is_same pairs y m) e.front m e.none front in absurd cc
        by_place e it_made before (inr rest) = step (first_or_rest e.it e.back m rest)
          where
            step : (e.it ≡ m) ⊎ Contains e.back m → e.it ≡ m
            step (inl same) = same
            step (inr behind) = alone e.it m it_made first.0 before (ordered_back e.front e.it e.back m (ap are_ordered (sym e.whole) ∙ up) behind) e.passes

        by_before : (e : Earliest (λ y. is_same pairs y m) xs) → made e.it → (t : Bool) → comes_before e.it m ≡ t → e.it ≡ m
        by_before e it_made true before =
            let wrong : true ≡ false = sym e.passes ∙ first.1 e.it it_made before in absurd cc
        by_before e it_made false before =
            by_place e it_made before (Contains-append_cases e.front (e.it ∷ e.back) m (subst (λ (ys : List Match). Contains ys m) e.whole ((members m).1 first.0)))
