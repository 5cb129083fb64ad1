-- Names of references have no space, and each is listed once.
use Rattle.std.proofs.Common.{◌≡◌, ℕ, Bool, true, false, cond, not, ◌&&◌, eqb, T, List, [], ◌∷◌, map, filter, Option, Some, None, Ordering, Less, Equal, Greater, refl, sym, ap, ◌∙◌, subst}
use Rattle.std.specs.Prelude.{◌≢◌}
use Rattle.std.specs.Cmp.Lexicographic.{texts_ties}
use Rattle.std.specs.FinMap as finmap
use Rattle.std.specs.FinMap.Entries.{below_all}
use Rattle.std.specs.List.{AllByRecursion, IsDistinct, cons_option, filter_map, list_all, onto_first, slice_split}
use Rattle.std.specs.Ordering.{is_eq, is_lt}
use Rattle.std.specs.Str.{bytes_eq}
use Rattle.std.proofs.lemmas.Bool.{and_parts, eqb-true}
use Rattle.fetch_refs.specs.Names.{Names, name_cmp}
use Rattle.fetch_refs.specs.declared.target.Target.{Target}
use Rattle.fetch_specs.specs.Names.{components, is_component, is_full_name, is_name, lock, may_stand}
use Rattle.fetch_base.specs.Lines.{IsWithout}
use Rattle.fetch_replies.specs.NamesTold.{AreNamedOnce}
use Rattle.fetch_lines.specs.References.{name_in}
use Rattle.fetch_lines.specs.ServerLines.{IsWord}
use Rattle.fetch_lines.specs.declared.listings.reference.Ref.{Ref}

-- ---- a full name has no space

abbrev is_else : ℕ → Bool
is_else b = not (eqb b 32)

both : (t u : Bool) → t ≡ true → u ≡ true → (t && u) ≡ true
both true true a b = refl
both true false a b = b
both false u a b = a

-- what may stand in a name is above 32
stands_else : (b : ℕ) → may_stand false b ≡ true → is_else b ≡ true
stands_else b stands = by_test (eqb b 32) refl
  where
    by_test : (t : Bool) → eqb b 32 ≡ t → not t ≡ true
    by_test false is = refl
    by_test true is = absurd (let h : may_stand false 32 ≡ true = subst (λ (x : ℕ). may_stand false x ≡ true) (eqb-true b 32 is) stands in cc)

all_else : (c : List ℕ) → list_all (may_stand false) c ≡ true → list_all is_else c ≡ true
all_else [] all = refl
all_else (b ∷ c) all =
    let t = and_parts (may_stand false b) (list_all (may_stand false) c) all in
    both (is_else b) (list_all is_else c) (stands_else b t.0) (all_else c t.1)

first_of_six : (t u v w x y : Bool) → (t && u && v && w && x && y) ≡ true → t ≡ true
first_of_six true u v w x y is = refl
first_of_six false u v w x y is = absurd cc

first_of_three : (t u v : Bool) → (t && u && v) ≡ true → t ≡ true
first_of_three true u v is = refl
first_of_three false u v is = absurd cc

in_component : (c : List ℕ) → is_component false c ≡ true → list_all is_else c ≡ true
in_component c is = all_else c (first_of_six (list_all (may_stand false) c) _ _ _ _ _ is)

in_components : (parts : List (List ℕ)) → list_all (is_component false) parts ≡ true → list_all (list_all is_else) parts ≡ true
in_components [] all = refl
in_components (c ∷ parts) all =
    let t = and_parts (is_component false c) (list_all (is_component false) parts) all in
    both (list_all is_else c) (list_all (list_all is_else) parts) (in_component c t.0) (in_components parts t.1)

-- a byte put onto the first part
first_parts : (x : ℕ) (parts : List (List ℕ)) → list_all (list_all is_else) (onto_first x parts) ≡ true → (is_else x ≡ true) × (list_all (list_all is_else) parts ≡ true)
first_parts x [] all = ((and_parts (is_else x) true (and_parts (is_else x && true) true all).0).0, refl)
first_parts x (c ∷ parts) all =
    let t = and_parts (is_else x && list_all is_else c) (list_all (list_all is_else) parts) all in
    let u = and_parts (is_else x) (list_all is_else c) t.0 in
    (u.0, both (list_all is_else c) (list_all (list_all is_else) parts) u.1 t.1)

whole : (text : List ℕ) → list_all (list_all is_else) (slice_split (λ b. eqb b 47) text) ≡ true → list_all is_else text ≡ true
whole [] all = refl
whole (x ∷ text) all = step (eqb x 47) refl all (whole text)
  where
    step : (t : Bool) → eqb x 47 ≡ t → list_all (list_all is_else) (cond t ([] ∷ slice_split (λ b. eqb b 47) text) (onto_first x (slice_split (λ b. eqb b 47) text))) ≡ true
        → (list_all (list_all is_else) (slice_split (λ b. eqb b 47) text) ≡ true → list_all is_else text ≡ true) → (is_else x && list_all is_else text) ≡ true
    step true is h rest = both (is_else x) (list_all is_else text) (ap is_else (eqb-true x 47 is)) (rest h)
    step false is h rest =
        let p = first_parts x (slice_split (λ b. eqb b 47) text) h in
        both (is_else x) (list_all is_else text) p.0 (rest p.1)

spaceless : (name : List ℕ) → is_full_name name ≡ true → IsWithout 32 name
unfolding is_full_name is_name
spaceless name is =
    let named = and_parts (is_name false name) _ is in
    whole name (in_components (components name) (first_of_three (list_all (is_component false) (components name)) _ _ named.0))

unlike : false ≡ true → ⊥
unlike e = absurd cc

some_bytes : (name : List ℕ) → is_full_name name ≡ true → name ≢ []
unfolding is_full_name is_name lock
some_bytes [] full = λ e. unlike full
some_bytes (b ∷ bs) full = λ e. absurd cc

-- a full name is a word of a line
pub full_word : (name : List ℕ) → is_full_name name ≡ true → IsWord name
full_word name full = record { some = some_bytes name full; whole = spaceless name full }

-- ---- each name once

-- each name is unlike those after it
abbrev pub AreApart : List (List ℕ × Target) → Type 0
AreApart [] = Unit {0}
AreApart (e ∷ es) = AllByRecursion (λ (x : List ℕ × Target). bytes_eq e.0 x.0 ≡ false) es × AreApart es

halves : (a b : Bool) → T (a && b) → T a × T b
halves true b h = (tt, h)
halves false b h = absurd h

less : (o : Ordering) → T (is_lt o) → is_eq o ≡ false
less Less h = refl
less Equal h = absurd h
less Greater h = absurd h

above : (k : List ℕ) (es : List (List ℕ × Target)) → T (below_all name_cmp k es) → AllByRecursion (λ (x : List ℕ × Target). bytes_eq k x.0 ≡ false) es
above k [] h = tt
above k (e ∷ es) h = let b = halves (is_lt (name_cmp k e.0)) (below_all name_cmp k es) h in (texts_ties k e.0 ∙ less (name_cmp k e.0) b.0, above k es b.1)

rising : (es : List (List ℕ × Target)) → T (finmap.is_sorted name_cmp es) → AreApart es
rising [] h = tt
rising (e ∷ es) h = let b = halves (below_all name_cmp e.0 es) (finmap.is_sorted name_cmp es) h in (above e.0 es b.0, rising es b.1)

-- the names of a map
pub names_apart : (names : Names) → AreApart (finmap.entries names)
names_apart names = rising (finmap.entries names) (finmap.entries_sorted names)

all_kept : (P : List ℕ × Target → Type 0) (p : List ℕ × Target → Bool) (es : List (List ℕ × Target)) → AllByRecursion P es → AllByRecursion P (filter p es)
all_kept P p [] all = tt
all_kept P p (e ∷ es) all = by_test (p e) (all_kept P p es all.1)
  where
    by_test : (t : Bool) → AllByRecursion P (filter p es) → AllByRecursion P (cond t (e ∷ filter p es) (filter p es))
    by_test true rest = (all.0, rest)
    by_test false rest = rest

-- and of some of them
pub some_apart : (p : List ℕ × Target → Bool) (es : List (List ℕ × Target)) → AreApart es → AreApart (filter p es)
some_apart p [] apart = tt
some_apart p (e ∷ es) apart = by_test (p e) (some_apart p es apart.1)
  where
    by_test : (t : Bool) → AreApart (filter p es) → AreApart (cond t (e ∷ filter p es) (filter p es))
    by_test true rest = (all_kept (λ x. bytes_eq e.0 x.0 ≡ false) p es apart.0, rest)
    by_test false rest = rest

-- a reference that is made of an entry has its name
abbrev pub Keeps : (List ℕ × Target → Option Ref) → Type 0
Keeps f = (e : List ℕ × Target) (r : Ref) → f e ≡ Some r → name_in r ≡ e.0

others_by : (f : List ℕ × Target → Option Ref) (name : List ℕ) (e : List ℕ × Target) (es : List (List ℕ × Target)) (o : Option Ref) → Keeps f → f e ≡ o → bytes_eq name e.0 ≡ false
    → AllByRecursion (λ y. bytes_eq name y ≡ false) (map name_in (filter_map f es)) → AllByRecursion (λ y. bytes_eq name y ≡ false) (map name_in (cons_option o (filter_map f es)))
others_by f name e es None keeps is apart rest = rest
others_by f name e es (Some r) keeps is apart rest = (ap (bytes_eq name) (keeps e r is) ∙ apart, rest)

others : (f : List ℕ × Target → Option Ref) (name : List ℕ) (es : List (List ℕ × Target)) → Keeps f → AllByRecursion (λ (x : List ℕ × Target). bytes_eq name x.0 ≡ false) es
    → AllByRecursion (λ y. bytes_eq name y ≡ false) (map name_in (filter_map f es))
others f name [] keeps all = tt
others f name (e ∷ es) keeps all = others_by f name e es (f e) keeps refl all.0 (others f name es keeps all.1)

once_by : (f : List ℕ × Target → Option Ref) (e : List ℕ × Target) (es : List (List ℕ × Target)) (o : Option Ref) → Keeps f → f e ≡ o → AllByRecursion (λ (x : List ℕ × Target). bytes_eq e.0 x.0 ≡ false) es
    → AreNamedOnce (filter_map f es) → AreNamedOnce (cons_option o (filter_map f es))
unfolding IsDistinct
once_by f e es None keeps is apart rest = rest
once_by f e es (Some r) keeps is apart rest = (subst (λ n. AllByRecursion (λ y. bytes_eq n y ≡ false) (map name_in (filter_map f es))) (sym (keeps e r is)) (others f e.0 es keeps apart), rest)

nothing_once : AreNamedOnce []
unfolding IsDistinct
nothing_once = tt

-- what is made of entries with names of their own has names of its own
pub named_once : (f : List ℕ × Target → Option Ref) (es : List (List ℕ × Target)) → Keeps f → AreApart es → AreNamedOnce (filter_map f es)
named_once f [] keeps apart = nothing_once
named_once f (e ∷ es) keeps apart = once_by f e es (f e) keeps refl apart.0 (named_once f es keeps apart.1)
