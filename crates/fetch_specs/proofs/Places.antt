-- The mappings and the sources, in their order.
use Rattle.std.proofs.Common.{◌≡◌, ◌↔◌, ℕ, zero, suc, ◌+◌, ◌<◌, Bool, true, false, cond, not, ◌&&◌, ◌||◌, eqb, ltb, ◌⊎◌, List, [], ◌∷◌, ◌++◌, map, Option, Some, None, refl, sym, ap, subst, ◌∙◌, inl, inr, arith}
use Rattle.std.specs.Prelude.{is_some, option_and_then, option_map, slice_get}
use Rattle.std.specs.List.{Contains, filter, list_all}
use Rattle.std.specs.Str.{bytes_eq}
use Rattle.std.proofs.lemmas.Bool.{and_parts, and_from, le-ltb, ltb-false, eqb-true}
use Rattle.std.proofs.lemmas.Bool.Decides.{Decides-eqb}
use Rattle.std.proofs.lemmas.List.Elements.{Contains-append_left, Contains-append_right, Contains-append_cases}
use Rattle.std.proofs.lemmas.List.Folds.{list_all-append}
use Rattle.std.proofs.lemmas.Slice.Eq.{bytes_eq-Decides}
use Rattle.fetch_base.specs.declared.id.Kind.{Kind}
use Rattle.fetch_base.specs.declared.id.ObjectId.{ObjectId}
use Rattle.fetch_specs.specs.declared.found.SourceRef.TheVariants as sources
use Rattle.fetch_specs.specs.declared.found.Match.{Match}
use Rattle.fetch_specs.specs.Specs.{Spec}
use Rattle.fetch_specs.specs.Matches.{once, is_same, key_of, found, numbered, id_mapping, id_match, name_mapping, name_match, name_matches, leading, sources_leading, source_matches, source_id, source_taken, is_exclusion, is_excluded, is_of, ids_from, names_from, specs_from, mappings_of, sources_of, expanded}
use Rattle.fetch_specs.specs.Made.{mapping_at, IsMapping, IsLead, comes_before, places_before, are_ordered, IsFirst}
use Rattle.fetch_specs.proofs.Members.{none_in, first_in, only, first_or_rest, in_rest}
use Rattle.fetch_specs.proofs.Firsts.{first_of_each, all_from, not_before}

-- where a match of a numbered list comes from
record Numbered {X : Type 0} (f : ℕ → X → List Match) (i : ℕ) (xs : List X) (m : Match) : Type 0 where
  at : ℕ
  it : X
  is : slice_get xs at ≡ Some it
  gives : Contains (f (i + at) it) m

in_numbered : {X : Type 0} (f : ℕ → X → List Match) (i : ℕ) (xs : List X) (m : Match) → Contains (numbered f i xs) m → Numbered f i xs m
in_numbered f i [] m there = absurd (none_in m there)
in_numbered {X = X} f i (x ∷ xs) m there = step (Contains-append_cases (f i x) (numbered f (i + 1) xs) m there) (in_numbered f (i + 1) xs m)
  where
    step : Contains (f i x) m ⊎ Contains (numbered f (i + 1) xs) m → (Contains (numbered f (i + 1) xs) m → Numbered f (i + 1) xs m) → Numbered f i (x ∷ xs) m
    step (inl here) on =
        let e : i ≡ i + 0 = omega arith in
        record { at = 0; it = x; is = refl; gives = subst (λ (k : ℕ). Contains (f k x) m) e here }
    step (inr rest) on =
        let n = on rest in
        let e : (i + 1) + n.at ≡ i + suc n.at = omega arith in
        record { at = suc n.at; it = n.it; is = n.is; gives = subst (λ (k : ℕ). Contains (f k n.it) m) e n.gives }

to_numbered : {X : Type 0} (f : ℕ → X → List Match) (i : ℕ) (xs : List X) (m : Match) (k : ℕ) (x : X) → slice_get xs k ≡ Some x → Contains (f (i + k) x) m → Contains (numbered f i xs) m
to_numbered f i [] m k x is gives = absurd cc
to_numbered f i (y ∷ xs) m zero x is gives =
    let same : y ≡ x = cc in
    let e : i + 0 ≡ i = omega arith in
    Contains-append_left (f i y) (numbered f (i + 1) xs) m (subst (λ z. Contains (f i z) m) (sym same) (subst (λ (n : ℕ). Contains (f n x) m) e gives))
to_numbered f i (y ∷ xs) m (suc k) x is gives =
    let e : i + suc k ≡ (i + 1) + k = omega arith in
    Contains-append_right (f i y) (numbered f (i + 1) xs) m (to_numbered f (i + 1) xs m k x is (subst (λ (n : ℕ). Contains (f n x) m) e gives))

-- lists in order, one after the other
ordered_append : (xs ys : List Match) → are_ordered xs ≡ true → are_ordered ys ≡ true → ((x y : Match) → Contains xs x → Contains ys y → comes_before y x ≡ false) → are_ordered (xs ++ ys) ≡ true
ordered_append [] ys up more behind = more
ordered_append (x ∷ xs) ys up more behind =
    let both = and_parts (list_all (λ z. not (comes_before z x)) xs) (are_ordered xs) up in
    and_from _ _
    (list_all-append (λ z. not (comes_before z x)) xs ys
    ∙ and_from _ _ both.0 (all_from (λ z. not (comes_before z x)) ys (λ y there. ap not (behind x y (first_in x xs) there))))
    (ordered_append xs ys both.1 more (λ z y left right. behind z y (in_rest x xs z left) right))

ordered_numbered : {X : Type 0} (f : ℕ → X → List Match) → ((i : ℕ) (x : X) → are_ordered (f i x) ≡ true)
    → ((i j : ℕ) (x y : X) (a b : Match) → i < j → Contains (f i x) a → Contains (f j y) b → comes_before b a ≡ false)
    → (i : ℕ) (xs : List X) → are_ordered (numbered f i xs) ≡ true
ordered_numbered f up behind i [] = refl
ordered_numbered f up behind i (x ∷ xs) =
    ordered_append (f i x) (numbered f (i + 1) xs) (up i x) (ordered_numbered f up behind (i + 1) xs)
    (λ a b left right. let n = in_numbered f (i + 1) xs b right in behind i ((i + 1) + n.at) x n.it a b (omega arith) left n.gives)

-- what stands at a place
record IsAt (i : ℕ) (o : Option ℕ) (m : Match) : Type 0 where
  spec : m.spec_index ≡ i
  item : m.item_index ≡ o

one_found : (o : Option Match) (m : Match) → Contains (found o) m → o ≡ Some m
one_found None m there = absurd (none_in m there)
one_found (Some n) m there = ap Some (only n m there)

found_one : (o : Option Match) (m : Match) → o ≡ Some m → Contains (found o) m
found_one o m is = subst (λ (x : Option Match). Contains (found x) m) (sym is) (first_in m [])

ordered_found : (o : Option Match) → are_ordered (found o) ≡ true
ordered_found None = refl
ordered_found (Some m) = refl

id_at : (kind : Kind) (i : ℕ) (spec : Spec) (o : Option ObjectId) (m : Match) → id_mapping kind i spec o ≡ Some m → IsAt i None m
id_at kind i spec None m is = absurd cc
id_at kind i spec (Some id) m is = step (is_exclusion spec.mode || not (is_of kind id)) is
  where
    step : (t : Bool) → cond t None (Some (record { lhs = sources.ObjectId id; rhs = option_map (expanded []) spec.destination; item_index = None; spec_index = i })) ≡ Some m → IsAt i None m
    step true is = absurd cc
    step false is =
        let e : ◌≡◌ {A = Match} (record { lhs = sources.ObjectId id; rhs = option_map (expanded []) spec.destination; item_index = None; spec_index = i }) m = cc in
        subst (IsAt i None) e (record { spec = refl; item = refl })

name_at : (specs : List Spec) (i : ℕ) (spec : Spec) (j : ℕ) (name : List ℕ) (o : Option (List ℕ)) (m : Match) → name_mapping specs i spec j name o ≡ Some m → IsAt i (Some j) m
name_at specs i spec j name None m is = absurd cc
name_at specs i spec j name (Some middle) m is = step (is_exclusion spec.mode || is_some (source_id spec.source) || is_excluded specs name) is
  where
    step : (t : Bool) → cond t None (Some (record { lhs = sources.FullName name; rhs = option_map (expanded middle) spec.destination; item_index = Some j; spec_index = i })) ≡ Some m → IsAt i (Some j) m
    step true is = absurd cc
    step false is =
        let e : ◌≡◌ {A = Match} (record { lhs = sources.FullName name; rhs = option_map (expanded middle) spec.destination; item_index = Some j; spec_index = i }) m = cc in
        subst (IsAt i (Some j)) e (record { spec = refl; item = refl })

-- what stands at later places comes later
placed : (i : ℕ) (o : Option ℕ) (k : ℕ) (p : Option ℕ) (a b : Match) → IsAt i o a → IsAt k p b → places_before i o k p ≡ false → comes_before a b ≡ false
placed i o k p a b first second is =
    ap (λ (n : ℕ). places_before n a.item_index b.spec_index b.item_index) first.spec ∙ ap (λ (n : Option ℕ). places_before i n b.spec_index b.item_index) first.item
    ∙ ap (λ (n : ℕ). places_before i o n b.item_index) second.spec ∙ ap (places_before i o k) second.item ∙ is

and_none : (t : Bool) → (t && false) ≡ false
and_none true = refl
and_none false = refl

not_eq : (i k : ℕ) → i < k → eqb k i ≡ false
not_eq i k less = step (eqb k i) refl
  where
    step : (t : Bool) → eqb k i ≡ t → eqb k i ≡ false
    step true is = absurd (let e : k ≡ i = eqb-true k i is in omega (arith, e, less))
    step false is = is

later_spec : (i k j l : ℕ) → i < k → places_before k (Some l) i (Some j) ≡ false
later_spec i k j l less =
    ap (λ (t : Bool). t || (eqb k i && ltb l j)) (le-ltb k i (omega (arith, less))) ∙ ap (λ (t : Bool). t && ltb l j) (not_eq i k less)

later_item : (i j l : ℕ) → j < l → places_before i (Some l) i (Some j) ≡ false
later_item i j l less =
    ap (λ (t : Bool). t || (eqb i i && ltb l j)) (le-ltb i i (omega arith)) ∙ ap (λ (t : Bool). eqb i i && t) (le-ltb l j (omega (arith, less))) ∙ and_none (eqb i i)

-- the ids
ids_at : (kind : Kind) (i : ℕ) (spec : Spec) (m : Match) → Contains (found (id_match kind i spec)) m → IsAt i None m
ids_at kind i spec m there = id_at kind i spec (source_id spec.source) m (one_found (id_match kind i spec) m there)

ids_ordered : (kind : Kind) (specs : List Spec) → are_ordered (ids_from kind 0 specs) ≡ true
ids_ordered kind specs =
    ordered_numbered (λ i spec. found (id_match kind i spec)) (λ i spec. ordered_found (id_match kind i spec))
    (λ i k x y a b less left right. placed k None i None b a (ids_at kind k y b right) (ids_at kind i x a left) (le-ltb k i (omega (arith, less)))) 0 specs

-- lists of what specs make of items, each match at its place
abbrev Makes : (ℕ → Spec → ℕ → List ℕ → List Match) → Type 0
Makes f = (i : ℕ) (spec : Spec) (j : ℕ) (name : List ℕ) (m : Match) → Contains (f i spec j name) m → IsAt i (Some j) m

record Made (f : ℕ → Spec → ℕ → List ℕ → List Match) (specs : List Spec) (names : List (List ℕ)) (m : Match) : Type 0 where
  spec : Spec
  item : ℕ
  name : List ℕ
  of_spec : slice_get specs m.spec_index ≡ Some spec
  of_item : slice_get names item ≡ Some name
  at : m.item_index ≡ Some item
  gives : Contains (f m.spec_index spec item name) m

from_specs : (f : ℕ → Spec → ℕ → List ℕ → List Match) (specs : List Spec) (names : List (List ℕ)) (m : Match) → Makes f → Contains (specs_from f 0 specs names) m → Made f specs names m
from_specs f specs names m makes there =
    let n = in_numbered (λ i spec. names_from (f i spec) 0 names) 0 specs m there in
    let k = in_numbered (f (0 + n.at) n.it) 0 names m n.gives in
    let at = makes (0 + n.at) n.it (0 + k.at) k.it m k.gives in
    let i : m.spec_index ≡ n.at = at.spec ∙ omega arith in
    let j : 0 + k.at ≡ k.at = omega arith in
    record {
      spec = n.it;
      item = k.at;
      name = k.it;
      of_spec = ap (slice_get specs) i ∙ n.is;
      of_item = k.is;
      at = at.item ∙ ap Some j;
      gives = subst (λ (x : ℕ). Contains (f x n.it k.at k.it) m) (sym at.spec) (subst (λ (x : ℕ). Contains (f (0 + n.at) n.it x k.it) m) j k.gives);
    }

to_specs : (f : ℕ → Spec → ℕ → List ℕ → List Match) (specs : List Spec) (names : List (List ℕ)) (m : Match) (i j : ℕ) (spec : Spec) (name : List ℕ)
    → slice_get specs i ≡ Some spec → slice_get names j ≡ Some name → Contains (f i spec j name) m → Contains (specs_from f 0 specs names) m
to_specs f specs names m i j spec name of_spec of_item gives =
    let first : i ≡ 0 + i = omega arith in
    let second : j ≡ 0 + j = omega arith in
    to_numbered (λ i spec. names_from (f i spec) 0 names) 0 specs m i spec of_spec
    (to_numbered (f (0 + i) spec) 0 names m j name of_item
    (subst (λ (x : ℕ). Contains (f (0 + i) spec x name) m) second (subst (λ (x : ℕ). Contains (f x spec j name) m) first gives)))

specs_ordered : (f : ℕ → Spec → ℕ → List ℕ → List Match) → Makes f → ((i : ℕ) (spec : Spec) (j : ℕ) (name : List ℕ) → are_ordered (f i spec j name) ≡ true)
    → (specs : List Spec) (names : List (List ℕ)) → are_ordered (specs_from f 0 specs names) ≡ true
specs_ordered f makes up specs names =
    ordered_numbered (λ i spec. names_from (f i spec) 0 names)
    (λ i spec. ordered_numbered (f i spec) (up i spec)
    (λ j l x y a b less left right. placed i (Some l) i (Some j) b a (makes i spec l y b right) (makes i spec j x a left) (later_item i j l less)) 0 names)
    (λ i k x y a b less left right.
    let n = in_numbered (f i x) 0 names a left in
    let o = in_numbered (f k y) 0 names b right in
    placed k (Some (0 + o.at)) i (Some (0 + n.at)) b a (makes k y (0 + o.at) o.it b o.gives) (makes i x (0 + n.at) n.it a n.gives) (later_spec i k (0 + n.at) (0 + o.at) less)) 0 specs

-- the mappings
names_make : (specs : List Spec) → Makes (name_matches specs)
names_make specs i spec j name m there = name_at specs i spec j name (source_taken spec.source name) m (one_found (name_match specs i spec j name) m there)

abbrev all_mappings : List Spec → List (List ℕ) → Kind → List Match
all_mappings specs names kind = ids_from kind 0 specs ++ specs_from (name_matches specs) 0 specs names

mappings_ordered : (specs : List Spec) (names : List (List ℕ)) (kind : Kind) → are_ordered (all_mappings specs names kind) ≡ true
mappings_ordered specs names kind =
    ordered_append (ids_from kind 0 specs) (specs_from (name_matches specs) 0 specs names) (ids_ordered kind specs)
    (specs_ordered (name_matches specs) (names_make specs) (λ i spec j name. ordered_found (name_match specs i spec j name)) specs names)
    (λ a b left right.
    let n = in_numbered (λ i spec. found (id_match kind i spec)) 0 specs a left in
    let o = from_specs (name_matches specs) specs names b (names_make specs) right in
    placed b.spec_index (Some o.item) (0 + n.at) None b a (record { spec = refl; item = o.at }) (ids_at kind (0 + n.at) n.it a n.gives) refl)

mapping_members : (specs : List Spec) (names : List (List ℕ)) (kind : Kind) (m : Match) → Contains (all_mappings specs names kind) m ↔ IsMapping specs names kind m
mapping_members specs names kind m = (λ there. first (Contains-append_cases (ids_from kind 0 specs) (specs_from (name_matches specs) 0 specs names) m there), second m.item_index refl)
  where
    first : Contains (ids_from kind 0 specs) m ⊎ Contains (specs_from (name_matches specs) 0 specs names) m → IsMapping specs names kind m
    first (inl there) =
        let n = in_numbered (λ i spec. found (id_match kind i spec)) 0 specs m there in
        let at = ids_at kind (0 + n.at) n.it m n.gives in
        let i : 0 + n.at ≡ n.at = omega arith in
        ap (λ (o : Option ℕ). mapping_at specs names kind m.spec_index o) at.item ∙ ap (λ (k : ℕ). mapping_at specs names kind k None) (at.spec ∙ i)
        ∙ ap (option_and_then (λ spec. id_match kind n.at spec)) n.is ∙ ap (λ (k : ℕ). id_match kind k n.it) (sym i) ∙ one_found (id_match kind (0 + n.at) n.it) m n.gives
    first (inr there) =
        let o = from_specs (name_matches specs) specs names m (names_make specs) there in
        ap (mapping_at specs names kind m.spec_index) o.at
        ∙ ap (option_and_then (λ spec. option_and_then (λ name. name_match specs m.spec_index spec o.item name) (slice_get names o.item))) o.of_spec
        ∙ ap (option_and_then (λ name. name_match specs m.spec_index o.spec o.item name)) o.of_item
        ∙ one_found (name_match specs m.spec_index o.spec o.item o.name) m o.gives

    by_id : (o : Option Spec) → slice_get specs m.spec_index ≡ o → option_and_then (λ spec. id_match kind m.spec_index spec) o ≡ Some m → Contains (all_mappings specs names kind) m
    by_id None at is = absurd cc
    by_id (Some spec) at is =
        let i : m.spec_index ≡ 0 + m.spec_index = omega arith in
        Contains-append_left (ids_from kind 0 specs) (specs_from (name_matches specs) 0 specs names) m
        (to_numbered (λ i spec. found (id_match kind i spec)) 0 specs m m.spec_index spec at
        (subst (λ (k : ℕ). Contains (found (id_match kind k spec)) m) i (found_one (id_match kind m.spec_index spec) m is)))

    by_name : (j : ℕ) (o : Option Spec) (p : Option (List ℕ)) → slice_get specs m.spec_index ≡ o → slice_get names j ≡ p
        → option_and_then (λ spec. option_and_then (λ name. name_match specs m.spec_index spec j name) p) o ≡ Some m → Contains (all_mappings specs names kind) m
    by_name j None p at here is = absurd cc
    by_name j (Some spec) None at here is = absurd cc
    by_name j (Some spec) (Some name) at here is =
        Contains-append_right (ids_from kind 0 specs) (specs_from (name_matches specs) 0 specs names) m
        (to_specs (name_matches specs) specs names m m.spec_index j spec name at here (found_one (name_match specs m.spec_index spec j name) m is))

    second : (o : Option ℕ) → m.item_index ≡ o → IsMapping specs names kind m → Contains (all_mappings specs names kind) m
    second None item is = by_id (slice_get specs m.spec_index) refl (sym (ap (mapping_at specs names kind m.spec_index) item) ∙ is)
    second (Some j) item is = by_name j (slice_get specs m.spec_index) (slice_get names j) refl refl (sym (ap (mapping_at specs names kind m.spec_index) item) ∙ is)

-- one place
same_place : (i k : ℕ) (o p : Option ℕ) → places_before i o k p ≡ false → places_before k p i o ≡ false → (i ≡ k) × (o ≡ p)
same_place i k None None first second = (omega (arith, ltb-false i k first, ltb-false k i second), refl)
same_place i k None (Some l) first second = absurd cc
same_place i k (Some j) None first second = absurd cc
same_place i k (Some j) (Some l) first second =
    let a = or_none (ltb i k) (eqb i k && ltb j l) first in
    let b = or_none (ltb k i) (eqb k i && ltb l j) second in
    let e : i ≡ k = omega (arith, ltb-false i k a.0, ltb-false k i b.0) in
    let left : ltb j l ≡ false = sym (ap (λ (t : Bool). t && ltb j l) (eqb-same i k e)) ∙ a.1 in
    let right : ltb l j ≡ false = sym (ap (λ (t : Bool). t && ltb l j) (eqb-same k i (sym e))) ∙ b.1 in
    (e, ap Some (omega (arith, ltb-false j l left, ltb-false l j right)))
  where
    or_none : (a b : Bool) → (a || b) ≡ false → (a ≡ false) × (b ≡ false)
    or_none true b is = absurd cc
    or_none false b is = (refl, is)

    eqb-same : (a b : ℕ) → a ≡ b → eqb a b ≡ true
    eqb-same a b same = (Decides-eqb a b).1 same

same_match : (a b : Match) → ◌≡◌ {A = Option Match} (Some a) (Some b) → a ≡ b
same_match a b is = cc

pub each_mapping : (specs : List Spec) (names : List (List ℕ)) (kind : Kind) (m : Match) → Contains (mappings_of specs names kind) m ↔ IsFirst (IsMapping specs names kind) true m
unfolding mappings_of
each_mapping specs names kind m =
    first_of_each (IsMapping specs names kind) true (all_mappings specs names kind) (mapping_members specs names kind) (mappings_ordered specs names kind)
    (λ a b first second before behind _.
    let place = same_place a.spec_index b.spec_index a.item_index b.item_index before behind in
    same_match a b (sym first ∙ ap (λ (i : ℕ). mapping_at specs names kind i a.item_index) place.0 ∙ ap (mapping_at specs names kind b.spec_index) place.1 ∙ second)) m

-- the sources
lead_at : (i j : ℕ) (name : List ℕ) (ss : List (List ℕ)) (m : Match) → Contains (map (leading i j name) ss) m → (s : List ℕ) × Contains ss s × (leading i j name s ≡ m)
lead_at i j name [] m there = absurd (none_in m there)
lead_at i j name (s ∷ ss) m there = step (first_or_rest (leading i j name s) (map (leading i j name) ss) m there) (lead_at i j name ss m)
  where
    step : (leading i j name s ≡ m) ⊎ Contains (map (leading i j name) ss) m → (Contains (map (leading i j name) ss) m → (s : List ℕ) × Contains ss s × (leading i j name s ≡ m))
        → (t : List ℕ) × Contains (s ∷ ss) t × (leading i j name t ≡ m)
    step (inl is) on = (s, first_in s ss, is)
    step (inr rest) on = let w = on rest in (w.0, in_rest s ss w.0 w.1, w.2)

at_lead : (i j : ℕ) (name : List ℕ) (ss : List (List ℕ)) (s : List ℕ) → Contains ss s → Contains (map (leading i j name) ss) (leading i j name s)
at_lead i j name [] s there = absurd (none_in s there)
at_lead i j name (t ∷ ss) s there = step (first_or_rest t ss s there) (at_lead i j name ss s)
  where
    step : (t ≡ s) ⊎ Contains ss s → (Contains ss s → Contains (map (leading i j name) ss) (leading i j name s)) → Contains (map (leading i j name) (t ∷ ss)) (leading i j name s)
    step (inl is) on = subst (λ (x : List ℕ). Contains (map (leading i j name) (t ∷ ss)) (leading i j name x)) is (first_in (leading i j name t) (map (leading i j name) ss))
    step (inr rest) on = in_rest (leading i j name t) (map (leading i j name) ss) (leading i j name s) (on rest)

leads_make : (specs : List Spec) → Makes (source_matches specs)
leads_make specs i spec j name m there =
    let w = lead_at i j name (sources_leading specs spec name) m there in
    subst (IsAt i (Some j)) w.2 (record { spec = refl; item = refl })

leads_ordered : (i j : ℕ) (name : List ℕ) (ss : List (List ℕ)) → are_ordered (map (leading i j name) ss) ≡ true
leads_ordered i j name [] = refl
leads_ordered i j name (s ∷ ss) =
    and_from _ _
    (all_from (λ x. not (comes_before x (leading i j name s))) (map (leading i j name) ss)
    (λ x there. let w = lead_at i j name ss x there in ap (λ (y : Match). not (comes_before y (leading i j name s))) (sym w.2) ∙ ap not (not_before i (Some j))))
    (leads_ordered i j name ss)

lead_members : (specs : List Spec) (names : List (List ℕ)) (m : Match) → Contains (specs_from (source_matches specs) 0 specs names) m ↔ IsLead specs names m
lead_members specs names m = (first, second)
  where
    first : Contains (specs_from (source_matches specs) 0 specs names) m → IsLead specs names m
    first there =
        let o = from_specs (source_matches specs) specs names m (leads_make specs) there in
        let w = lead_at m.spec_index o.item o.name (sources_leading specs o.spec o.name) m o.gives in
        record { spec = o.spec; item = o.item; name = o.name; source = w.0; of_spec = o.of_spec; of_item = o.of_item; leads = w.1; is = sym w.2 }

    second : IsLead specs names m → Contains (specs_from (source_matches specs) 0 specs names) m
    second l =
        to_specs (source_matches specs) specs names m m.spec_index l.item l.spec l.name l.of_spec l.of_item
        (subst (λ (x : Match). Contains (source_matches specs m.spec_index l.spec l.item l.name) x) (sym l.is) (at_lead m.spec_index l.item l.name (sources_leading specs l.spec l.name) l.source l.leads))

same_lead : (specs : List Spec) (names : List (List ℕ)) (a b : Match) → IsLead specs names a → IsLead specs names b → comes_before a b ≡ false → comes_before b a ≡ false → is_same false a b ≡ true → a ≡ b
same_lead specs names a b first second before behind same =
    let place = same_place a.spec_index b.spec_index a.item_index b.item_index before behind in
    let items : Some first.item ≡ Some second.item = sym (ap (λ (m : Match). m.item_index) first.is) ∙ place.1 ∙ ap (λ (m : Match). m.item_index) second.is in
    let item : first.item ≡ second.item = cc in
    let names_same : Some first.name ≡ Some second.name = sym first.of_item ∙ ap (slice_get names) item ∙ second.of_item in
    let name : first.name ≡ second.name = cc in
    let keys = (bytes_eq-Decides (key_of false a).0 (key_of false b).0).0 (and_parts (bytes_eq (key_of false a).0 (key_of false b).0) (bytes_eq (key_of false a).1 (key_of false b).1) same).0 in
    let sources_same : 0 ∷ first.source ≡ 0 ∷ second.source = sym (ap (λ (m : Match). (key_of false m).0) first.is) ∙ keys ∙ ap (λ (m : Match). (key_of false m).0) second.is in
    let source : first.source ≡ second.source = cc in
    first.is ∙ ap (λ (i : ℕ). leading i first.item first.name first.source) place.0 ∙ ap (λ (j : ℕ). leading b.spec_index j first.name first.source) item
    ∙ ap (λ (n : List ℕ). leading b.spec_index second.item n first.source) name ∙ ap (leading b.spec_index second.item second.name) source ∙ sym second.is

pub each_source : (specs : List Spec) (names : List (List ℕ)) (m : Match) → Contains (sources_of specs names) m ↔ IsFirst (IsLead specs names) false m
unfolding sources_of
each_source specs names m =
    first_of_each (IsLead specs names) false (specs_from (source_matches specs) 0 specs names) (lead_members specs names)
    (specs_ordered (source_matches specs) (leads_make specs) (λ i spec j name. leads_ordered i j name (sources_leading specs spec name)) specs names)
    (same_lead specs names) m

-- ---- the order of what is told
all_filtered : {X : Type 0} (p q : X → Bool) (xs : List X) → list_all p xs ≡ true → list_all p (filter q xs) ≡ true
all_filtered p q [] all = refl
all_filtered p q (x ∷ xs) all = let both = and_parts (p x) (list_all p xs) all in by_test (q x) both.0 (all_filtered p q xs both.1)
  where
    by_test : (t : Bool) → p x ≡ true → list_all p (filter q xs) ≡ true → list_all p (cond t (x ∷ filter q xs) (filter q xs)) ≡ true
    by_test true here rest = and_from (p x) (list_all p (filter q xs)) here rest
    by_test false here rest = rest

all_once : {X : Type 0} (p : X → Bool) (same : X → X → Bool) (xs : List X) → list_all p xs ≡ true → list_all p (once same xs) ≡ true
all_once p same [] all = refl
all_once p same (x ∷ xs) all =
    let both = and_parts (p x) (list_all p xs) all in
    and_from (p x) (list_all p (filter (λ y. not (same x y)) (once same xs))) both.0 (all_filtered p (λ y. not (same x y)) (once same xs) (all_once p same xs both.1))

ordered_filtered : (q : Match → Bool) (ms : List Match) → are_ordered ms ≡ true → are_ordered (filter q ms) ≡ true
ordered_filtered q [] up = refl
ordered_filtered q (m ∷ ms) up =
    let both = and_parts (list_all (λ x. not (comes_before x m)) ms) (are_ordered ms) up in
    by_test (q m) (all_filtered (λ x. not (comes_before x m)) q ms both.0) (ordered_filtered q ms both.1)
  where
    by_test : (t : Bool) → list_all (λ x. not (comes_before x m)) (filter q ms) ≡ true → are_ordered (filter q ms) ≡ true → are_ordered (cond t (m ∷ filter q ms) (filter q ms)) ≡ true
    by_test true here rest = and_from _ _ here rest
    by_test false here rest = rest

ordered_once : (same : Match → Match → Bool) (ms : List Match) → are_ordered ms ≡ true → are_ordered (once same ms) ≡ true
ordered_once same [] up = refl
ordered_once same (m ∷ ms) up =
    let both = and_parts (list_all (λ x. not (comes_before x m)) ms) (are_ordered ms) up in
    and_from _ _
    (all_filtered (λ x. not (comes_before x m)) (λ y. not (same m y)) (once same ms) (all_once (λ x. not (comes_before x m)) same ms both.0))
    (ordered_filtered (λ y. not (same m y)) (once same ms) (ordered_once same ms both.1))

pub mappings_in_order : (specs : List Spec) (names : List (List ℕ)) (kind : Kind) → are_ordered (mappings_of specs names kind) ≡ true
unfolding mappings_of
mappings_in_order specs names kind = ordered_once (is_same true) (all_mappings specs names kind) (mappings_ordered specs names kind)

pub sources_in_order : (specs : List Spec) (names : List (List ℕ)) → are_ordered (sources_of specs names) ≡ true
unfolding sources_of
sources_in_order specs names =
    ordered_once (is_same false) (specs_from (source_matches specs) 0 specs names)
    (specs_ordered (source_matches specs) (leads_make specs) (λ i spec j name. leads_ordered i j name (sources_leading specs spec name)) specs names)
