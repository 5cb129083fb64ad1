-- The destinations with two sources, one by one.
use Rattle.std.proofs.Common.{◌≡◌, ◌↔◌, ℕ, Bool, true, false, not, ltb, ◌⊎◌, List, [], ◌∷◌, ◌++◌, length, map, Option, Some, None, refl, sym, ap, subst, ◌∙◌, inl, inr, arith}
use Rattle.std.specs.List.{Contains, filter, filter_map, list_any}
use Rattle.std.specs.Str.{bytes_eq}
use Rattle.std.proofs.lemmas.Bool.{lt-ltb}
use Rattle.std.proofs.lemmas.Slice.Eq.{bytes_eq-Decides}
use Rattle.fetch_specs.specs.declared.conflict.Conflict.{Conflict}
use Rattle.fetch_specs.specs.declared.found.SourceRef.{SourceRef}
use Rattle.fetch_specs.specs.declared.found.Match.{Match}
use Rattle.fetch_specs.specs.Matches.{source_key, once}
use Rattle.fetch_specs.specs.Conflicts.{is_same_source, is_side, sources_to, destinations_of, sourced, is_double, conflicts_of, IsConflict}
use Rattle.fetch_specs.proofs.Members.{none_in, first_in, only, first_or_rest, in_rest, to_filter, to_filter_map, passed}
use Rattle.fetch_specs.proofs.Firsts.{from_filter, is_new, new_there, earliest, any_at}

in_map : {X Y : Type 0} (f : X → Y) (xs : List X) (y : Y) → Contains (map f xs) y → (x : X) × Contains xs x × (f x ≡ y)
in_map f [] y there = absurd (none_in y there)
in_map {X = X} {Y = Y} f (x ∷ xs) y there = step (first_or_rest (f x) (map f xs) y there) (in_map f xs y)
  where
    step : (f x ≡ y) ⊎ Contains (map f xs) y → (Contains (map f xs) y → (w : X) × Contains xs w × (f w ≡ y)) → (w : X) × Contains (x ∷ xs) w × (f w ≡ y)
    step (inl is) on = (x, first_in x xs, is)
    step (inr rest) on = let w = on rest in (w.0, in_rest x xs w.0 w.1, w.2)

to_map : {X Y : Type 0} (f : X → Y) (xs : List X) (x : X) → Contains xs x → Contains (map f xs) (f x)
to_map f [] x there = absurd (none_in x there)
to_map {X = X} f (z ∷ xs) x there = step (first_or_rest z xs x there) (to_map f xs x)
  where
    step : (z ≡ x) ⊎ Contains xs x → (Contains xs x → Contains (map f xs) (f x)) → Contains (map f (z ∷ xs)) (f x)
    step (inl is) on = subst (λ (w : X). Contains (map f (z ∷ xs)) (f w)) is (first_in (f z) (map f xs))
    step (inr rest) on = in_rest (f z) (map f xs) (f x) (on rest)

from_once : {X : Type 0} (same : X → X → Bool) (xs : List X) (x : X) → Contains (once same xs) x → Contains xs x
from_once {X = X} same xs x there =
    let n = is_new same xs x there in
    subst (λ (ys : List X). Contains ys x) (sym n.whole) (in_back n.front x n.back)
  where
    in_back : (front : List X) (x : X) (back : List X) → Contains (front ++ x ∷ back) x
    in_back [] x back = first_in x back
    in_back (a ∷ front) x back = in_rest a (front ++ x ∷ back) x (in_back front x back)

-- where a key tells what is the same, each element has one of its key among those kept
abbrev by_key : {X : Type 0} → (X → List ℕ) → X → X → Bool
by_key key a b = bytes_eq (key a) (key b)

kept_for : {X : Type 0} (key : X → List ℕ) (xs : List X) (x : X) → Contains xs x → (y : X) × Contains (once (by_key key) xs) y × (key y ≡ key x)
kept_for {X = X} key xs x there =
    let e = earliest (λ y. bytes_eq (key y) (key x)) xs (any_at (λ y. bytes_eq (key y) (key x)) xs x there ((bytes_eq-Decides (key x) (key x)).1 refl)) in
    let same : key e.it ≡ key x = (bytes_eq-Decides (key e.it) (key x)).0 e.passes in (
      e.it,
      subst (λ (ys : List X). Contains (once (by_key key) ys) e.it) (sym e.whole)
          (new_there (by_key key) e.front e.it e.back (ap (λ (k : List ℕ). list_any (λ y. bytes_eq (key y) k) e.front) same ∙ e.none)),
      same,
    )

-- more than one is kept exactly where two differ
record Two {X : Type 0} (key : X → List ℕ) (xs : List X) : Type 0 where
  one : X
  two : X
  first : Contains xs one
  second : Contains xs two
  differ : bytes_eq (key one) (key two) ≡ false

untrue : (t : Bool) → not t ≡ true → t ≡ false
untrue true is = absurd cc
untrue false is = refl

two_kept : {X : Type 0} (key : X → List ℕ) (xs : List X) → ltb 1 (length (once (by_key key) xs)) ≡ true → Two key xs
two_kept key [] more = absurd cc
two_kept {X = X} key (x ∷ xs) more = step (filter (λ y. not (bytes_eq (key x) (key y))) (once (by_key key) xs)) refl more
  where
    step : (ys : List X) → filter (λ y. not (bytes_eq (key x) (key y))) (once (by_key key) xs) ≡ ys → ltb 1 (length (x ∷ ys)) ≡ true → Two key (x ∷ xs)
    step [] is more = absurd cc
    step (y ∷ ys) is more =
        let there : Contains (filter (λ y. not (bytes_eq (key x) (key y))) (once (by_key key) xs)) y = subst (λ (zs : List X). Contains zs y) (sym is) (first_in y ys) in
        record {
          one = x;
          two = y;
          first = first_in x xs;
          second = in_rest x xs y (from_once (by_key key) xs y (from_filter (λ y. not (bytes_eq (key x) (key y))) (once (by_key key) xs) y there));
          differ = untrue (bytes_eq (key x) (key y)) (passed (λ y. not (bytes_eq (key x) (key y))) (once (by_key key) xs) y there);
        }

kept_two : {X : Type 0} (key : X → List ℕ) (xs : List X) → Two key xs → ltb 1 (length (once (by_key key) xs)) ≡ true
kept_two {X = X} key xs t =
    let a = kept_for key xs t.one t.first in
    let b = kept_for key xs t.two t.second in
    step (once (by_key key) xs) a.0 b.0 a.1 b.1 a.2 b.2
  where
    step : (ys : List X) (a b : X) → Contains ys a → Contains ys b → key a ≡ key t.one → key b ≡ key t.two → ltb 1 (length ys) ≡ true
    step [] a b first second left right = absurd (none_in a first)
    step (y ∷ []) a b first second left right =
        let e : key t.one ≡ key t.two = sym left ∙ ap key (sym (only y a first) ∙ only y b second) ∙ right in
        let wrong : true ≡ false = sym ((bytes_eq-Decides (key t.one) (key t.two)).1 e) ∙ t.differ in
        absurd cc
    step (y ∷ z ∷ ys) a b first second left right = lt-ltb 1 (length (y ∷ z ∷ ys)) (omega arith)

side_is : (d : List ℕ) (o : Option (List ℕ)) → is_side d o ≡ true → o ≡ Some d
side_is d None is = absurd cc
side_is d (Some s) is = ap Some (sym ((bytes_eq-Decides d s).0 is))

is_side_of : (d : List ℕ) (o : Option (List ℕ)) → o ≡ Some d → is_side d o ≡ true
is_side_of d o is = ap (is_side d) is ∙ (bytes_eq-Decides d d).1 refl

-- a source of a destination comes from a match
source_from : (ms : List Match) (d : List ℕ) (s : SourceRef) → Contains (map (λ m. m.lhs) (filter (λ m. is_side d m.rhs) ms)) s → (m : Match) × Contains ms m × (m.rhs ≡ Some d) × (m.lhs ≡ s)
source_from ms d s there =
    let w = in_map (λ (m : Match). m.lhs) (filter (λ m. is_side d m.rhs) ms) s there in
    (w.0, from_filter (λ m. is_side d m.rhs) ms w.0 w.1, side_is d w.0.rhs (passed (λ m. is_side d m.rhs) ms w.0 w.1), w.2)

source_to : (ms : List Match) (d : List ℕ) (m : Match) → Contains ms m → m.rhs ≡ Some d → Contains (map (λ m. m.lhs) (filter (λ m. is_side d m.rhs) ms)) m.lhs
source_to ms d m there is =
    to_map (λ (m : Match). m.lhs) (filter (λ m. is_side d m.rhs) ms) m (to_filter (λ m. is_side d m.rhs) ms m there (is_side_of d m.rhs is))

told : (ms : List Match) (c : Conflict) → Contains (conflicts_of ms) c → IsConflict ms c
unfolding conflicts_of
told ms c there =
    let double = passed is_double (map (sourced ms) (destinations_of ms)) c there in
    let w = in_map (sourced ms) (destinations_of ms) c (from_filter is_double (map (sourced ms) (destinations_of ms)) c there) in
    let d = w.0 in
    let is : sourced ms d ≡ c = w.2 in
    let at : d ≡ c.destination = ap (λ (c : Conflict). c.destination) is in
    let t = two_kept source_key (map (λ m. m.lhs) (filter (λ m. is_side d m.rhs) ms)) (ap (λ (c : Conflict). is_double c) is ∙ double) in
    let a = source_from ms d t.one t.first in
    let b = source_from ms d t.two t.second in
    record {
      one = a.0;
      two = b.0;
      first = a.1;
      second = b.1;
      leads = a.2 ∙ ap Some at;
      leads_too = b.2 ∙ ap Some at;
      differ = ap (λ (s : SourceRef). is_same_source s b.0.lhs) a.3 ∙ ap (is_same_source t.one) b.3 ∙ t.differ;
      all = sym (ap (λ (c : Conflict). c.sources) is) ∙ ap (sources_to ms) at;
    }

back : (ms : List Match) (c : Conflict) → IsConflict ms c → Contains (conflicts_of ms) c
unfolding conflicts_of
back ms c i =
    let d = c.destination in
    let is : sourced ms d ≡ c = ap (λ (ss : List SourceRef). record { destination = d; sources = ss }) (sym i.all) in
    let e = kept_for (λ (text : List ℕ). text) (filter_map (λ m. m.rhs) ms) d (to_filter_map (λ (m : Match). m.rhs) ms i.one d i.first i.leads) in
    let there : Contains (destinations_of ms) d = subst (λ (text : List ℕ). Contains (destinations_of ms) text) e.2 e.1 in
    let more = kept_two source_key (map (λ m. m.lhs) (filter (λ m. is_side d m.rhs) ms))
    (record { one = i.one.lhs; two = i.two.lhs; first = source_to ms d i.one i.first i.leads; second = source_to ms d i.two i.second i.leads_too; differ = i.differ }) in
    to_filter is_double (map (sourced ms) (destinations_of ms)) c
    (subst (λ (x : Conflict). Contains (map (sourced ms) (destinations_of ms)) x) is (to_map (sourced ms) (destinations_of ms) d there))
    (ap is_double (sym is) ∙ more)

pub each_conflict : (ms : List Match) (c : Conflict) → Contains (conflicts_of ms) c ↔ IsConflict ms c
each_conflict ms c = (told ms c, back ms c)
