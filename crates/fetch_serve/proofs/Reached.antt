-- What a number of steps reaches is what is reached.
use Rattle.std.proofs.Common.{◌≡◌, ℕ, zero, suc, ◌+◌, ◌-◌, Ordering, Less, Equal, Greater, Bool, true, false, List, [], ◌∷◌, ◌++◌, length, filter, Option, Some, None, refl, sym, ap, ◌∙◌, subst, arith, inl, inr, Contains}
use Rattle.std.specs.Prelude.{◌⊎◌, ◌↔◌, ◌&&◌, not, is_some, flat_map}
use Rattle.std.specs.FinMap as finmap
use Rattle.std.specs.List.{AllByRecursion}
use Rattle.std.specs.Option.{option_map_or}
use Rattle.std.specs.Ordering.{eq_by_cmp, is_eq}
use Rattle.fetch_store.specs.Closed.{Holding, IsWalk, Reached, links_at, links_within}
use Rattle.fetch_objects.specs.Objects.{Stored}
use Rattle.fetch_base.specs.Id.{id_cmp}
use Rattle.fetch_base.specs.declared.id.ObjectId.{ObjectId}
use Rattle.fetch_store.proofs.Borders.{named-Contains, Contains-named}
use Rattle.fetch_base.proofs.Ids.{id_cmp_exact}
use Rattle.fetch_store.proofs.Members.{first_in, later_in, cases_in, none_in}
use Rattle.fetch_store.proofs.Pigeons.{AreDistinct, AreStored, no_more}
use Rattle.fetch_store.proofs.Reaching.{reached_next, reached_start}
use Rattle.fetch_asked.specs.declared.asked.FetchAsked.{FetchAsked}
use Rattle.fetch_serve.specs.declared.depth.Depth.{Depth}
use Rattle.fetch_serve.specs.Depths.{border_of}
use Rattle.fetch_serve.specs.Packs.{IsNeeded, is_needed, is_reached, known_haves, reached_within, seen_after, seen_by, starts_of, stored_in}
use Rattle.fetch_serve.specs.Served.{Data}

-- ---- members

pub in_first : {X : Type 0} (x : X) (xs ys : List X) → Contains xs x → Contains (xs ++ ys) x
in_first x [] ys h = absurd (none_in x h)
in_first x (y ∷ xs) ys h = elim (cases_in x y xs h) [ inl same ↦ subst (λ z. Contains (z ∷ (xs ++ ys)) x) (sym same) (first_in x (xs ++ ys)) | inr later ↦ later_in x y (xs ++ ys) (in_first x xs ys later) ]

pub in_second : {X : Type 0} (x : X) (xs ys : List X) → Contains ys x → Contains (xs ++ ys) x
in_second x [] ys h = h
in_second x (y ∷ xs) ys h = later_in x y (xs ++ ys) (in_second x xs ys h)

pub in_either : {X : Type 0} (x : X) (xs ys : List X) → Contains (xs ++ ys) x → Contains xs x ⊎ Contains ys x
in_either x [] ys h = inr h
in_either x (y ∷ xs) ys h =
    elim (cases_in x y (xs ++ ys) h) [
      | inl same ↦ inl (subst (λ z. Contains (z ∷ xs) x) (sym same) (first_in x xs))
      | inr later ↦ elim (in_either x xs ys later) [ inl among ↦ inl (later_in x y xs among) | inr among ↦ inr among ]
    ]

-- what passes among some
filtered_by : {X : Type 0} (p : X → Bool) (x y : X) (xs : List X) (b : Bool) → p y ≡ b → Contains (filter p (y ∷ xs)) x → (Contains (filter p xs) x → Contains xs x × (p x ≡ true)) → Contains (y ∷ xs) x × (p x ≡ true)
filtered_by p x y xs true is h again =
    elim (cases_in x y (filter p xs) (rw is at h)) [
      | inl same ↦ (subst (λ z. Contains (z ∷ xs) x) (sym same) (first_in x xs), ap p (sym same) ∙ is)
      | inr later ↦ (later_in x y xs (again later).0, (again later).1)
    ]
filtered_by p x y xs false is h again = let more = again (rw is at h) in (later_in x y xs more.0, more.1)

pub filtered : {X : Type 0} (p : X → Bool) (x : X) (xs : List X) → Contains (filter p xs) x → Contains xs x × (p x ≡ true)
filtered p x [] h = absurd (none_in x h)
filtered p x (y ∷ xs) h = filtered_by p x y xs (p y) refl h (filtered p x xs)

keeps_by : {X : Type 0} (p : X → Bool) (x y : X) (xs : List X) (b : Bool) → p y ≡ b → Contains (y ∷ xs) x → p x ≡ true → (Contains xs x → Contains (filter p xs) x) → Contains (filter p (y ∷ xs)) x
keeps_by p x y xs true is h passes again =
    rw is (elim (cases_in x y xs h) [ inl same ↦ subst (λ z. Contains (z ∷ filter p xs) x) (sym same) (first_in x (filter p xs)) | inr later ↦ later_in x y (filter p xs) (again later) ])
keeps_by p x y xs false is h passes again =
    rw is (elim (cases_in x y xs h) [ inl same ↦ (let t = ap p same in absurd (cc)) | inr later ↦ again later ])

pub keeps : {X : Type 0} (p : X → Bool) (x : X) (xs : List X) → Contains xs x → p x ≡ true → Contains (filter p xs) x
keeps p x [] h passes = absurd (none_in x h)
keeps p x (y ∷ xs) h passes = keeps_by p x y xs (p y) refl h passes (λ later. keeps p x xs later passes)

-- what comes of one of a list
pub of_one : {X Y : Type 0} (f : X → List Y) (y : Y) (xs : List X) → Contains (flat_map f xs) y → (x : X) × Contains xs x × Contains (f x) y
of_one f y [] h = absurd (none_in y h)
of_one f y (x ∷ xs) h = elim (in_either y (f x) (flat_map f xs) h) [ inl here ↦ (x, first_in x xs, here) | inr there ↦ (let o = of_one f y xs there in (o.0, later_in o.0 x xs o.1, o.2)) ]

pub one_of : {X Y : Type 0} (f : X → List Y) (x : X) (y : Y) (xs : List X) → Contains xs x → Contains (f x) y → Contains (flat_map f xs) y
one_of f x y [] among h = absurd (none_in x among)
one_of f x y (z ∷ xs) among h =
    elim (cases_in x z xs among) [ inl same ↦ in_first y (f z) (flat_map f xs) (subst (λ w. Contains (f w) y) (sym same) h) | inr later ↦ in_second y (f z) (flat_map f xs) (one_of f x y xs later h) ]

-- ---- steps

link_of : (h : Holding) (from next : ObjectId) (found : Option Stored) → finmap.get h.objects from ≡ found → Contains (option_map_or (links_within h.border from) found []) next
    → (o : Stored) × (finmap.get h.objects from ≡ Some o) × Contains (links_within h.border from o) next
link_of h from next None is among = absurd (none_in next among)
link_of h from next (Some o) is among = (o, is, among)

pub within_reached : (h : Holding) (starts : List ObjectId) (n : ℕ) (id : ObjectId) → Contains (reached_within h starts n) id → Reached h starts id
unfolding reached_within
within_reached h starts zero id among = let f = filtered (finmap.contains_key h.objects) id starts among in reached_start h starts id f.0 f.1
within_reached h starts (suc n) id among =
    elim (in_either id (reached_within h starts n) (stored_in h.objects (flat_map (links_at h) (reached_within h starts n))) among) [
      | inl before ↦ within_reached h starts n id before
      | inr now ↦
          let f = filtered (finmap.contains_key h.objects) id (flat_map (links_at h) (reached_within h starts n)) now in
          let o = of_one (links_at h) id (reached_within h starts n) f.0 in
          let l = link_of h o.0 id (finmap.get h.objects o.0) refl o.2 in
          reached_next h starts o.0 id l.0 l.1 l.2 f.1 (within_reached h starts n o.0 o.1)
    ]

stored_at : (h : Holding) (id : ObjectId) (o : Stored) → finmap.get h.objects id ≡ Some o → finmap.contains_key h.objects id ≡ true
stored_at h id o is = ap is_some is

walk_stored : (h : Holding) (from : ObjectId) (rest : List ObjectId) (to : ObjectId) → IsWalk h from rest to → finmap.contains_key h.objects from ≡ true
walk_stored h from [] to w = w.0
walk_stored h from (next ∷ rest) to w = stored_at h from w.0 w.1

step_on : (h : Holding) (starts : List ObjectId) (n : ℕ) (from next : ObjectId) (o : Stored) → Contains (reached_within h starts n) from → finmap.get h.objects from ≡ Some o → Contains (links_within h.border from o) next
    → finmap.contains_key h.objects next ≡ true → Contains (reached_within h starts (suc n)) next
unfolding reached_within
step_on h starts n from next o among is linked stored =
    let link : Contains (links_at h from) next = subst (λ f. Contains (option_map_or (links_within h.border from) f []) next) (sym is) linked in
    in_second next (reached_within h starts n) (stored_in h.objects (flat_map (links_at h) (reached_within h starts n)))
    (keeps (finmap.contains_key h.objects) next (flat_map (links_at h) (reached_within h starts n)) (one_of (links_at h) from next (reached_within h starts n) among link) stored)

one_more : (h : Holding) (starts : List ObjectId) (n : ℕ) (id : ObjectId) → Contains (reached_within h starts n) id → Contains (reached_within h starts (suc n)) id
unfolding reached_within
one_more h starts n id among = in_first id (reached_within h starts n) (stored_in h.objects (flat_map (links_at h) (reached_within h starts n))) among

-- what is within some steps is within more
pub more_steps : (h : Holding) (starts : List ObjectId) (n k : ℕ) (id : ObjectId) → Contains (reached_within h starts n) id → Contains (reached_within h starts (k + n)) id
more_steps h starts n zero id among = let e : n ≡ 0 + n = omega arith in subst (λ (m : ℕ). Contains (reached_within h starts m) id) e among
more_steps h starts n (suc k) id among =
    let e : suc (k + n) ≡ suc k + n = omega arith in subst (λ (m : ℕ). Contains (reached_within h starts m) id) e (one_more h starts (k + n) id (more_steps h starts n k id among))

walk_within : (h : Holding) (starts : List ObjectId) (n : ℕ) (from : ObjectId) (rest : List ObjectId) (to : ObjectId) → IsWalk h from rest to → Contains (reached_within h starts n) from → Contains (reached_within h starts (length rest + n)) to
walk_within h starts n from [] to w among = let e : n ≡ 0 + n = omega arith in subst (λ (m : ℕ). Contains (reached_within h starts m) to) e (subst (Contains (reached_within h starts n)) w.1 among)
walk_within h starts n from (next ∷ rest) to w among =
    let on = walk_within h starts (suc n) next rest to w.3 (step_on h starts n from next w.0 among w.1 w.2 (walk_stored h next rest to w.3)) in
    let e : length rest + suc n ≡ length (next ∷ rest) + n = omega arith in
    subst (λ (m : ℕ). Contains (reached_within h starts m) to) e on

-- ---- walks that come to no id twice

pub record IsSimple (h : Holding) (from to : ObjectId) : Type 0 where
  pub rest : List ObjectId
  pub walk : IsWalk h from rest to
  pub apart : AreDistinct (from ∷ rest)

suffix : (h : Holding) (a : ObjectId) (xs : List ObjectId) (to b : ObjectId) → IsWalk h a xs to → AreDistinct (a ∷ xs) → Contains (a ∷ xs) b → IsSimple h b to
suffix h a [] to b w apart among =
    elim (cases_in b a [] among) [ inl same ↦ subst (λ x. IsSimple h x to) same (record { rest = []; walk = w; apart = apart }) | inr later ↦ absurd (none_in b later) ]
suffix h a (next ∷ xs) to b w apart among =
    elim (cases_in b a (next ∷ xs) among) [
      | inl same ↦ subst (λ x. IsSimple h x to) same (record { rest = next ∷ xs; walk = w; apart = apart })
      | inr later ↦ suffix h next xs to b w.3 apart.1 later
    ]

is_equal : (o : Ordering) → is_eq o ≡ true → o ≡ Equal
is_equal Less e = absurd (cc)
is_equal Equal e = refl
is_equal Greater e = absurd (cc)

met_by : (x y : ObjectId) (ys : List ObjectId) (b : Bool) → eq_by_cmp id_cmp y x ≡ b → Contains ys x ⊎ AllByRecursion (λ q. eq_by_cmp id_cmp q x ≡ false) ys → Contains (y ∷ ys) x ⊎ AllByRecursion (λ q. eq_by_cmp id_cmp q x ≡ false) (y ∷ ys)
met_by x y ys true is others = inl (subst (λ z. Contains (z ∷ ys) x) (sym (id_cmp_exact y x (is_equal (id_cmp y x) is))) (first_in x ys))
met_by x y ys false is others = elim others [ inl later ↦ inl (later_in x y ys later) | inr apart ↦ inr (is, apart) ]

pub met : (x : ObjectId) (ys : List ObjectId) → Contains ys x ⊎ AllByRecursion (λ q. eq_by_cmp id_cmp q x ≡ false) ys
met x [] = inr tt
met x (y ∷ ys) = met_by x y ys (eq_by_cmp id_cmp y x) refl (met x ys)

pub simple : (h : Holding) (from : ObjectId) (rest : List ObjectId) (to : ObjectId) → IsWalk h from rest to → IsSimple h from to
simple h from [] to w = record { rest = []; walk = w; apart = (tt, tt) }
simple h from (next ∷ rest) to w =
    let s = simple h next rest to w.3 in
    elim (met from (next ∷ s.rest)) [
      | inl again ↦ suffix h next s.rest to from s.walk s.apart again
      | inr apart ↦ record { rest = next ∷ s.rest; walk = (w.0, w.1, w.2, s.walk); apart = (apart, s.apart) }
    ]

all_stored : (h : Holding) (from : ObjectId) (rest : List ObjectId) (to : ObjectId) → IsWalk h from rest to → AreStored h.objects (from ∷ rest)
all_stored h from [] to w = (w.0, tt)
all_stored h from (next ∷ rest) to w = (stored_at h from w.0 w.1, all_stored h next rest to w.3)

starts_within : (h : Holding) (starts : List ObjectId) (id : ObjectId) → Contains starts id → finmap.contains_key h.objects id ≡ true → Contains (reached_within h starts 0) id
unfolding reached_within
starts_within h starts id among stored = keeps (finmap.contains_key h.objects) id starts among stored

-- what is reached is within as many steps as there are objects
pub reached_in_time : (h : Holding) (starts : List ObjectId) (id : ObjectId) → Reached h starts id → Contains (reached_within h starts (finmap.len h.objects)) id
reached_in_time h starts id r =
    let s = simple h r.start r.rest id r.walk in
    let few = no_more (r.start ∷ s.rest) h.objects s.apart (all_stored h r.start s.rest id s.walk) in
    let near = walk_within h starts 0 r.start s.rest id s.walk (starts_within h starts r.start r.among (walk_stored h r.start r.rest id r.walk)) in
    let e : (finmap.len h.objects - (length s.rest + 0)) + (length s.rest + 0) ≡ finmap.len h.objects = omega arith in
    subst (λ (m : ℕ). Contains (reached_within h starts m) id) e (more_steps h starts (length s.rest + 0) (finmap.len h.objects - (length s.rest + 0)) id near)

-- ---- as a test

pub reached_test : (h : Holding) (starts : List ObjectId) (id : ObjectId) → (is_reached h starts id ≡ true) ↔ Reached h starts id
unfolding is_reached
reached_test h starts id = (
  λ e. within_reached h starts (finmap.len h.objects) id (Contains-named id (reached_within h starts (finmap.len h.objects)) e),
  λ r. named-Contains id (reached_within h starts (finmap.len h.objects)) (reached_in_time h starts id r),
)

pub both : (a b : Bool) → (a && b) ≡ true → (a ≡ true) × (b ≡ true)
both true b e = (refl, e)
both false b e = absurd (cc)

negated : (b : Bool) → not b ≡ true → b ≡ true → ⊥
negated true e f = absurd (cc)
negated false e f = absurd (cc)

refuted : (b : Bool) → (b ≡ true → ⊥) → not b ≡ true
refuted true never = absurd (never refl)
refuted false never = refl

pub needed_test : (d : Data) (r : FetchAsked) (x : Depth) (id : ObjectId) → (is_needed d r x id ≡ true) ↔ IsNeeded d r x id
needed_test d r x id =
    let all = reached_test (seen_after d r x) (starts_of d r x) id in
    let had = reached_test (seen_by d (border_of r)) (known_haves d r) id in (
      λ e. (let p = both (is_reached (seen_after d r x) (starts_of d r x) id) (not (is_reached (seen_by d (border_of r)) (known_haves d r) id)) e in
          record { reached = all.0 p.0; lacking = λ held. negated (is_reached (seen_by d (border_of r)) (known_haves d r) id) p.1 (had.1 held) }),
      λ n. (let yes : is_reached (seen_after d r x) (starts_of d r x) id ≡ true = all.1 n.reached in
          let lacks : not (is_reached (seen_by d (border_of r)) (known_haves d r) id) ≡ true = refuted (is_reached (seen_by d (border_of r)) (known_haves d r) id) (λ e. n.lacking (had.0 e)) in
          rw yes lacks),
    )
