-- The commit at the front of the queue is the one that comes next.
use Rattle.std.proofs.Common.{◌≡◌, ℕ, ◌<◌, ◌≤◌, Bool, true, false, cond, not, List, [], ◌∷◌, ◌++◌, filter, take, length, Option, Some, None, true≢false, refl, sym, ap, subst, ◌∙◌, arith}
use Rattle.std.specs.Prelude.{is_some, IfSome, IfOk, Result, Ok, Err, ◌||◌, ◌&&◌, ◌==◌, nat_lt, find}
use Rattle.std.specs.BTreeSet.{BTreeSet}
use Rattle.std.specs.FinSet as set
use Rattle.std.specs.List.{list_all}
use Rattle.std.specs.Option.{option_map_or}
use Rattle.std.specs.Ordering.{eq_by_cmp, is_lt, is_gt, nat_cmp, ordering_then, ordering_reverse, MatchOrdering}
use Rattle.std.specs.Cmp.{Equal-is, ranks}
use Rattle.std.proofs.lemmas.Bool.Decides.{nat_tests}
use Rattle.std.specs.declared.cmp.Ordering.{Ordering}
use Rattle.std.specs.declared.cmp.Ordering.TheVariants.{Less, Equal, Greater}
use Rattle.fetch_base.specs.declared.error.NoMemory.{NoMemory}
use Rattle.fetch_base.specs.declared.id.ObjectId.{ObjectId}
use Rattle.fetch_store.specs.Graph.{Graph}
use Rattle.fetch_base.specs.Id.{id_cmp}
use Rattle.fetch_store.proofs.Borders.{any-filter}
use Rattle.fetch_store.proofs.Finds.{ties}
use Rattle.fetch_base.proofs.Ids.{id_cmp_exact, id_cmp_total}
use Rattle.fetch_negotiate.specs.declared.commits.Commit.{Commit}
use Rattle.fetch_negotiate.specs.Ancestors.{links_of}
use Rattle.fetch_negotiate.specs.Commits.{has, commit_of}
use Rattle.fetch_negotiate.specs.Exact.{IsExact}
use Rattle.fetch_negotiate.specs.Haves.{Negotiation, candidates, is_common, is_open, seconds_of, comes_before, first_among, next_taken}
use Rattle.fetch_negotiate.specs.Queues.{Rank, IsEntered, IsFrontier, IsChosen, IsNone, in_queue, rank_at, seconds_at}
use Rattle.fetch_negotiate.specs.Reading.{Read, IsTold, commit_at, links_at}
use Rattle.fetch_negotiate.proofs.Choosing.{told_at, links_told}
use Rattle.fetch_negotiate.proofs.Commons.{take_all}
use Rattle.fetch_negotiate.proofs.Growing.{read_of}
use Rattle.fetch_negotiate.proofs.Queueing.{flat_map_same}

-- ---- lists of ids
same_id : (a b : ObjectId) → eq_by_cmp id_cmp a b ≡ true → a ≡ b
same_id a b e = id_cmp_exact a b ((Equal-is (id_cmp a b)).0 e)

either : (P : Type 0) (a b : Bool) → (a ≡ true → P) → (b ≡ true → P) → (a || b) ≡ true → P
either P true b f g h = f refl
either P false b f g h = g h

here : (x : ObjectId) (xs : List ObjectId) → has (x ∷ xs) x ≡ true
here x xs = ap (λ b. b || has xs x) (ties x x refl)

behind : (a b : Bool) → b ≡ true → (a || b) ≡ true
behind true b h = refl
behind false b h = h

there : (x : ObjectId) (xs : List ObjectId) (q : ObjectId) → has xs q ≡ true → has (x ∷ xs) q ≡ true
there x xs q h = behind (eq_by_cmp id_cmp q x) (has xs q) h

module _ (p : ObjectId → Bool) where
  pub find_only : (xs : List ObjectId) (y : ObjectId) → has xs y ≡ true → p y ≡ true → ((x : ObjectId) → has xs x ≡ true → p x ≡ true → x ≡ y) → find p xs ≡ Some y
  find_only [] y h is only = absurd (true≢false (sym h))
  find_only (x ∷ xs) y h is only = at (p x) refl (λ y_in. find_only xs y y_in is (λ z z_in z_is. only z (there x xs z z_in) z_is))
    where
      at : (b : Bool) → p x ≡ b → (has xs y ≡ true → find p xs ≡ Some y) → cond b (Some x) (find p xs) ≡ Some y
      at true e rest = ap (λ (z : ObjectId). Some z) (only x (here x xs) e)
      at false e rest = rest (either (has xs y ≡ true) (eq_by_cmp id_cmp y x) (has xs y) (λ same. absurd (true≢false (sym is ∙ ap p (same_id y x same) ∙ e))) (λ found. found) h)

  pub find_none : (xs : List ObjectId) → ((x : ObjectId) → has xs x ≡ true → p x ≡ false) → find p xs ≡ None
  find_none [] none = refl
  find_none (x ∷ xs) none = ap (λ b. cond b (Some x) (find p xs)) (none x (here x xs)) ∙ find_none xs (λ z h. none z (there x xs z h))

  pub filter_none : (xs : List ObjectId) → ((x : ObjectId) → has xs x ≡ true → p x ≡ false) → filter p xs ≡ []
  filter_none [] none = refl
  filter_none (x ∷ xs) none = ap (λ b. cond b (x ∷ filter p xs) (filter p xs)) (none x (here x xs)) ∙ filter_none xs (λ z h. none z (there x xs z h))

  pub found_in : (xs : List ObjectId) (y : ObjectId) → find p xs ≡ Some y → has xs y ≡ true
  found_in [] y e = absurd cc
  found_in (x ∷ xs) y e = at (p x) e (found_in xs y)
    where
      at : (b : Bool) → cond b (Some x) (find p xs) ≡ Some y → (find p xs ≡ Some y → has xs y ≡ true) → has (x ∷ xs) y ≡ true
      at true e rest = let same : x ≡ y = cc in subst (λ (q : ObjectId). has (x ∷ xs) q ≡ true) same (here x xs)
      at false e rest = there x xs y (rest e)

  pub all_true : (xs : List ObjectId) → ((x : ObjectId) → has xs x ≡ true → p x ≡ true) → list_all p xs ≡ true
  all_true [] each = refl
  all_true (x ∷ xs) each = ap (λ b. b && list_all p xs) (each x (here x xs)) ∙ all_true xs (λ z h. each z (there x xs z h))

  pub all_at : (xs : List ObjectId) → list_all p xs ≡ true → (x : ObjectId) → has xs x ≡ true → p x ≡ true
  all_at [] all x h = absurd (true≢false (sym h))
  all_at (y ∷ xs) all x h = at (p y) refl all (λ rest. all_at xs rest x)
    where
      at : (b : Bool) → p y ≡ b → (b && list_all p xs) ≡ true → (list_all p xs ≡ true → has xs x ≡ true → p x ≡ true) → p x ≡ true
      at true e all rest = either (p x ≡ true) (eq_by_cmp id_cmp x y) (has xs x) (λ same. ap p (same_id x y same) ∙ e) (rest all) h
      at false e all rest = absurd (true≢false (sym all))

-- ---- the order
abbrev before : ℕ → ObjectId → ℕ → ObjectId → Bool
before sa a sb b = nat_lt sb sa || (sa == sb && is_lt (id_cmp a b))

lt_not_gt : (o : Ordering) → is_gt o ≡ false → is_lt (ordering_reverse o) ≡ false
lt_not_gt Less e = refl
lt_not_gt Equal e = refl
lt_not_gt Greater e = absurd (true≢false e)

behind_by : (sa sb : ℕ) (o : Ordering) → is_gt (ordering_then (nat_cmp sb sa) o) ≡ false → (nat_lt sa sb || (sb == sa && is_lt (ordering_reverse o))) ≡ false
behind_by sa sb o e = at (nat_cmp sb sa) (ranks sb sa) e
  where
    at : (r : Ordering) → MatchOrdering r (sb < sa) (sb ≡ sa) (sa < sb) → is_gt (ordering_then r o) ≡ false → (nat_lt sa sb || (sb == sa && is_lt (ordering_reverse o))) ≡ false
    at Less h e = grind (arith, nat_tests)
    at Equal h e = let f = lt_not_gt o e in grind (arith, nat_tests)
    at Greater h e = absurd (true≢false e)

-- what isn't after another stands before no other
pub not_behind : (sa sb : ℕ) (a b : ObjectId) → is_gt (ordering_then (nat_cmp sb sa) (id_cmp a b)) ≡ false → before sb b sa a ≡ false
not_behind sa sb a b e = ap (λ (o : Ordering). nat_lt sa sb || (sb == sa && is_lt o)) (id_cmp_total.antisymm b a) ∙ behind_by sa sb (id_cmp a b) e

settled : (o : Ordering) → is_lt o ≡ false → is_lt (ordering_reverse o) ≡ false → o ≡ Equal
settled Less e f = absurd (true≢false e)
settled Equal e f = refl
settled Greater e f = absurd (true≢false f)

tied : (sa sb : ℕ) (o : Ordering) → (nat_lt sb sa || (sa == sb && is_lt o)) ≡ false → (nat_lt sa sb || (sb == sa && is_lt (ordering_reverse o))) ≡ false → o ≡ Equal
tied sa sb o e f = at (nat_cmp sb sa) (ranks sb sa)
  where
    at : (r : Ordering) → MatchOrdering r (sb < sa) (sb ≡ sa) (sa < sb) → o ≡ Equal
    at Less h = absurd (grind (arith, nat_tests))
    at Equal h = settled o (grind (arith, nat_tests)) (grind (arith, nat_tests))
    at Greater h = absurd (grind (arith, nat_tests))

-- two of which none stands before the other are one
pub one_place : (sa sb : ℕ) (a b : ObjectId) → before sa a sb b ≡ false → before sb b sa a ≡ false → a ≡ b
one_place sa sb a b e f = id_cmp_exact a b (tied sa sb (id_cmp a b) e (sym (ap (λ (o : Ordering). nat_lt sa sb || (sb == sa && is_lt o)) (id_cmp_total.antisymm b a)) ∙ f))

-- ---- open commits
pub three : (a b c : Bool) → (a && not b && not c) ≡ true → (a ≡ true) × ((b ≡ false) × (c ≡ false))
three true false false h = (refl, (refl, refl))
three true false true h = absurd (true≢false (sym h))
three true true c h = absurd (true≢false (sym h))
three false b c h = absurd (true≢false (sym h))

all_three : (a b c : Bool) → a ≡ true → b ≡ false → c ≡ false → (a && not b && not c) ≡ true
all_three a b c p q r = ap (λ x. x && not b && not c) p ∙ ap (λ x. true && not x && not c) q ∙ ap (λ x. true && true && not x) r

both : (a b : Bool) → (a && b) ≡ true → (a ≡ true) × (b ≡ true)
both true b h = (refl, h)
both false b h = absurd (true≢false (sym h))

and_of : (a b : Bool) → a ≡ true → b ≡ true → (a && b) ≡ true
and_of true b p q = q
and_of false b p q = absurd (true≢false (sym p))

is_false : (b : Bool) → (b ≡ true → ⊥) → b ≡ false
is_false true f = absurd (f refl)
is_false false f = refl

not_false : (b : Bool) → not b ≡ true → b ≡ false
not_false true h = absurd (true≢false (sym h))
not_false false h = refl

-- what comes next is open
pub taken_open : (g : Graph) (n : Negotiation) (id : ObjectId) → next_taken g n ≡ Some id → is_open g n id ≡ true
unfolding next_taken
taken_open g n id e =
    let found = found_in (λ id. list_all (λ other. not (comes_before g other id)) (filter (is_open g n) (candidates g n))) (filter (is_open g n) (candidates g n)) id e in
    (both (has (candidates g n) id) (is_open g n id) (sym (any-filter id (is_open g n) (candidates g n)) ∙ found)).1

-- what comes next is a stored commit, and wasn't taken
pub next_stored : (g : Graph) (n : Negotiation) (next : Option ObjectId) → next ≡ next_taken g n → IfSome next (λ id. is_some (commit_of g id) ≡ true)
next_stored g n None e = tt
next_stored g n (Some id) e = (three (is_some (commit_of g id)) (has n.taken id) (is_common g n.border n.acknowledged id) (taken_open g n id (sym e))).0

pub next_fresh : (g : Graph) (n : Negotiation) (next : Option ObjectId) → next ≡ next_taken g n → IfSome next (λ id. has n.taken id ≡ false)
next_fresh g n None e = tt
next_fresh g n (Some id) e = (three (is_some (commit_of g id)) (has n.taken id) (is_common g n.border n.acknowledged id) (taken_open g n id (sym e))).1.0

pub ok_stored : (g : Graph) (n : Negotiation) (r : Result (Option ObjectId) NoMemory) → IfOk r (λ next. next ≡ next_taken g n) → IfOk r (λ next. IfSome next (λ id. is_some (commit_of g id) ≡ true))
ok_stored g n (Ok next) e = next_stored g n next e
ok_stored g n (Err m) e = tt

pub ok_fresh : (g : Graph) (n : Negotiation) (r : Result (Option ObjectId) NoMemory) → IfOk r (λ next. next ≡ next_taken g n) → IfOk r (λ next. IfSome next (λ id. has n.taken id ≡ false))
ok_fresh g n (Ok next) e = next_fresh g n next e
ok_fresh g n (Err m) e = tt

module _ (k : Read) (g : Graph) (border : set.FinSet id_cmp) (acknowledged commits : List ObjectId) (tips : ℕ) (cands : List ObjectId) (entered : ℕ) (queue : BTreeSet Rank) (taken : List ObjectId)
    (told : IsTold k g) (exact : IsExact g border acknowledged commits) (all : length cands ≤ entered) (frontier : IsFrontier k border commits tips cands entered queue taken) where
  abbrev the : Negotiation
  the = record { tips = take tips cands; border = border; taken = taken; acknowledged = acknowledged }

  abbrev opened : List ObjectId
  opened = filter (is_open g the) (candidates g the)

  candidates_are : candidates g the ≡ cands
  candidates_are = sym (frontier.all ∙ ap (λ (m : List ObjectId). take tips cands ++ m) (flat_map_same (links_at k border) (links_of g border) taken (λ q h. sym (links_told k g told border q (read_of k q (frontier.known q h))))))

  each : (q : ObjectId) → has cands q ≡ true → IsEntered k commits taken queue q
  each q h = frontier.each q (ap (λ (l : List ObjectId). has l q) (take_all cands entered all) ∙ h)

  seconds_told : (q : ObjectId) → is_some (k q) ≡ true → seconds_of g q ≡ seconds_at k q
  seconds_told q h = ap (λ (c : Option Commit). option_map_or (λ (c : Commit). c.seconds) c 0) (told_at k g told q h)

  stored_told : (q : ObjectId) → is_some (k q) ≡ true → is_some (commit_of g q) ≡ is_some (commit_at k q)
  stored_told q h = ap (λ (c : Option Commit). is_some c) (told_at k g told q h)

  parts : (q : ObjectId) → has opened q ≡ true → (has cands q ≡ true) × (is_open g the q ≡ true)
  parts q h =
      let p = both (has (candidates g the) q) (is_open g the q) (sym (any-filter q (is_open g the) (candidates g the)) ∙ h) in
      (sym (ap (λ (l : List ObjectId). has l q) candidates_are) ∙ p.0, p.1)

  waits : (q : ObjectId) → has opened q ≡ true → in_queue queue (rank_at k q) ≡ true
  waits q h =
      let p = parts q h in
      let o = three (is_some (commit_of g q)) (has taken q) (is_common g border acknowledged q) p.1 in
      let e = each q p.0 in
      e.waits (sym (stored_told q e.read) ∙ o.0) o.1.0 (exact.each q o.0 ∙ o.1.1)

  read_open : (q : ObjectId) → has opened q ≡ true → is_some (k q) ≡ true
  read_open q h = (each q (parts q h).0).read

  chosen_in : (id : ObjectId) → IsChosen k commits taken queue id → has opened id ≡ true
  chosen_in id c =
      let e = frontier.queued (rank_at k id) c.waits in
      let stored = stored_told id (read_of k id e.stored) ∙ e.stored in
      any-filter id (is_open g the) (candidates g the)
      ∙ and_of (has (candidates g the) id) (is_open g the id) (ap (λ (l : List ObjectId). has l id) candidates_are ∙ e.candidate)
      (all_three (is_some (commit_of g id)) (has taken id) (is_common g border acknowledged id) stored c.fresh (sym (exact.each id stored) ∙ c.common))

  -- none of the open ones comes before the chosen one
  none_before : (id : ObjectId) → IsChosen k commits taken queue id → (q : ObjectId) → has opened q ≡ true → comes_before g q id ≡ false
  none_before id c q h =
      let sq = seconds_told q (read_open q h) in
      let si = seconds_told id (read_open id (chosen_in id c)) in
      ap (λ (s : ℕ). before s q (seconds_of g id) id) sq ∙ ap (λ (s : ℕ). before (seconds_at k q) q s id) si
      ∙ not_behind (seconds_at k id) (seconds_at k q) id q (c.first (rank_at k q) (waits q h))

  pub next_is : (id : ObjectId) → IsChosen k commits taken queue id → next_taken g the ≡ Some id
  unfolding next_taken
  next_is id c =
      find_only (λ id. list_all (λ other. not (comes_before g other id)) opened) opened id (chosen_in id c)
      (all_true (λ other. not (comes_before g other id)) opened (λ q h. ap not (none_before id c q h)))
      (λ q h first. one_place (seconds_of g q) (seconds_of g id) q id (none_before id c q h) (not_false (comes_before g id q) (all_at (λ other. not (comes_before g other q)) opened first id (chosen_in id c))))

  pub next_none : IsNone queue → next_taken g the ≡ None
  unfolding next_taken
  next_none none = ap (λ (l : List ObjectId). first_among g l) nothing
    where
      empty : (q : ObjectId) → has opened q ≡ false
      empty q = is_false (has opened q) (λ h. true≢false (sym (waits q h) ∙ none.empty (rank_at k q)))

      nothing : opened ≡ []
      nothing = filter_none (is_open g the) (candidates g the) (λ q h. is_false (is_open g the q) (λ o. true≢false (sym (any-filter q (is_open g the) (candidates g the) ∙ and_of (has (candidates g the) q) (is_open g the q) h o) ∙ empty q)))
