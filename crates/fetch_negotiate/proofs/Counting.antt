-- How many stored commits aren't taken yet, and what follows for commits that are passed over.
use Rattle.std.proofs.Common.{◌≡◌, ℕ, zero, suc, ◌<◌, ◌≤◌, Bool, true, false, cond, not, List, [], ◌∷◌, ◌++◌, filter, length, Option, Some, None, true≢false, refl, sym, ap, subst, ◌∙◌, arith}
use Rattle.std.specs.Prelude.{is_some, IfSome, ◌||◌}
use Rattle.std.specs.FinMap as finmap
use Rattle.std.specs.Cmp.{Equal-is}
use Rattle.std.specs.Ordering.{eq_by_cmp}
use Rattle.fetch_base.specs.declared.id.ObjectId.{ObjectId}
use Rattle.fetch_store.specs.Graph.{Graph}
use Rattle.fetch_base.specs.Id.{id_cmp}
use Rattle.fetch_store.proofs.Finds.{ties}
use Rattle.fetch_base.proofs.Ids.{id_cmp_exact}
use Rattle.fetch_negotiate.specs.Commits.{has, commit_of}
use Rattle.fetch_negotiate.specs.Haves.{Negotiation, taking, next_taken}
use Rattle.fetch_negotiate.specs.Sharing.{Covers}
use Rattle.fetch_negotiate.specs.Skips.{Offer, offers, after_one, skipping, next_offered}
use Rattle.fetch_negotiate.proofs.Choosing.{stored_is_key}
use Rattle.fetch_negotiate.proofs.Commons.{has_append, split}
use Rattle.fetch_negotiate.proofs.Nexts.{next_stored, next_fresh}
use Rattle.fetch_negotiate.proofs.Onces.{has_push}

same_id : (a b : ObjectId) → eq_by_cmp id_cmp a b ≡ true → a ≡ b
same_id a b e = id_cmp_exact a b ((Equal-is (id_cmp a b)).0 e)

either : (P : Type 0) (a b : Bool) → (a ≡ true → P) → (b ≡ true → P) → (a || b) ≡ true → P
either P true b f g h = f refl
either P false b f g h = g h

module _ (p q : ObjectId → Bool) (less : (x : ObjectId) → q x ≡ true → p x ≡ true) where
  no_more : (xs : List ObjectId) → length (filter q xs) ≤ length (filter p xs)
  no_more [] = omega arith
  no_more (x ∷ xs) = at (p x) (q x) refl refl (no_more xs)
    where
      at : (a b : Bool) → p x ≡ a → q x ≡ b → length (filter q xs) ≤ length (filter p xs) → length (cond b (x ∷ filter q xs) (filter q xs)) ≤ length (cond a (x ∷ filter p xs) (filter p xs))
      at true true e f h = omega arith
      at true false e f h = omega arith
      at false true e f h = absurd (true≢false (sym (less x f) ∙ e))
      at false false e f h = h

  fewer : (xs : List ObjectId) (y : ObjectId) → has xs y ≡ true → p y ≡ true → q y ≡ false → length (filter q xs) < length (filter p xs)
  fewer [] y h e f = absurd (true≢false (sym h))
  fewer (x ∷ xs) y h e f = at (p x) (q x) refl refl (no_more xs) (λ rest. fewer xs y rest e f)
    where
      at : (a b : Bool) → p x ≡ a → q x ≡ b → length (filter q xs) ≤ length (filter p xs) → (has xs y ≡ true → length (filter q xs) < length (filter p xs))
          → length (cond b (x ∷ filter q xs) (filter q xs)) < length (cond a (x ∷ filter p xs) (filter p xs))
      at true true pe qe same rest =
          let r : length (filter q xs) < length (filter p xs) = either _ (eq_by_cmp id_cmp y x) (has xs y) (λ s. absurd (true≢false (sym qe ∙ ap q (sym (same_id y x s)) ∙ f))) rest h in omega arith
      at true false pe qe same rest = omega arith
      at false true pe qe same rest = absurd (true≢false (sym (less x qe) ∙ pe))
      at false false pe qe same rest = either _ (eq_by_cmp id_cmp y x) (has xs y) (λ s. absurd (true≢false (sym e ∙ ap p (same_id y x s) ∙ pe))) rest h

abbrev untaken_in : List ObjectId → List ObjectId → List ObjectId
untaken_in taken ids = filter (λ id. not (has taken id)) ids

abbrev pub untaken : Graph → Negotiation → ℕ
untaken g n = length (untaken_in n.taken (finmap.keys g))

all_of : (p : ObjectId → Bool) (xs : List ObjectId) → length (filter p xs) ≤ length xs
all_of p [] = omega arith
all_of p (x ∷ xs) = at (p x) (all_of p xs)
  where
    at : (b : Bool) → length (filter p xs) ≤ length xs → length (cond b (x ∷ filter p xs) (filter p xs)) ≤ suc (length xs)
    at true h = omega arith
    at false h = omega arith

before : (a b : Bool) → not (a || b) ≡ true → not b ≡ true
before true b h = absurd (true≢false (sym h))
before false b h = h

module _ (g : Graph) where
  pub next_fewer : (n : Negotiation) (id : ObjectId) → next_taken g n ≡ Some id → untaken g (taking n (Some id)) < untaken g n
  next_fewer n id e =
      fewer (λ x. not (has n.taken x)) (λ x. not (has (n.taken ++ id ∷ []) x)) (λ x h. before (eq_by_cmp id_cmp x id) (has n.taken x) (sym (ap not (has_push n.taken id x)) ∙ h)) (finmap.keys g) id
      (stored_is_key g n.border id (next_stored g n (Some id) (sym e))) (ap not (next_fresh g n (Some id) (sym e)))
      (ap not (has_push n.taken id id ∙ ap (λ b. b || has n.taken id) (ties id id refl)))

  abbrev pub none : Negotiation → Offer
  none n = record { later = n; have = None }

  abbrev pub some : Negotiation → ObjectId → Offer
  some n id = record { later = taking n (Some id); have = Some id }

  -- one more step changes nothing where no commit is left for it
  more_steps : (f : ℕ) (n : Negotiation) → untaken g n ≤ f → skipping g f n ≡ skipping g (suc f) n
  unfolding skipping
  more_steps zero n h = at (next_taken g n) refl
    where
      at : (o : Option ObjectId) → next_taken g n ≡ o → none n ≡ after_one g n o (skipping g zero)
      at None e = refl
      at (Some id) e = let lt = next_fewer n id e in absurd (omega arith)
  more_steps (suc f) n h = at (next_taken g n) refl (λ m less. more_steps f m less)
    where
      at : (o : Option ObjectId) → next_taken g n ≡ o → ((m : Negotiation) → untaken g m ≤ f → skipping g f m ≡ skipping g (suc f) m) → after_one g n o (skipping g f) ≡ after_one g n o (skipping g (suc f))
      at None e rest = refl
      at (Some id) e rest = let lt = next_fewer n id e in ap (λ (r : Offer). cond (offers g n id) (some n id) r) (rest (taking n (Some id)) (omega arith))

  -- a commit that isn't offered is passed over
  pub passed_over : (n : Negotiation) (id : ObjectId) → next_taken g n ≡ Some id → offers g n id ≡ false → next_offered g n ≡ next_offered g (taking n (Some id))
  unfolding next_offered skipping
  passed_over n id e f = at (length (finmap.keys g)) (all_of (λ x. not (has n.taken x)) (finmap.keys g))
    where
      at : (k : ℕ) → untaken g n ≤ k → skipping g k n ≡ skipping g k (taking n (Some id))
      at zero h = let lt = next_fewer n id e in absurd (omega arith)
      at (suc k) h =
          let lt = next_fewer n id e in
          ap (λ (o : Option ObjectId). after_one g n o (skipping g k)) e ∙ ap (λ b. cond b (some n id) (skipping g k (taking n (Some id)))) f ∙ more_steps k (taking n (Some id)) (omega arith)

  pub ends_some : (n : Negotiation) (id : ObjectId) → next_taken g n ≡ Some id → offers g n id ≡ true → next_offered g n ≡ some n id
  unfolding next_offered skipping
  ends_some n id e f = at (length (finmap.keys g)) (all_of (λ x. not (has n.taken x)) (finmap.keys g))
    where
      at : (k : ℕ) → untaken g n ≤ k → skipping g k n ≡ some n id
      at zero h = let lt = next_fewer n id e in absurd (omega arith)
      at (suc k) h = ap (λ (o : Option ObjectId). after_one g n o (skipping g k)) e ∙ ap (λ b. cond b (some n id) (skipping g k (taking n (Some id)))) f

  pub ends_none : (n : Negotiation) → next_taken g n ≡ None → next_offered g n ≡ none n
  unfolding next_offered skipping
  ends_none n e = at (length (finmap.keys g))
    where
      at : (k : ℕ) → skipping g k n ≡ none n
      at zero = refl
      at (suc k) = ap (λ (o : Option ObjectId). after_one g n o (skipping g k)) e

  -- ---- what is offered is a stored commit, and wasn't taken before
  pub record IsNew (n : Negotiation) (o : Offer) : Type 0 where
    pub stored : IfSome o.have (λ id. is_some (commit_of g id) ≡ true)
    pub fresh : IfSome o.have (λ id. has n.taken id ≡ false)
    pub taken : IfSome o.have (λ id. has o.later.taken id ≡ true)
    pub more : Covers n.taken o.later.taken

  pub new_none : (n : Negotiation) → IsNew n (none n)
  new_none n = record { stored = tt; fresh = tt; taken = tt; more = record { stays = λ q h. h } }

  grown : (n : Negotiation) (id : ObjectId) → Covers n.taken (n.taken ++ id ∷ [])
  grown n id = record { stays = λ q h. has_append n.taken (id ∷ []) q h }

  pub new_some : (n : Negotiation) (id : ObjectId) → next_taken g n ≡ Some id → IsNew n (some n id)
  new_some n id e =
      record {
        stored = next_stored g n (Some id) (sym e);
        fresh = next_fresh g n (Some id) (sym e);
        taken = has_push n.taken id id ∙ ap (λ b. b || has n.taken id) (ties id id refl);
        more = grown n id;
      }

  if_fresh : (o : Option ObjectId) (xs ys : List ObjectId) → Covers xs ys → IfSome o (λ id. has ys id ≡ false) → IfSome o (λ id. has xs id ≡ false)
  if_fresh None xs ys c f = tt
  if_fresh (Some id) xs ys c f = at (has xs id) refl
    where
      at : (b : Bool) → has xs id ≡ b → has xs id ≡ false
      at true e = absurd (true≢false (sym (c.stays id e) ∙ f))
      at false e = e

  new_after : (n m : Negotiation) (o : Offer) → Covers n.taken m.taken → IsNew m o → IsNew n o
  new_after n m o c new = record { stored = new.stored; fresh = if_fresh o.have n.taken m.taken c new.fresh; taken = new.taken; more = record { stays = λ q h. new.more.stays q (c.stays q h) } }

  skipping_new : (f : ℕ) (n : Negotiation) → IsNew n (skipping g f n)
  unfolding skipping
  skipping_new zero n = new_none n
  skipping_new (suc f) n = at (next_taken g n) refl (λ m. skipping_new f m)
    where
      chosen : (b : Bool) (id : ObjectId) → next_taken g n ≡ Some id → IsNew (taking n (Some id)) (skipping g f (taking n (Some id))) → IsNew n (cond b (some n id) (skipping g f (taking n (Some id))))
      chosen true id e rest = new_some n id e
      chosen false id e rest = new_after n (taking n (Some id)) (skipping g f (taking n (Some id))) (grown n id) rest

      at : (o : Option ObjectId) → next_taken g n ≡ o → ((m : Negotiation) → IsNew m (skipping g f m)) → IsNew n (after_one g n o (skipping g f))
      at None e rest = new_none n
      at (Some id) e rest = chosen (offers g n id) id e (rest (taking n (Some id)))

  pub offered_new : (n : Negotiation) → IsNew n (next_offered g n)
  unfolding next_offered
  offered_new n = skipping_new (length (finmap.keys g)) n

pub new_stored : (g : Graph) (n : Negotiation) (id : ObjectId) → (next_offered g n).have ≡ Some id → is_some (commit_of g id) ≡ true
new_stored g n id e = subst (λ (o : Option ObjectId). IfSome o (λ id. is_some (commit_of g id) ≡ true)) e (offered_new g n).stored

pub new_fresh : (g : Graph) (n : Negotiation) (id : ObjectId) → (next_offered g n).have ≡ Some id → has n.taken id ≡ false
new_fresh g n id e = subst (λ (o : Option ObjectId). IfSome o (λ id. has n.taken id ≡ false)) e (offered_new g n).fresh

pub new_taken : (g : Graph) (n m : Negotiation) (id : ObjectId) → (next_offered g n).have ≡ Some id → m ≡ (next_offered g n).later → has m.taken id ≡ true
new_taken g n m id e same = ap (λ (x : Negotiation). has x.taken id) same ∙ subst (λ (o : Option ObjectId). IfSome o (λ id. has (next_offered g n).later.taken id ≡ true)) e (offered_new g n).taken

pub not_covered : (xs ys : List ObjectId) (id : ObjectId) → Covers xs ys → has ys id ≡ false → has xs id ≡ false
not_covered xs ys id c f = at (has xs id) refl
  where
    at : (b : Bool) → has xs id ≡ b → has xs id ≡ false
    at true e = absurd (true≢false (sym (c.stays id e) ∙ f))
    at false e = e

-- one more commit is offered, which was taken
pub covers_push : (offered taken now : List ObjectId) (id : ObjectId) → Covers offered taken → Covers taken now → has now id ≡ true → Covers (offered ++ id ∷ []) now
covers_push offered taken now id a b h = record { stays = λ q e. split (λ x. has now x ≡ true) id q (has offered q) h (λ f. b.stays q (a.stays q f)) (sym (has_push offered id q) ∙ e) }

-- ---- one commit further
pub more_taken : (xs : List ObjectId) (n m v : Negotiation) (id : ObjectId) → Covers xs n.taken → m ≡ n → v ≡ taking m (Some id) → Covers xs v.taken
more_taken xs n m v id c same also = record { stays = λ q h. ap (λ (x : Negotiation). has x.taken q) also ∙ has_append m.taken (id ∷ []) q (ap (λ (x : Negotiation). has x.taken q) same ∙ c.stays q h) }

pub smaller : (g : Graph) (n m v : Negotiation) (id : ObjectId) → m ≡ n → v ≡ taking m (Some id) → next_taken g m ≡ Some id → untaken g v < untaken g n
smaller g n m v id same also next =
    subst (λ (x : Negotiation). untaken g v < untaken g x) same (subst (λ (x : Negotiation). untaken g x < untaken g m) (sym also) (next_fewer g m id next))

pub found_next : (g : Graph) (n m : Negotiation) (o p : Option ObjectId) → m ≡ n → o ≡ next_taken g n → o ≡ p → next_taken g m ≡ p
found_next g n m o p same is found = ap (λ (x : Negotiation). next_taken g x) same ∙ sym is ∙ found

-- the answer, where it is known for the negotiation that was come to
pub come_to : (g : Graph) (start n m : Negotiation) (o : Offer) → next_offered g n ≡ next_offered g start → m ≡ n → next_offered g m ≡ o → next_offered g start ≡ o
come_to g start n m o before same is = sym before ∙ ap (λ (x : Negotiation). next_offered g x) (sym same) ∙ is
