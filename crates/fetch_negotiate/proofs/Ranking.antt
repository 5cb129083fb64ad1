-- The order of the queue, and what its changes leave.
use Rattle.std.proofs.Common.{◌≡◌, ℕ, ◌<◌, length, arith, ◌⊎◌, inl, inr, Bool, true, false, cond, List, [], ◌∷◌, true≢false, refl, sym, ap, subst, ◌∙◌}
use Rattle.std.specs.BTreeSet as tree
use Rattle.std.specs.BTreeSet.{BTreeSet}
use Rattle.std.specs.BTreeMap.{is_at}
use Rattle.std.specs.List.{list_any}
use Rattle.std.specs.Ordering.{nat_cmp, ordering_then, is_eq, is_gt}
use Rattle.std.specs.FinMap.{nat_cmp-IsAntisymmetric}
use Rattle.std.specs.declared.cmp.Ordering.{Ordering}
use Rattle.std.specs.declared.cmp.Ordering.TheVariants.{Less, Equal, Greater}
use Rattle.std.specs.declared.cmp.Reverse.{Reverse}
use Rattle.fetch_base.specs.contracts.id.ObjectIdOrd.TheImpl as order
use Rattle.fetch_base.specs.Id.{id_cmp}
use Rattle.fetch_base.proofs.Ids.{id_cmp_exact}
use Rattle.fetch_base.proofs.Orders.{cmp_is}
use Rattle.fetch_negotiate.specs.Queues.{Rank, rank_cmp, in_queue, IsFront, IsNone}

-- the order that Rust derives for pairs
abbrev pub derived : Rank → Rank → Ordering
derived a b = ordering_then (nat_cmp b.0.0 a.0.0) ((order.ghosts).cmp a.1 b.1)

pub rank_is : derived ≡ rank_cmp
rank_is = λ i a b. ordering_then (nat_cmp b.0.0 a.0.0) (cmp_is i a.1 b.1)

pub rank_exact : (a b : Rank) → is_eq (rank_cmp a b) ≡ true → a ≡ b
rank_exact a b e = at (nat_cmp b.0.0 a.0.0) refl e
  where
    pair : b.0.0 ≡ a.0.0 → a.1 ≡ b.1 → a ≡ b
    pair s q = λ i. (let r : Reverse ℕ = record { 0 = sym s i } in r, q i)

    same_id : (o : Ordering) → id_cmp a.1 b.1 ≡ o → is_eq o ≡ true → a.1 ≡ b.1
    same_id Less is e = absurd (true≢false (sym e))
    same_id Equal is e = id_cmp_exact a.1 b.1 is
    same_id Greater is e = absurd (true≢false (sym e))

    at : (o : Ordering) → nat_cmp b.0.0 a.0.0 ≡ o → is_eq (ordering_then o (id_cmp a.1 b.1)) ≡ true → a ≡ b
    at Less is e = absurd (true≢false (sym e))
    at Equal is e = pair (nat_cmp-IsAntisymmetric b.0.0 a.0.0 is) (same_id (id_cmp a.1 b.1) refl e)
    at Greater is e = absurd (true≢false (sym e))

-- ---- changes of the queue
pub record Puts (s t : BTreeSet Rank) (r : Rank) : Type 0 where
  pub here : in_queue t r ≡ true
  pub stays : (q : Rank) → in_queue s q ≡ true → in_queue t q ≡ true
  pub only : (q : Rank) → in_queue t q ≡ true → (r ≡ q) ⊎ (in_queue s q ≡ true)

abbrev ByCmp : (Rank → Rank → Ordering) → BTreeSet Rank → BTreeSet Rank → Rank → Bool → Type 0
ByCmp cmp s t r b = ((q : Rank) → tree.contains cmp t q ≡ cond (is_eq (cmp r q)) b (tree.contains cmp s q)) × (tree.contains cmp t r ≡ b)

kept : (b c : Bool) → c ≡ true → cond b true c ≡ true
kept true c h = refl
kept false c h = h

pub puts : (s t : BTreeSet Rank) (r : Rank) → tree.Updates derived s t r true → Puts s t r
puts s t r updates =
    let by : ByCmp rank_cmp s t r true = subst (λ (cmp : Rank → Rank → Ordering). ByCmp cmp s t r true) rank_is (updates.0, updates.1) in
    record {
      here = by.1;
      stays = λ q h. by.0 q ∙ kept (is_eq (rank_cmp r q)) (in_queue s q) h;
      only = λ q h. either q (is_eq (rank_cmp r q)) refl (sym (by.0 q) ∙ h);
    }
  where
    either : (q : Rank) (b : Bool) → is_eq (rank_cmp r q) ≡ b → cond b true (in_queue s q) ≡ true → (r ≡ q) ⊎ (in_queue s q ≡ true)
    either q true e h = inl (rank_exact r q e)
    either q false e h = inr h

pub record Drops (s t : BTreeSet Rank) (r : Rank) : Type 0 where
  pub before : (q : Rank) → in_queue t q ≡ true → in_queue s q ≡ true
  pub stays : (q : Rank) → (r.1 ≡ q.1 → ⊥) → in_queue s q ≡ true → in_queue t q ≡ true

pub drops : (s t : BTreeSet Rank) (r : Rank) → tree.Updates derived s t r false → Drops s t r
drops s t r updates =
    let by : ByCmp rank_cmp s t r false = subst (λ (cmp : Rank → Rank → Ordering). ByCmp cmp s t r false) rank_is (updates.0, updates.1) in
    record {
      before = λ q h. there (is_eq (rank_cmp r q)) (in_queue s q) (sym (by.0 q) ∙ h);
      stays = λ q other h. by.0 q ∙ stay q other h (is_eq (rank_cmp r q)) refl;
    }
  where
    there : (b c : Bool) → cond b false c ≡ true → c ≡ true
    there true c h = absurd (true≢false (sym h))
    there false c h = h

    stay : (q : Rank) → (r.1 ≡ q.1 → ⊥) → in_queue s q ≡ true → (b : Bool) → is_eq (rank_cmp r q) ≡ b → cond b false (in_queue s q) ≡ true
    stay q other h true e = absurd (other (ap (λ (x : Rank). x.1) (rank_exact r q e)))
    stay q other h false e = h

pub contains_ranked : (s : BTreeSet Rank) (r : Rank) → tree.contains derived s r ≡ in_queue s r
contains_ranked s r = ap (λ (cmp : Rank → Rank → Ordering). tree.contains cmp s r) rank_is

pub front_is : (queue : BTreeSet Rank) (r : Rank) → tree.contains derived queue r ≡ true → ((q : Rank) → tree.contains derived queue q ≡ true → is_gt (derived r q) ≡ false) → IsFront queue r
front_is queue r member least =
    record {
      here = sym (contains_ranked queue r) ∙ member;
      first = λ q h. ap (λ (cmp : Rank → Rank → Ordering). is_gt (cmp r q)) (sym rank_is) ∙ least q (contains_ranked queue q ∙ h);
    }

nothing : (p : Rank → Bool) (ks : List Rank) → (0 < length ks → false ≡ true) → list_any p ks ≡ false
nothing p [] none = refl
nothing p (x ∷ ks) none = absurd (true≢false (sym (none (omega arith))))

pub none_is : (queue : BTreeSet Rank) → (0 < length queue.keys → false ≡ true) → IsNone queue
none_is queue none = record { empty = λ r. nothing (is_at (rank_cmp r)) queue.keys none }
