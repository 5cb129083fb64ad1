-- What an id that is looked at adds to a walk.
use Rattle.std.proofs.Common.{◌≡◌, ℕ, ◌+◌, ◌≤◌, Bool, true, false, cond, List, [], ◌∷◌, length, Option, Some, None, Result, Ok, Err, Contains, refl, sym, ap, subst, ◌∙◌, arith, inl, inr}
use Rattle.std.specs.Prelude.{OnOk, OnErr, is_some}
use Rattle.std.specs.Option.{option_map, option_and_then, option_map_or}
use Rattle.std.specs.FinMap.{get, entries, find, get-entries}
use Rattle.std.proofs.lemmas.Bool.{cases_lt}
use Rattle.std.proofs.lemmas.List.Sorted.{IsPermutation-sym, Contains-permutation, length_permutation, sum_by_pushed}
use Rattle.fetch_base.specs.declared.id.ObjectId.{ObjectId}
use Rattle.fetch_base.specs.declared.object_kind.ObjectKind.TheVariants.{Commit}
use Rattle.fetch_store.specs.Graph.{Graph, Node}
use Rattle.fetch_base.specs.Kinds.{is_kind}
use Rattle.fetch_base.specs.Id.{id_cmp}
use Rattle.fetch_update.specs.Dated.{IsCommit, commit_at, parents_at, seconds_in, seconds_at}
use Rattle.fetch_update.specs.Walks.{State, has, IsDated, IsWaiting, Grows, Keeps, cost, cost_waiting, room, work}
use Rattle.fetch_update.proofs.Seen.{Added, added_keeps, added_cases, unseen_mono, unseen_less, Contains-first, Contains-later, Contains-cases}

pub grows_self : (g : Graph) (limit : ℕ) (ids : List ObjectId) (a b : State) → b.seen ≡ a.seen → b.waiting ≡ a.waiting → Grows g limit ids a b
grows_self g limit ids a b seen waiting = record {
  seen = λ q h. ap (λ (s : List ObjectId). has s q) seen ∙ h;
  kept = λ x h. subst (λ (w : List (ℕ × ObjectId)). Contains w x) (sym waiting) h;
  found = λ q h. inl (ap (λ (s : List ObjectId). has s q) (sym seen) ∙ h);
  only = λ x h. inl (subst (λ (w : List (ℕ × ObjectId)). Contains w x) waiting h);
}

pub grows_none : (g : Graph) (limit : ℕ) (id : ObjectId) (a b : State) → Added a.seen b.seen id → commit_at g id ≡ None → b.waiting ≡ a.waiting → Grows g limit (id ∷ []) a b
grows_none g limit id a b more none waiting = record {
  seen = added_keeps a.seen b.seen id more;
  kept = λ x h. subst (λ (w : List (ℕ × ObjectId)). Contains w x) (sym waiting) h;
  found = λ q h. elim (added_cases a.seen b.seen id more q h) [
    | inl is ↦ inr (λ dated. absurd (no_commit q is dated.0))
    | inr before ↦ inl before
  ];
  only = λ x h. inl (subst (λ (w : List (ℕ × ObjectId)). Contains w x) waiting h);
}
  where
    no_commit : (q : ObjectId) → q ≡ id → IsCommit g q → ⊥
    no_commit q is commit = absurd (let no : is_some (commit_at g q) ≡ false = ap is_some (ap (commit_at g) is ∙ none) in cc)

pub grows_kept : (g : Graph) (limit : ℕ) (id : ObjectId) (n : Node) (a b : State) → Added a.seen b.seen id → commit_at g id ≡ Some n → Keeps limit (seconds_in n) id a.waiting b.waiting → Grows g limit (id ∷ []) a b
grows_kept g limit id n a b more is keeps =
    let seconds : seconds_at g id ≡ seconds_in n = ap (λ (o : Option Node). option_map_or seconds_in o 0) is in
    let commit : IsCommit g id = ap is_some is in
    record {
      seen = added_keeps a.seen b.seen id more;
      kept = λ x h. elim (cases_lt (seconds_in n) limit) [
        | inl lt ↦ subst (λ (w : List (ℕ × ObjectId)). Contains w x) (sym (keeps.below lt)) h
        | inr le ↦ Contains-permutation ((seconds_in n, id) ∷ a.waiting) b.waiting x (keeps.above le) (Contains-later (seconds_in n, id) a.waiting x h)
      ];
      found = λ q h. elim (added_cases a.seen b.seen id more q h) [
        | inl same ↦ inr (λ dated.
            let high : limit ≤ seconds_in n = subst (λ (m : ℕ). limit ≤ m) (ap (seconds_at g) same ∙ seconds) dated.1 in
            let mine : IsWaiting b id = (seconds_in n, Contains-permutation ((seconds_in n, id) ∷ a.waiting) b.waiting (seconds_in n, id) (keeps.above high) (Contains-first (seconds_in n, id) a.waiting)) in
            subst (IsWaiting b) (sym same) mine)
        | inr before ↦ inl before
      ];
      only = λ x h. elim (cases_lt (seconds_in n) limit) [
        | inl lt ↦ inl (subst (λ (w : List (ℕ × ObjectId)). Contains w x) (keeps.below lt) h)
        | inr le ↦ elim (Contains-cases (seconds_in n, id) a.waiting x (Contains-permutation b.waiting ((seconds_in n, id) ∷ a.waiting) x (IsPermutation-sym ((seconds_in n, id) ∷ a.waiting) b.waiting (keeps.above le)) h)) [
          | inl this ↦
              let key : id ≡ x.1 = ap (λ (y : ℕ × ObjectId). y.1) this in
              let dated : IsDated g limit id = (commit, subst (λ (m : ℕ). limit ≤ m) (sym seconds) le) in
              inr (subst (λ (q : ObjectId). Contains (id ∷ []) q × IsDated g limit q) key (Contains-first id [], dated))
          | inr before ↦ inl before
        ]
      ];
    }

-- ---- steps

commit_is : (o : Option Node) (n : Node) → option_and_then (λ m. cond (is_kind m.kind Commit) (Some m) None) o ≡ Some n → (o ≡ Some n) × (is_kind n.kind Commit ≡ true)
commit_is None n is = absurd cc
commit_is (Some m) n is = by_kind (is_kind m.kind Commit) refl is
  where
    by_kind : (t : Bool) → is_kind m.kind Commit ≡ t → cond t (Some m) None ≡ Some n → (Some m ≡ Some n) × (is_kind n.kind Commit ≡ true)
    by_kind true kind one = let this : m ≡ n = cc in (one, ap (λ (x : Node). is_kind x.kind Commit) (sym this) ∙ kind)
    by_kind false kind one = absurd cc

pub commit_found : (g : Graph) (id : ObjectId) (n : Node) → commit_at g id ≡ Some n → (find id_cmp id (entries g) ≡ Some n) × (cost n ≡ 1 + length n.parents) × (parents_at g id ≡ n.parents)
commit_found g id n is =
    let both = commit_is (get g id) n is in
    (sym (get-entries g id) ∙ both.0, ap (λ (t : Bool). cond t (1 + length n.parents) 0) both.1, ap (λ (o : Option Node). option_map_or (λ m. m.parents) o []) is)

pub room_none : (g : Graph) (id : ObjectId) (a b : State) → Added a.seen b.seen id → b.waiting ≡ a.waiting → (room g b ≤ room g a) × (work g b ≤ work g a)
room_none g id a b more waiting =
    let fewer = unseen_mono a.seen b.seen (entries g) (added_keeps a.seen b.seen id more) in
    let cost_same : cost_waiting g b.waiting ≡ cost_waiting g a.waiting = ap (cost_waiting g) waiting in
    let len_same : length b.waiting ≡ length a.waiting = ap length waiting in
    (omega arith, omega arith)

-- The commit is read, and it waits or not.
pub room_read : (g : Graph) (id : ObjectId) (n : Node) (a b : State) → Added a.seen b.seen id → commit_at g id ≡ Some n → b.waiting ≡ a.waiting → (1 + room g b ≤ room g a) × (work g b ≤ work g a)
room_read g id n a b more is waiting =
    let n_is = commit_found g id n is in
    let fewer = unseen_less a.seen b.seen id n (entries g) more n_is.0 in
    let cost_same : cost_waiting g b.waiting ≡ cost_waiting g a.waiting = ap (cost_waiting g) waiting in
    let len_same : length b.waiting ≡ length a.waiting = ap length waiting in
    (omega (arith, n_is.1), omega (arith, n_is.1))

pub room_kept : (g : Graph) (limit : ℕ) (id : ObjectId) (n : Node) (a b : State) → Added a.seen b.seen id → commit_at g id ≡ Some n → Keeps limit (seconds_in n) id a.waiting b.waiting → (1 + room g b ≤ room g a) × (work g b ≤ work g a)
room_kept g limit id n a b more is keeps = elim (cases_lt (seconds_in n) limit) [
  | inl lt ↦ room_read g id n a b more is (keeps.below lt)
  | inr le ↦
      let n_is = commit_found g id n is in
      let fewer = unseen_less a.seen b.seen id n (entries g) more n_is.0 in
      let x : ℕ × ObjectId = (seconds_in n, id) in
      let total : cost_waiting g b.waiting ≡ length (parents_at g id) + cost_waiting g a.waiting = sum_by_pushed (λ (y : ℕ × ObjectId). length (parents_at g y.1)) x a.waiting b.waiting (keeps.above le) in
      let links : length (parents_at g id) ≡ length n.parents = ap length n_is.2 in
      let longer : length b.waiting ≡ length (x ∷ a.waiting) = length_permutation (x ∷ a.waiting) b.waiting (keeps.above le) in
      (omega (arith, n_is.1), omega (arith, n_is.1))
]

-- what holds where a call is fine, and what where it isn't
pub either_way : {A E : Type 0} (P Q R : Type 0) (r : Result A E) → OnOk r P → OnErr r Q → (P → R) → (Q → R) → R
either_way P Q R (Ok x) p q f h = f p
either_way P Q R (Err e) p q f h = h q

pub when_fine : {A E : Type 0} (P R : Type 0) (r : Result A E) → OnOk r P → (P → R) → OnOk r R
when_fine P R (Ok x) p f = f p
when_fine P R (Err e) p f = tt

pub some_of : {X Y : Type 0} (f : X → Y) (o : Option X) (y : Y) → Some y ≡ option_map f o → (x : X) × (o ≡ Some x) × (f x ≡ y)
some_of f None y is = absurd cc
some_of f (Some x) y is = (x, refl, cc)

pub none_of : {X Y : Type 0} (f : X → Y) (o : Option X) → None ≡ option_map f o → o ≡ None
none_of f None is = refl
none_of f (Some x) is = absurd cc
