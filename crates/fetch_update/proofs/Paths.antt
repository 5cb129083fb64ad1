-- Paths that a walk finds, and paths that it can't miss.
use Rattle.std.proofs.Common.{◌≡◌, ◌≢◌, ◌⊎◌, ℕ, ◌+◌, ◌<◌, ◌≤◌, true, List, [], ◌∷◌, ◌++◌, length, Option, Some, None, Contains, refl, sym, ap, subst, ◌∙◌, arith, inl, inr}
use Rattle.std.specs.List.{AllByRecursion}
use Rattle.std.specs.Option.{option_map, option_map_or}
use Rattle.std.specs.Prelude.{is_some, unwrap_or, MatchOption}
use Rattle.std.specs.FinMap.{entries}
use Rattle.std.proofs.lemmas.List.Sorted.{IsPermutation-sym, Contains-permutation, length_permutation, sum_by_popped}
use Rattle.fetch_base.specs.declared.id.ObjectId.{ObjectId}
use Rattle.fetch_store.specs.Graph.{Graph, Node}
use Rattle.fetch_update.specs.Dated.{IsCommit, commit_at, parents_at, seconds_in, seconds_at, LeadsOn, IsLinked, IsPathAbove, commit_count, link_count}
use Rattle.fetch_update.specs.Walks.{State, has, IsDated, IsWaiting, Grows, Pops, IsDone, cost_unseen, cost_waiting, room, work}
use Rattle.fetch_update.proofs.Seen.{added_first, added_cases, unseen_less, cost_all, Contains-first, Contains-later, Contains-one, Contains-none, Contains-cases}
use Rattle.fetch_update.proofs.Visits.{commit_found}

module _ (P : ObjectId → Type 0) where
  pub each-push : (xs : List ObjectId) (x : ObjectId) → AllByRecursion P xs → P x → AllByRecursion P (xs ++ x ∷ [])
  each-push [] x all one = (one, tt)
  each-push (y ∷ ys) x all one = (all.0, each-push ys x all.1 one)

  pub last_one : (xs : List ObjectId) (x : ObjectId) → AllByRecursion P (xs ++ x ∷ []) → P x
  last_one [] x all = all.0
  last_one (y ∷ ys) x all = last_one ys x all.1

leads-push : (g : Graph) (a : ObjectId) (before : List ObjectId) (id p : ObjectId) → LeadsOn g a (before ++ id ∷ []) → Contains (parents_at g id) p → LeadsOn g a ((before ++ id ∷ []) ++ p ∷ [])
leads-push g a [] id p linked one = (linked.0, (one, tt))
leads-push g a (b ∷ bs) id p linked one = (linked.0, leads-push g b bs id p linked.1 one)

linked-push : (g : Graph) (before : List ObjectId) (id p : ObjectId) → IsLinked g (before ++ id ∷ []) → Contains (parents_at g id) p → IsLinked g ((before ++ id ∷ []) ++ p ∷ [])
linked-push g [] id p linked one = (one, tt)
linked-push g (b ∷ bs) id p linked one = leads-push g b bs id p linked one

-- one commit alone
pub alone : (g : Graph) (limit : ℕ) (id : ObjectId) → IsDated g limit id → (path : List ObjectId) × IsPathAbove g limit id id path
alone g limit id dated = (id ∷ [], record { begins = ([], refl); ends = ([], refl); linked = tt; commits = (dated.0, tt); dated = (dated.1, tt) })

-- one parent more
pub extended : (g : Graph) (limit : ℕ) (from id p : ObjectId) → (path : List ObjectId) × IsPathAbove g limit from id path → Contains (parents_at g id) p → IsDated g limit p → (path : List ObjectId) × IsPathAbove g limit from p path
extended g limit from id p (path, is) one dated =
    let linked : IsLinked g (path ++ p ∷ []) = subst (λ (t : List ObjectId). IsLinked g (t ++ p ∷ [])) (sym is.ends.1) (linked-push g is.ends.0 id p (subst (IsLinked g) is.ends.1 is.linked) one) in (
      path ++ p ∷ [],
      record {
        begins = (is.begins.0 ++ p ∷ [], ap (λ (t : List ObjectId). t ++ p ∷ []) is.begins.1);
        ends = (path, refl);
        linked = linked;
        commits = each-push (λ q. IsCommit g q) path p is.commits dated.0;
        dated = each-push (λ q. limit ≤ seconds_at g q) path p is.dated dated.1;
      },
    )

-- the commit at which a path ends
pub last_commit : (g : Graph) (limit : ℕ) (from id : ObjectId) → (path : List ObjectId) × IsPathAbove g limit from id path → IsCommit g id
last_commit g limit from id (path, is) = last_one (λ q. IsCommit g q) is.ends.0 id (subst (λ (t : List ObjectId). AllByRecursion (λ q. IsCommit g q) t) is.ends.1 is.commits)

-- each commit that was seen, and counts, is done
abbrev pub IsOver : Graph → ℕ → ObjectId → State → Type 0
IsOver g limit to s = (q : ObjectId) → has s.seen q ≡ true → q ≢ to → IsDated g limit q → IsDone g to s q

through : (g : Graph) (limit : ℕ) (to : ObjectId) (s : State) → IsOver g limit to s → (a : ObjectId) (rest : List ObjectId) → has s.seen a ≡ true → a ≢ to → LeadsOn g a rest
    → AllByRecursion (λ q. IsCommit g q) (a ∷ rest) → AllByRecursion (λ q. limit ≤ seconds_at g q) (a ∷ rest) → AllByRecursion (λ q. q ≢ to) (a ∷ rest)
through g limit to s over a [] seen other linked commits dated = (other, tt)
through g limit to s over a (b ∷ rest) seen other linked commits dated =
    let next = over a seen other (commits.0, dated.0) b linked.0 in
    (other, through g limit to s over b rest next.1 next.0 linked.1 commits.1 dated.1)

pub no_path : (g : Graph) (limit : ℕ) (from to : ObjectId) (s : State) → IsOver g limit to s → has s.seen from ≡ true → from ≢ to → (path : List ObjectId) × IsPathAbove g limit from to path → ⊥
no_path g limit from to s over seen other (path, is) =
    let rest = is.begins.0 in
    let linked : IsLinked g (from ∷ rest) = subst (IsLinked g) is.begins.1 is.linked in
    let commits : AllByRecursion (λ q. IsCommit g q) (from ∷ rest) = subst (λ (t : List ObjectId). AllByRecursion (λ q. IsCommit g q) t) is.begins.1 is.commits in
    let dated : AllByRecursion (λ q. limit ≤ seconds_at g q) (from ∷ rest) = subst (λ (t : List ObjectId). AllByRecursion (λ q. limit ≤ seconds_at g q) t) is.begins.1 is.dated in
    let none : AllByRecursion (λ q. q ≢ to) (from ∷ rest) = through g limit to s over from rest seen other linked commits dated in
    let end : AllByRecursion (λ q. q ≢ to) (is.ends.0 ++ to ∷ []) = subst (λ (t : List ObjectId). AllByRecursion (λ q. q ≢ to) t) (sym is.begins.1 ∙ is.ends.1) none in
    last_one (λ q. q ≢ to) is.ends.0 to end refl

-- ---- the walk

pub record IsWalk (g : Graph) (limit : ℕ) (from to : ObjectId) (s : State) : Type 0 where
  pub start : has s.seen from ≡ true
  pub led : (x : ℕ × ObjectId) → Contains s.waiting x → (path : List ObjectId) × IsPathAbove g limit from x.1 path
  pub done : (q : ObjectId) → has s.seen q ≡ true → q ≢ to → IsDated g limit q → IsWaiting s q ⊎ IsDone g to s q

-- The first commit was looked at.
pub begun : (g : Graph) (limit : ℕ) (from to : ObjectId) (a b : State) → a.seen ≡ to ∷ [] → a.waiting ≡ [] → Grows g limit (from ∷ []) a b → has b.seen from ≡ true → IsWalk g limit from to b
begun g limit from to a b seen none grown first = record {
  start = first;
  led = λ x h. elim (grown.only x h) [
    | inl before ↦ absurd (Contains-none x (subst (λ (w : List (ℕ × ObjectId)). Contains w x) none before))
    | inr new ↦
        let key : from ≡ x.1 = Contains-one from x.1 new.0 in
        subst (λ (q : ObjectId). (path : List ObjectId) × IsPathAbove g limit from q path) key (alone g limit from (subst (IsDated g limit) (sym key) new.1))
  ];
  done = λ q h other dated. elim (grown.found q h) [
    | inl before ↦ absurd (other (only_end q (ap (λ (s : List ObjectId). has s q) (sym seen) ∙ before)))
    | inr waits ↦ inl (waits dated)
  ];
}
  where
    only_end : (q : ObjectId) → has (to ∷ []) q ≡ true → q ≡ to
    only_end q h = elim (added_cases [] (to ∷ []) to (added_first to) q h) [ inl is ↦ is | inr none ↦ absurd cc ]

-- A commit was taken, and its parents were looked at.
pub next : (g : Graph) (limit : ℕ) (from to id : ObjectId) (a p e : State) → IsWalk g limit from to a → p.seen ≡ a.seen → Pops a id p → Grows g limit (parents_at g id) p e → IsDone g to e id → IsWalk g limit from to e
next g limit from to id a p e walk same_seen (seconds, popped) grown done = record {
  start = grown.seen from (ap (λ (s : List ObjectId). has s from) same_seen ∙ walk.start);
  led = λ x h. elim (grown.only x h) [
    | inl before ↦ walk.led x (Contains-permutation ((seconds, id) ∷ p.waiting) a.waiting x (IsPermutation-sym a.waiting ((seconds, id) ∷ p.waiting) popped) (Contains-later (seconds, id) p.waiting x before))
    | inr new ↦ extended g limit from id x.1 (walk.led (seconds, id) (Contains-permutation ((seconds, id) ∷ p.waiting) a.waiting (seconds, id) (IsPermutation-sym a.waiting ((seconds, id) ∷ p.waiting) popped) (Contains-first (seconds, id) p.waiting))) new.0 new.1
  ];
  done = λ q h other dated. elim (grown.found q h) [
    | inl before ↦ elim (walk.done q (ap (λ (s : List ObjectId). has s q) (sym same_seen) ∙ before) other dated) [
      | inl waits ↦ elim (Contains-cases (seconds, id) p.waiting (waits.0, q) (Contains-permutation a.waiting ((seconds, id) ∷ p.waiting) (waits.0, q) popped waits.1)) [
        | inl this ↦ inr (subst (IsDone g to e) (ap (λ (x : ℕ × ObjectId). x.1) this) done)
        | inr still ↦ inl (waits.0, grown.kept (waits.0, q) still)
      ]
      | inr over ↦ inr (λ parent one. let o = over parent one in (o.0, grown.seen parent (ap (λ (s : List ObjectId). has s parent) same_seen ∙ o.1)))
    ]
    | inr waits ↦ inl (waits dated)
  ];
}

pub ended : (g : Graph) (limit : ℕ) (from to : ObjectId) (s : State) → IsWalk g limit from to s → s.waiting ≡ [] → IsOver g limit to s
ended g limit from to s walk none q seen other dated = elim (walk.done q seen other dated) [
  | inl waits ↦ absurd (Contains-none (waits.0, q) (subst (λ (w : List (ℕ × ObjectId)). Contains w (waits.0, q)) none waits.1))
  | inr over ↦ over
]

-- ---- steps

pub popped_room : (g : Graph) (id : ObjectId) (a p : State) → p.seen ≡ a.seen → Pops a id p → (room g p + length (parents_at g id) ≡ room g a) × (work g p < work g a)
popped_room g id a p same_seen (seconds, popped) =
    let x : ℕ × ObjectId = (seconds, id) in
    let total : cost_waiting g p.waiting + length (parents_at g id) ≡ cost_waiting g a.waiting = sum_by_popped (λ (y : ℕ × ObjectId). length (parents_at g y.1)) x a.waiting p.waiting popped in
    let unseen : cost_unseen p.seen (entries g) ≡ cost_unseen a.seen (entries g) = ap (λ (s : List ObjectId). cost_unseen s (entries g)) same_seen in
    let shorter : length (x ∷ p.waiting) ≡ length a.waiting = length_permutation a.waiting (x ∷ p.waiting) popped in
    (omega arith, omega arith)

-- The end was read, and nothing waits yet.
pub first_room : (g : Graph) (to : ObjectId) (n : Node) (s : State) → commit_at g to ≡ Some n → s.seen ≡ to ∷ [] → s.waiting ≡ [] → 1 + room g s ≤ commit_count g + link_count g
first_room g to n s is seen none =
    let found = commit_found g to n is in
    let less = unseen_less [] (to ∷ []) to n (entries g) (added_first to) found.0 in
    let unseen : cost_unseen s.seen (entries g) ≡ cost_unseen (to ∷ []) (entries g) = ap (λ (t : List ObjectId). cost_unseen t (entries g)) seen in
    let nothing : cost_waiting g s.waiting ≡ 0 = ap (cost_waiting g) none in
    omega (arith, less, unseen, nothing, found.1, cost_all (entries g))

pub taken : (g : Graph) (limit : ℕ) (from to id : ObjectId) (a p : State) → IsWalk g limit from to a → Pops a id p → (path : List ObjectId) × IsPathAbove g limit from id path
taken g limit from to id a p walk (seconds, popped) =
    walk.led (seconds, id) (Contains-permutation ((seconds, id) ∷ p.waiting) a.waiting (seconds, id) (IsPermutation-sym a.waiting ((seconds, id) ∷ p.waiting) popped) (Contains-first (seconds, id) p.waiting))

some_when : (o : Option Node) → is_some o ≡ true → (n : Node) × (o ≡ Some n)
some_when (Some n) is = (n, refl)
some_when None is = absurd cc

pub record ReadsEnd (g : Graph) (to : ObjectId) (r : Option ℕ) (before now : ℕ) (n : Node) : Type 0 where
  pub commit : commit_at g to ≡ Some n
  pub seconds : unwrap_or r 0 ≡ seconds_at g to
  pub step : now ≡ before + 1

pub reads_end : (g : Graph) (to : ObjectId) (r : Option ℕ) (before now : ℕ) → IsCommit g to → r ≡ option_map seconds_in (commit_at g to) → MatchOption r (now ≡ before) (λ _. now ≡ before + 1) → (n : Node) × ReadsEnd g to r before now n
reads_end g to r before now commit is step =
    let n = some_when (commit_at g to) commit in
    let value : r ≡ Some (seconds_in n.0) = is ∙ ap (option_map seconds_in) n.1 in (
      n.0,
      record {
        commit = n.1;
        seconds = ap (λ (o : Option ℕ). unwrap_or o 0) value ∙ sym (ap (λ (o : Option Node). option_map_or seconds_in o 0) n.1);
        step = subst (λ (o : Option ℕ). MatchOption o (now ≡ before) (λ _. now ≡ before + 1)) value step;
      },
    )
