-- What the frontier of candidates keeps, step by step.
use Rattle.std.specs.Prelude.{◌≡◌, ℕ, ◌≤◌, Bool, true, false, List, ◌++◌, length, take, is_some}
use Rattle.std.specs.BTreeSet as tree
use Rattle.std.specs.BTreeSet.{BTreeSet}
use Rattle.std.specs.FinSet as set
use Rattle.std.specs.List.{flat_map}
use Rattle.std.specs.Option.{option_map_or}
use Rattle.std.specs.Ordering.{nat_cmp, ordering_then, is_gt}
use Rattle.std.specs.declared.cmp.Ordering.{Ordering}
use Rattle.std.specs.declared.cmp.Reverse.{Reverse}
use Rattle.fetch_base.specs.declared.id.ObjectId.{ObjectId}
use Rattle.fetch_base.specs.Id.{id_cmp}
use Rattle.fetch_negotiate.specs.declared.commits.Commit.{Commit}
use Rattle.fetch_negotiate.specs.declared.frontier.Frontier.{Frontier}
use Rattle.fetch_negotiate.specs.Commits.{has}
use Rattle.fetch_negotiate.specs.Reading.{Read, commit_at, links_at}
use Rattle.fetch_negotiate.specs.Sharing.{IsMarked}

-- seconds and an id
abbrev pub Rank : Type 0
Rank = Reverse ℕ × ObjectId

-- the later commit first, and then the smaller id
abbrev pub rank_cmp : Rank → Rank → Ordering
rank_cmp a b = ordering_then (nat_cmp b.0.0 a.0.0) (id_cmp a.1 b.1)

-- whether the queue has this commit
abbrev pub in_queue : BTreeSet Rank → Rank → Bool
in_queue queue r = tree.contains rank_cmp queue r

-- the seconds of a commit that was read, or 0
abbrev pub seconds_at : Read → ObjectId → ℕ
seconds_at k q = option_map_or (λ (c : Commit). c.seconds) (commit_at k q) 0

-- the rank of a commit in the queue
abbrev pub rank_at : Read → ObjectId → Rank
rank_at k q = (let r : Reverse ℕ = record { 0 = seconds_at k q } in r, q)

-- A candidate that was entered, and is neither taken nor common, is in the queue.
pub record IsEntered (k : Read) (commits taken : List ObjectId) (queue : BTreeSet Rank) (q : ObjectId) : Type 0 where
  pub read : is_some (k q) ≡ true
  pub waits : is_some (commit_at k q) ≡ true → has taken q ≡ false → has commits q ≡ false → in_queue queue (rank_at k q) ≡ true

-- What is in the queue is a candidate, and a stored commit of these seconds.
pub record IsQueued (k : Read) (candidates : List ObjectId) (r : Rank) : Type 0 where
  pub stored : is_some (commit_at k r.1) ≡ true
  pub candidate : has candidates r.1 ≡ true
  pub seconds : r ≡ rank_at k r.1

-- What a walk keeps of its candidates: where they come from, which entered the queue, and which were taken.
pub record IsFrontier (k : Read) (border : set.FinSet id_cmp) (commits : List ObjectId) (tips : ℕ) (candidates : List ObjectId)
    (entered : ℕ)
    (queue : BTreeSet Rank) (taken : List ObjectId) : Type 0 where
  pub tips_in : tips ≤ length candidates
  pub entered_in : entered ≤ length candidates
  pub all : candidates ≡ take tips candidates ++ flat_map (links_at k border) taken
  pub known : (q : ObjectId) → has taken q ≡ true → is_some (commit_at k q) ≡ true
  pub each : (q : ObjectId) → has (take entered candidates) q ≡ true → IsEntered k commits taken queue q
  pub queued : (r : Rank) → in_queue queue r ≡ true → IsQueued k candidates r

-- the same, of the frontier of a walk
abbrev pub IsFrontierIn : Read → set.FinSet id_cmp → List ObjectId → Frontier → Type 0
IsFrontierIn k border commits l = IsMarked l.told l.taken.items
    × IsFrontier k border commits l.tips l.candidates.items l.entered l.queue l.taken.items

-- The commit is in the queue and open, and nothing in the queue comes before it.
pub record IsChosen (k : Read) (commits taken : List ObjectId) (queue : BTreeSet Rank) (id : ObjectId) : Type 0 where
  pub waits : in_queue queue (rank_at k id) ≡ true
  pub fresh : has taken id ≡ false
  pub common : has commits id ≡ false
  pub first : (r : Rank) → in_queue queue r ≡ true → is_gt (rank_cmp (rank_at k id) r) ≡ false

-- The queue is empty.
pub record IsNone (queue : BTreeSet Rank) : Type 0 where
  pub empty : (r : Rank) → in_queue queue r ≡ false

-- It is in the queue, and nothing there comes before it.
pub record IsFront (queue : BTreeSet Rank) (r : Rank) : Type 0 where
  pub here : in_queue queue r ≡ true
  pub first : (q : Rank) → in_queue queue q ≡ true → is_gt (rank_cmp r q) ≡ false

-- the tips that a frontier began with
abbrev pub tips_in : Frontier → List ObjectId
tips_in l = take l.tips l.candidates.items
