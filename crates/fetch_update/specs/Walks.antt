-- A walk over commits: what it has seen, and what it still has to look at.
use Rattle.std.specs.Prelude.{◌≡◌, ◌≢◌, ◌⊎◌, ℕ, ◌+◌, ◌<◌, ◌≤◌, Bool, true, List, [], ◌∷◌, length, sum_by, Contains, if◌then◌else◌}
use Rattle.std.specs.List.{list_any}
use Rattle.std.specs.List.Sorted.{IsPermutation}
use Rattle.std.specs.BinaryHeap.{heap_items}
use Rattle.std.specs.FinMap.{entries}
use Rattle.std.specs.Ordering.{eq_by_cmp}
use Rattle.fetch_base.specs.declared.id.ObjectId.{ObjectId}
use Rattle.fetch_base.specs.declared.object_kind.ObjectKind.TheVariants.{Commit}
use Rattle.fetch_store.specs.Graph.{Graph, Node}
use Rattle.fetch_base.specs.Kinds.{is_kind}
use Rattle.fetch_base.specs.Id.{id_cmp}
use Rattle.fetch_update.specs.declared.walk.Walk.{Walk}
use Rattle.fetch_update.specs.Dated.{IsCommit, parents_at, seconds_at}

-- the ids seen, and the commits that wait, each beside its seconds
pub record State : Type 0 where
  pub seen : List ObjectId
  pub waiting : List (ℕ × ObjectId)

-- what a walk has seen, and what waits
abbrev pub state : Walk → State
state w = record { seen = w.seen.keys; waiting = heap_items w.waiting }

-- whether a list has an id
abbrev pub has : List ObjectId → ObjectId → Bool
has ids id = list_any (λ k. eq_by_cmp id_cmp id k) ids

-- a commit that the walk doesn't pass over
abbrev pub IsDated : Graph → ℕ → ObjectId → Type 0
IsDated g limit id = IsCommit g id × (limit ≤ seconds_at g id)

-- The commit waits.
abbrev pub IsWaiting : State → ObjectId → Type 0
IsWaiting s id = (seconds : ℕ) × Contains s.waiting (seconds, id)

-- Some of these ids were looked at: those that count wait, and nothing else came.
pub record Grows (g : Graph) (limit : ℕ) (ids : List ObjectId) (a b : State) : Type 0 where
  pub seen : (id : ObjectId) → has a.seen id ≡ true → has b.seen id ≡ true
  pub kept : (x : ℕ × ObjectId) → Contains a.waiting x → Contains b.waiting x
  pub found : (id : ObjectId) → has b.seen id ≡ true → (has a.seen id ≡ true) ⊎ (IsDated g limit id → IsWaiting b id)
  pub only : (x : ℕ × ObjectId) → Contains b.waiting x → Contains a.waiting x ⊎ (Contains ids x.1 × IsDated g limit x.1)

-- A commit of these seconds waits from now on, unless it is below the limit.
pub record Keeps (limit seconds : ℕ) (id : ObjectId) (a b : List (ℕ × ObjectId)) : Type 0 where
  pub above : limit ≤ seconds → IsPermutation ((seconds, id) ∷ a) b
  pub below : seconds < limit → b ≡ a

-- A commit waits no more.
abbrev pub Pops : State → ObjectId → State → Type 0
Pops a id b = (seconds : ℕ) × IsPermutation a.waiting ((seconds, id) ∷ b.waiting)

-- Each parent was seen, and is not the end.
abbrev pub IsDone : Graph → ObjectId → State → ObjectId → Type 0
IsDone g to s id = (parent : ObjectId) → Contains (parents_at g id) parent → (parent ≢ to) × (has s.seen parent ≡ true)

-- ---- steps

-- one for the commit, and one for each parent link
abbrev pub cost : Node → ℕ
cost n = if is_kind n.kind Commit then 1 + length n.parents else 0

-- for the commits not seen yet
abbrev pub cost_unseen : List ObjectId → List (ObjectId × Node) → ℕ
cost_unseen seen [] = 0
cost_unseen seen (e ∷ es) = (if has seen e.0 then 0 else cost e.1) + cost_unseen seen es

-- for the links of those that wait
abbrev pub cost_waiting : Graph → List (ℕ × ObjectId) → ℕ
cost_waiting g waiting = sum_by (λ x. length (parents_at g x.1)) waiting

-- how many steps there still can be
abbrev pub room : Graph → State → ℕ
room g s = cost_unseen s.seen (entries g) + cost_waiting g s.waiting

-- how much work is left
abbrev pub work : Graph → State → ℕ
work g s = room g s + length s.waiting
