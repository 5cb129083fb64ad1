-- What the marks of common commits keep, while they are set step by step.
use Rattle.std.specs.Prelude.{◌≡◌, ℕ, ◌≤◌, Bool, true, List, ◌++◌, length, take, is_some}
use Rattle.std.specs.BTreeSet as tree
use Rattle.std.specs.BTreeSet.{BTreeSet}
use Rattle.std.specs.FinSet as set
use Rattle.fetch_base.specs.declared.id.ObjectId.{ObjectId}
use Rattle.fetch_base.specs.Id.{id_cmp}
use Rattle.fetch_negotiate.specs.declared.common.Common.{Common}
use Rattle.fetch_negotiate.specs.Commits.{has}
use Rattle.fetch_negotiate.specs.Reading.{Read, Grows, commit_at, links_at}

-- whether a set has an id
abbrev pub in_set : BTreeSet ObjectId → ObjectId → Bool
in_set s id = tree.contains id_cmp s id

-- The set has the commits of the list.
pub record IsMarked (marked : BTreeSet ObjectId) (commits : List ObjectId) : Type 0 where
  pub members : (q : ObjectId) → in_set marked q ≡ has commits q

-- The id was read, and a stored commit is marked.
pub record IsDone (k : Read) (commits : List ObjectId) (id : ObjectId) : Type 0 where
  pub read : is_some (k id) ≡ true
  pub marked : is_some (commit_at k id) ≡ true → has commits id ≡ true

-- Whatever holds of the acknowledged ids, and of the stored parents of what it holds of, holds of the id.
pub record IsReached (k : Read) (border : set.FinSet id_cmp) (acknowledged : List ObjectId) (id : ObjectId) : Type 0 where
  pub holds : (P : ObjectId → Bool) → ((a : ObjectId) → has acknowledged a ≡ true → P a ≡ true)
      → ((x y : ObjectId) → P x ≡ true → has (links_at k border x) y ≡ true → is_some (commit_at k y) ≡ true → P y ≡ true) → P id ≡ true

-- What is marked as shared: acknowledged commits and their ancestors, and how far each list was followed.
pub record IsCommon (k : Read) (border : set.FinSet id_cmp) (acknowledged : List ObjectId) (finished : ℕ) (commits : List ObjectId)
    (closed : ℕ) : Type 0 where
  pub finished_in : finished ≤ length acknowledged
  pub closed_in : closed ≤ length commits
  pub stored : (q : ObjectId) → has commits q ≡ true → is_some (commit_at k q) ≡ true
  pub reached : (q : ObjectId) → has commits q ≡ true → IsReached k border acknowledged q
  pub told : (q : ObjectId) → has (take finished acknowledged) q ≡ true → IsDone k commits q
  pub parents : (q : ObjectId) → has (take closed commits) q ≡ true → (p : ObjectId) → has (links_at k border q) p ≡ true
      → IsDone k commits p

-- the same, of what a walk keeps
abbrev pub IsCommonIn : Read → set.FinSet id_cmp → Common → Type 0
IsCommonIn k border c = IsMarked c.marked c.commits.items × IsCommon k border c.acknowledged.items c.finished c.commits.items c.closed

-- Each acknowledged id is marked, and the parents of each marked commit are.
pub record IsFinished (k : Read) (border : set.FinSet id_cmp) (acknowledged commits : List ObjectId) : Type 0 where
  pub stored : (q : ObjectId) → has commits q ≡ true → is_some (commit_at k q) ≡ true
  pub reached : (q : ObjectId) → has commits q ≡ true → IsReached k border acknowledged q
  pub told : (q : ObjectId) → has acknowledged q ≡ true → IsDone k commits q
  pub parents : (q : ObjectId) → has commits q ≡ true → (p : ObjectId) → has (links_at k border q) p ≡ true → IsDone k commits p

-- However more is read, a stored commit of this id is reached.
pub record IsWithin (k : Read) (border : set.FinSet id_cmp) (acknowledged : List ObjectId) (id : ObjectId) : Type 0 where
  pub later : (l : Read) → Grows k l → is_some (commit_at l id) ≡ true → IsReached l border acknowledged id

-- Of each of these a stored commit is reached, however more is read.
pub record AreWithin (k : Read) (border : set.FinSet id_cmp) (acknowledged ids : List ObjectId) : Type 0 where
  pub each : (q : ObjectId) → has ids q ≡ true → IsWithin k border acknowledged q

-- Each of these was read, and is marked where it is a stored commit.
pub record AreDone (k : Read) (commits ids : List ObjectId) : Type 0 where
  pub each : (q : ObjectId) → has ids q ≡ true → IsDone k commits q

-- The list has the other at its front.
pub record Extends (xs ys : List ObjectId) : Type 0 where
  pub more : List ObjectId
  pub is : ys ≡ xs ++ more

-- The list has what the other has.
pub record Covers (xs ys : List ObjectId) : Type 0 where
  pub stays : (q : ObjectId) → has xs q ≡ true → has ys q ≡ true
