-- What a walk keeps.
use Rattle.std.specs.Prelude.{◌≡◌, ◌≤◌, true, length, is_some}
use Rattle.std.specs.FinMap as map
use Rattle.fetch_base.specs.declared.id.ObjectId.{ObjectId}
use Rattle.fetch_store.specs.Graph.{Graph}
use Rattle.fetch_negotiate.specs.declared.walk.HaveWalk.{HaveWalk}
use Rattle.fetch_negotiate.specs.Commits.{Known}
use Rattle.fetch_negotiate.specs.Exact.{IsExact}
use Rattle.fetch_negotiate.specs.Haves.{Negotiation}
use Rattle.fetch_negotiate.specs.Queues.{IsFrontierIn, tips_in}
use Rattle.fetch_negotiate.specs.Reading.{Table, Grows, IsTold, read_in, commit_at}
use Rattle.fetch_negotiate.specs.Sharing.{IsCommonIn, Extends}

-- What a walk keeps, of what is shared and of its frontier.
pub record IsWalk (w : HaveWalk) : Type 0 where
  pub common : IsCommonIn (read_in w.table) w.border w.common
  pub frontier : IsFrontierIn (read_in w.table) w.border w.common.commits.items w.frontier

-- what a walk has told so far
abbrev pub so_far_in : HaveWalk → Negotiation
so_far_in w = record {
  tips = tips_in w.frontier;
  border = w.border;
  taken = w.frontier.taken.items;
  acknowledged = w.common.acknowledged.items;
}

-- A walk over a graph, which tells what was read.
pub record IsWalkOver (g : Graph) (w : HaveWalk) : Type 0 where
  pub walk : IsWalk w
  pub told : IsTold (read_in w.table) g

-- More of the graph may have been read, and the walk is where it was.
pub record ReadsOn (g : Graph) (w v : HaveWalk) : Type 0 where
  pub walk : IsWalk v
  pub told : IsTold (read_in v.table) g
  pub grows : Grows (read_in w.table) (read_in v.table)
  pub so_far : so_far_in v ≡ so_far_in w

-- what a table knows, as a finite map
abbrev pub known_in : Table → Known
known_in t = map.from_entries t.entries

-- What is common is marked, and each candidate went into the queue.
pub record IsReady (g : Graph) (w : HaveWalk) : Type 0 where
  pub exact : IsExact g w.border w.common.acknowledged.items w.common.commits.items
  pub entered : length w.frontier.candidates.items ≤ w.frontier.entered

-- The commit was read.
abbrev pub IsRead : HaveWalk → ObjectId → Type 0
IsRead w id = is_some (commit_at (read_in w.table) id) ≡ true

-- Commits were taken in between, after those before, and more may have been read.
pub record GoesOn (w v : HaveWalk) : Type 0 where
  pub grows : Grows (read_in w.table) (read_in v.table)
  pub tips : tips_in v.frontier ≡ tips_in w.frontier
  pub border : v.border ≡ w.border
  pub acknowledged : v.common.acknowledged.items ≡ w.common.acknowledged.items
  pub taken : Extends w.frontier.taken.items v.frontier.taken.items
