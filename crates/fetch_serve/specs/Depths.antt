-- What the depth lines of a request decide.
use Rattle.std.specs.Prelude.{◌⊎◌, ℕ, zero, suc, ◌-◌, Bool, true, false, not, ◌&&◌, ◌||◌, List, [], ◌++◌, map, filter, nat_le}
use Rattle.std.specs.Prelude.{Option, Some, None, is_some, All, Contains, if◌then◌else◌}
use Rattle.std.specs.FinMap as finmap
use Rattle.std.specs.FinSet as set
use Rattle.std.specs.List.{flat_map, list_all, list_any}
use Rattle.std.specs.Option.{option_and_then, option_map_or}
use Rattle.fetch_specs.specs.Matches.{taken}
use Rattle.fetch_store.specs.Borders.{IdSet, set_of}
use Rattle.fetch_store.specs.Closed.{IsCommit}
use Rattle.fetch_store.specs.Found.{there}
use Rattle.fetch_store.specs.Graph.{Graph, is_commit_at}
use Rattle.fetch_store.specs.Spread.{Nexts, IsWithin, next_to}
use Rattle.fetch_base.specs.declared.id.ObjectId.{ObjectId}
use Rattle.fetch_lines.specs.References.{name_in}
use Rattle.fetch_lines.specs.declared.listings.reference.Ref.{Ref}
use Rattle.fetch_asked.specs.declared.asked.DepthAsked.{DepthAsked}
use Rattle.fetch_asked.specs.declared.asked.DepthAsked.TheVariants.{Deepen, Limits}
use Rattle.fetch_asked.specs.declared.asked.FetchAsked.{FetchAsked}
use Rattle.fetch_serve.specs.declared.depth.Depth.{Depth}
use Rattle.fetch_serve.specs.declared.depth.Move.{Move}
use Rattle.fetch_serve.specs.declared.depth.Move.TheVariants.{Comes, Leaves}
use Rattle.fetch_serve.specs.Offered.{ids_in, offered_of, peeled_from}
use Rattle.fetch_asked.specs.Requests.{has_id}
use Rattle.fetch_serve.specs.Served.{Data, history_of}

-- the border that the client sent
abbrev pub border_of : FetchAsked → IdSet
border_of r = set_of r.border

-- ---- steps from a commit to its parents

-- the parents of what stands at an id
abbrev pub parents_in : Graph → ObjectId → List ObjectId
parents_in history id = option_map_or (λ n. n.parents) (finmap.get history id) []

-- to each parent of a commit
abbrev pub parent_steps : Graph → Nexts
parent_steps history id = if is_commit_at history id then Some (parents_in history id) else None

-- to each parent of a commit, but none from a commit of this border
abbrev pub steps_within : Graph → IdSet → Nexts
steps_within history border id =
    if is_commit_at history id then Some (if set.contains border id then [] else parents_in history id) else None

-- to those parents of a commit that pass
abbrev pub steps_to : Graph → (ObjectId → Bool) → Nexts
steps_to history passes id = if is_commit_at history id then Some (filter passes (parents_in history id)) else None

-- ---- where steps lead, as a list

-- where at most that many steps lead from the starts; a commit may stand more than once
unfoldable pub led_within : Nexts → List ObjectId → ℕ → List ObjectId
led_within nexts starts zero = there nexts starts
led_within nexts starts (suc n) = led_within nexts starts n ++ there nexts (flat_map (next_to nexts) (led_within nexts starts n))

-- how many steps suffice: as many as there are objects, where they have no limit
abbrev pub steps_for : Graph → Option ℕ → ℕ
steps_for history None = finmap.len history
steps_for history (Some n) = n

-- where steps lead from the starts, no more of them than the limit, if there is one: ascending
unfoldable pub led_to : Graph → Nexts → List ObjectId → Option ℕ → List ObjectId
led_to history nexts starts limit = filter (λ id. has_id id (led_within nexts starts (steps_for history limit))) (finmap.keys history)

-- the ids of either list, ascending
abbrev pub either_of : Graph → List ObjectId → List ObjectId → List ObjectId
either_of history ids others = filter (λ id. has_id id ids || has_id id others) (finmap.keys history)

-- ---- where they begin

-- what a tag leads to; another id leads to itself
abbrev pub peeled_or_self : Graph → ObjectId → ObjectId
peeled_or_self history id = option_map_or (λ last. last) (peeled_from history id) id

-- what the wants peel to
abbrev pub roots_of : Data → FetchAsked → List ObjectId
roots_of d r = map (peeled_or_self (history_of d)) r.wants

-- ---- deepen-relative

-- the commits that the client may have: steps leave no commit of its border
abbrev pub near_of : Data → FetchAsked → List ObjectId
near_of d r = led_to (history_of d) (steps_within (history_of d) (border_of r)) (roots_of d r) None

-- the commits of the border among these
abbrev pub met_of : Data → FetchAsked → List ObjectId
met_of d r = filter (set.contains (border_of r)) (near_of d r)

-- ---- deepen-since and deepen-not

-- whether a commit isn't before a time, if there is one
abbrev pub is_late : Graph → Option ℕ → ObjectId → Bool
is_late history None id = true
is_late history (Some cutoff) id = option_map_or (nat_le cutoff) (option_and_then (λ n. n.seconds) (finmap.get history id)) false

-- whether a reference has one of these names, whole or short
abbrev pub is_named : List (List ℕ) → Ref → Bool
is_named names reference = list_any (λ name. is_some (taken name (name_in reference))) names

-- the ids of a reference that has one of these names
abbrev pub ids_if_named : List (List ℕ) → Ref → List ObjectId
ids_if_named names reference = if is_named names reference then ids_in reference else []

-- the ids of the references of these names
abbrev pub named_ids : Data → List (List ℕ) → List ObjectId
named_ids d names = flat_map (ids_if_named names) (offered_of d false [])

-- the commits that references of these names reach
abbrev pub excluded_by : Data → List (List ℕ) → IdSet
excluded_by d names = set_of (led_to (history_of d) (parent_steps (history_of d)) (named_ids d names) None)

-- whether a commit isn't before a time, nor one of these
abbrev pub may_be_kept : Graph → Option ℕ → IdSet → ObjectId → Bool
may_be_kept history cutoff excluded id = is_late history cutoff id && not (set.contains excluded id)

-- steps to parents that aren't before the time and that no reference of these names reaches
abbrev pub limited_steps : Data → Option ℕ → List (List ℕ) → Nexts
limited_steps d cutoff names = steps_to (history_of d) (may_be_kept (history_of d) cutoff (excluded_by d names))

-- ---- the commits that are kept

-- A commit is kept: by `deepen` where fewer steps than that lead to it from a want; if it is relative, where the client may
-- have it, or that many steps lead to it from the border; by limits where steps within them lead to it from a want.
abbrev pub IsKeptBy : Data → FetchAsked → Option DepthAsked → ObjectId → Type 0
IsKeptBy d r None id = ⊥
IsKeptBy d r (Some (Deepen n false)) id = IsWithin (parent_steps (history_of d)) (roots_of d r) (Some (n - 1)) id
IsKeptBy d r (Some (Deepen n true)) id = IsWithin (steps_within (history_of d) (border_of r)) (roots_of d r) None id
    ⊎ IsWithin (parent_steps (history_of d)) (met_of d r) (Some n) id
IsKeptBy d r (Some (Limits cutoff names)) id = IsWithin (limited_steps d cutoff names) (roots_of d r) None id

-- the commits that are kept, ascending
abbrev pub kept_by : Data → FetchAsked → Option DepthAsked → List ObjectId
kept_by d r None = []
kept_by d r (Some (Deepen n false)) = led_to (history_of d) (parent_steps (history_of d)) (roots_of d r) (Some (n - 1))
kept_by d r (Some (Deepen n true)) =
    either_of (history_of d) (near_of d r) (led_to (history_of d) (parent_steps (history_of d)) (met_of d r) (Some n))
kept_by d r (Some (Limits cutoff names)) = led_to (history_of d) (limited_steps d cutoff names) (roots_of d r) None

-- a commit is kept by the depth lines of a request
abbrev pub IsKept : Data → FetchAsked → ObjectId → Type 0
IsKept d r id = IsKeptBy d r r.depth id

-- the commits that they keep, ascending: none, where there are no such lines
abbrev pub kept_of : Data → FetchAsked → List ObjectId
kept_of d r = kept_by d r r.depth

-- ---- the border

-- whether each parent of a commit is one of these
abbrev pub are_parents_among : Graph → List ObjectId → ObjectId → Bool
are_parents_among history ids id = list_all (λ parent. has_id parent ids) (parents_in history id)

-- Whether a kept commit comes to a border, since it isn't there and some parent isn't kept; or whether it leaves the border,
-- since it is there and each parent is kept.
abbrev pub is_moved : Graph → IdSet → List ObjectId → Move → ObjectId → Bool
is_moved history border kept Comes id = not (set.contains border id) && not (are_parents_among history kept id)
is_moved history border kept Leaves id = set.contains border id && are_parents_among history kept id

-- the kept commits that come to a border, or leave it
abbrev pub moved_of : Graph → IdSet → List ObjectId → Move → List ObjectId
moved_of history border kept way = filter (is_moved history border kept way) kept

-- the commits that come to the client's border, ascending
abbrev pub shallow_of : Data → FetchAsked → List ObjectId
shallow_of d r = moved_of (history_of d) (border_of r) (kept_of d r) Comes

-- the commits that leave the client's border, ascending
abbrev pub unshallow_of : Data → FetchAsked → List ObjectId
unshallow_of d r = moved_of (history_of d) (border_of r) (kept_of d r) Leaves

-- what the depth lines of a request decide
abbrev pub depth_of : Data → FetchAsked → Depth
depth_of d r = record { kept = kept_of d r; shallow = shallow_of d r; unshallow = unshallow_of d r }

-- What depth lines may decide, whatever they are: stored commits are kept, those that come to the border are among them, and
-- those that leave it are stored commits of the border that was sent.
pub record IsDepth (d : Data) (r : FetchAsked) (x : Depth) : Type 0 where
  pub kept : All (IsCommit d.objects) x.kept
  pub comes : All (Contains x.kept) x.shallow
  pub leaves : All (Contains r.border) x.unshallow
  pub stored : All (IsCommit d.objects) x.unshallow
