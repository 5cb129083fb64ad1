-- What a fetch says that it has.
use Rattle.std.specs.Prelude.{ℕ, Bool, not, ◌&&◌, ◌||◌, ◌==◌, nat_lt, List, [], ◌∷◌, ◌++◌, Option, is_some, filter, find}
use Rattle.std.specs.FinSet as set
use Rattle.std.specs.List.{list_any, list_all, flat_map}
use Rattle.std.specs.Option.{option_map_or, option_to_list}
use Rattle.std.specs.Ordering.{eq_by_cmp, is_lt}
use Rattle.fetch_base.specs.declared.id.ObjectId.{ObjectId}
use Rattle.fetch_store.specs.Graph.{Graph}
use Rattle.fetch_base.specs.Id.{id_cmp}
use Rattle.fetch_negotiate.specs.declared.commits.Commit.{Commit}
use Rattle.fetch_negotiate.specs.Commits.{has, commit_of}
use Rattle.fetch_negotiate.specs.Ancestors.{links_of, is_ancestor}

-- A negotiation: the tips and the border that it began with, the commits taken so far and the ids that were
-- acknowledged, both in order.
pub record Negotiation : Type 0 where
  pub tips : List ObjectId
  pub border : set.FinSet id_cmp
  pub taken : List ObjectId
  pub acknowledged : List ObjectId

-- the negotiation before its first commit
abbrev pub started : List ObjectId → set.FinSet id_cmp → Negotiation
started tips border = record { tips = tips; border = border; taken = []; acknowledged = [] }

-- the negotiation once a commit was taken, if there is one
abbrev pub taking : Negotiation → Option ObjectId → Negotiation
taking n next = record n { taken = n.taken ++ option_to_list next }

-- the negotiation once an id was acknowledged
abbrev pub acknowledging : Negotiation → ObjectId → Negotiation
acknowledging n id = record n { acknowledged = n.acknowledged ++ id ∷ [] }

-- the tips, and the parents of the commits taken
abbrev pub candidates : Graph → Negotiation → List ObjectId
candidates g n = n.tips ++ flat_map (links_of g n.border) n.taken

-- an acknowledged commit, or an ancestor of one
abbrev pub is_common : Graph → set.FinSet id_cmp → List ObjectId → ObjectId → Bool
is_common g border acknowledged id = list_any (λ known. eq_by_cmp id_cmp id known || is_ancestor g border known id) acknowledged

-- a stored commit that wasn't taken and isn't common
abbrev pub is_open : Graph → Negotiation → ObjectId → Bool
is_open g n id = is_some (commit_of g id) && not (has n.taken id) && not (is_common g n.border n.acknowledged id)

-- the seconds of a stored commit, or 0
abbrev pub seconds_of : Graph → ObjectId → ℕ
seconds_of g id = option_map_or (λ (c : Commit). c.seconds) (commit_of g id) 0

-- more seconds come first, and then the smaller id
abbrev pub comes_before : Graph → ObjectId → ObjectId → Bool
comes_before g a b = nat_lt (seconds_of g b) (seconds_of g a) || (seconds_of g a == seconds_of g b && is_lt (id_cmp a b))

-- the first among some ids: none of the others comes before it
abbrev pub first_among : Graph → List ObjectId → Option ObjectId
first_among g ids = find (λ id. list_all (λ other. not (comes_before g other id)) ids) ids

-- the open candidate that comes first
unfoldable pub next_taken : Graph → Negotiation → Option ObjectId
next_taken g n = first_among g (filter (is_open g n) (candidates g n))
