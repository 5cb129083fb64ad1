-- Which commits are passed over: the further back, the more of them.
use Rattle.std.specs.Prelude.{ℕ, zero, suc, ◌+◌, ◌-◌, ◌*◌, ◌/◌, min, Bool, not, ◌||◌, ◌==◌, nat_lt, List, [], ◌∷◌, ◌++◌, map, length, fold}
use Rattle.std.specs.Prelude.{Option, Some, None, is_some, if◌then◌else◌}
use Rattle.std.specs.FinMap as finmap
use Rattle.std.specs.FinSet as set
use Rattle.std.specs.List.{list_any}
use Rattle.std.specs.Ordering.{eq_by_cmp}
use Rattle.fetch_base.specs.declared.id.ObjectId.{ObjectId}
use Rattle.fetch_store.specs.Graph.{Graph}
use Rattle.fetch_base.specs.Id.{id_cmp}
use Rattle.fetch_negotiate.specs.declared.skip.Skip.{Skip}
use Rattle.fetch_negotiate.specs.Ancestors.{links_of}
use Rattle.fetch_negotiate.specs.Commits.{commit_of}
use Rattle.fetch_negotiate.specs.Haves.{Negotiation, taking, next_taken}

-- the pair of a tip
abbrev pub no_skip : Skip
no_skip = record { first = 0; left = 0 }

-- half as much again and one more, up to the greatest number of 32 bits
abbrev pub longer : ℕ → ℕ
longer first = min (first * 3 / 2 + 1) 4294967295

-- whether a commit has a stored parent
abbrev pub has_parents : Graph → set.FinSet id_cmp → ObjectId → Bool
has_parents g border id = list_any (λ p. is_some (commit_of g p)) (links_of g border id)

-- whether a commit with this pair is offered
abbrev pub is_offered : Graph → set.FinSet id_cmp → Skip → ObjectId → Bool
is_offered g border s id = s.left == 0 || not (has_parents g border id)

-- the pair that a commit hands on to its parents
abbrev pub handed : Bool → Skip → Skip
handed offered s = if offered then record { first = longer s.first; left = longer s.first }
    else record { first = s.first; left = s.left - 1 }

-- of a commit's own pair and one that is handed to it, its own unless its first is smaller
abbrev pub higher : Skip → Skip → Skip
higher own other = if nat_lt own.first other.first then other else own

-- the pairs that were handed on, in order
abbrev pub Pairs : Type 0
Pairs = List (ObjectId × Skip)

-- The pair of a commit, of those handed to it in order. Each that is handed on has a first of one or more.
abbrev pub pair_of : Pairs → ObjectId → Skip
pair_of pairs id = fold (λ own p. if eq_by_cmp id_cmp p.0 id then higher own p.1 else own) no_skip pairs

-- what a commit hands on
abbrev pub hands : Graph → set.FinSet id_cmp → Pairs → ObjectId → Pairs
hands g border pairs id = map (λ p. (p, handed (is_offered g border (pair_of pairs id) id) (pair_of pairs id))) (links_of g border id)

-- the pairs handed, once these commits were taken one after another
abbrev pub handing : Graph → set.FinSet id_cmp → Pairs → List ObjectId → Pairs
handing g border pairs [] = pairs
handing g border pairs (id ∷ taken) = handing g border (pairs ++ hands g border pairs id) taken

-- the pairs handed so far, of which the tips have the first
unfoldable pub pairs_of : Graph → Negotiation → Pairs
pairs_of g n = handing g n.border (map (λ tip. (tip, no_skip)) n.tips) n.taken

-- whether the commit that is taken next is offered
unfoldable pub offers : Graph → Negotiation → ObjectId → Bool
offers g n id = is_offered g n.border (pair_of (pairs_of g n) id) id

-- A commit that was offered, if there was one left, and the negotiation then.
pub record Offer : Type 0 where
  pub later : Negotiation
  pub have : Option ObjectId

-- one commit is taken, and the rest follows where it isn't offered
abbrev pub after_one : Graph → Negotiation → Option ObjectId → (Negotiation → Offer) → Offer
after_one g n None rest = record { later = n; have = None }
after_one g n (Some id) rest = if offers g n id then record { later = taking n (Some id); have = Some id } else rest (taking n (Some id))

-- Commits are taken, at most that many, until one is offered or none is left.
unfoldable pub skipping : Graph → ℕ → Negotiation → Offer
skipping g zero n = record { later = n; have = None }
skipping g (suc more) n = after_one g n (next_taken g n) (skipping g more)

-- what is offered next: each stored commit is taken once at most
unfoldable pub next_offered : Graph → Negotiation → Offer
next_offered g n = skipping g (length (finmap.keys g)) n
