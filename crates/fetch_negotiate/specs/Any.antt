-- What the negotiator of an algorithm tells.
use Rattle.std.specs.Prelude.{List, [], None}
use Rattle.std.specs.FinSet as set
use Rattle.fetch_base.specs.declared.id.ObjectId.{ObjectId}
use Rattle.fetch_store.specs.Graph.{Graph}
use Rattle.fetch_base.specs.Id.{id_cmp}
use Rattle.fetch_negotiate.specs.declared.algorithm.Algorithm.{Algorithm}
use Rattle.fetch_negotiate.specs.declared.algorithm.Algorithm.TheVariants as algorithms
use Rattle.fetch_negotiate.specs.declared.any.AnyNegotiator.{AnyNegotiator}
use Rattle.fetch_negotiate.specs.declared.any.AnyNegotiator.TheVariants as negotiators
use Rattle.fetch_negotiate.specs.Haves.{Negotiation, started, taking, acknowledging, next_taken}
use Rattle.fetch_negotiate.specs.Kept.{read_by}
use Rattle.fetch_negotiate.specs.Reading.{Read}
use Rattle.fetch_negotiate.specs.Skips.{Offer, next_offered}

-- the commit that an algorithm offers next, and the negotiation then
abbrev pub offer_of : Graph → Algorithm → Negotiation → Offer
offer_of g algorithms.Noop n = record { later = n; have = None }
offer_of g algorithms.Consecutive n = record { later = taking n (next_taken g n); have = next_taken g n }
offer_of g algorithms.Skipping n = next_offered g n

-- a negotiation without tips, in which nothing happens
abbrev pub idle : Negotiation
idle = started [] set.empty

-- the negotiation that an algorithm begins with
abbrev pub begun : Algorithm → List ObjectId → set.FinSet id_cmp → Negotiation
begun algorithms.Noop tips border = idle
begun algorithms.Consecutive tips border = started tips border
begun algorithms.Skipping tips border = started tips border

-- the negotiation once an id was acknowledged
abbrev pub sharing : Algorithm → Negotiation → ObjectId → Negotiation
sharing algorithms.Noop n id = n
sharing algorithms.Consecutive n id = acknowledging n id
sharing algorithms.Skipping n id = acknowledging n id

-- the algorithm of a negotiator
abbrev pub algorithm_of : AnyNegotiator → Algorithm
algorithm_of negotiators.Noop = algorithms.Noop
algorithm_of (negotiators.Consecutive c) = algorithms.Consecutive
algorithm_of (negotiators.Skipping s) = algorithms.Skipping

-- what a negotiator has told so far
abbrev pub so_far_of : AnyNegotiator → Negotiation
so_far_of negotiators.Noop = idle
so_far_of (negotiators.Consecutive c) = c.so_far
so_far_of (negotiators.Skipping s) = s.so_far

-- what was read
abbrev pub known_by : AnyNegotiator → Read
known_by negotiators.Noop = λ id. None
known_by (negotiators.Consecutive c) = read_by c.known
known_by (negotiators.Skipping s) = read_by s.known

-- the commits offered, in order
abbrev pub given_by : AnyNegotiator → List ObjectId
given_by negotiators.Noop = []
given_by (negotiators.Consecutive c) = c.so_far.taken
given_by (negotiators.Skipping s) = s.offered
