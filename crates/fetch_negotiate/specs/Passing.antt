-- What the algorithm that passes commits over comes to, with no bound on its steps.
use Rattle.std.specs.Prelude.{◌≡◌, true, false, List, [], ◌∷◌, ◌++◌, Option, Some, None}
use Rattle.fetch_base.specs.declared.id.ObjectId.{ObjectId}
use Rattle.fetch_store.specs.Graph.{Graph}
use Rattle.fetch_negotiate.specs.Haves.{Negotiation, taking, next_taken}
use Rattle.fetch_negotiate.specs.Skips.{Offer, offers}

-- These commits come next, one after another, and none of them is offered.
abbrev pub ArePassed : Graph → Negotiation → List ObjectId → Type 0
ArePassed g n [] = Unit {0}
ArePassed g n (id ∷ ids) = (next_taken g n ≡ Some id) × (offers g n id ≡ false) × ArePassed g (taking n (Some id)) ids

-- Nothing is left, and so nothing is offered; or the commit that comes next is.
abbrev pub IsEnd : Graph → Negotiation → Option ObjectId → Negotiation → Type 0
IsEnd g n None later = (next_taken g n ≡ None) × (later ≡ n)
IsEnd g n (Some id) later = (next_taken g n ≡ Some id) × (offers g n id ≡ true) × (later ≡ taking n (Some id))

-- Some commits are passed over, and then none is left or the next one is offered.
pub record IsOffer (g : Graph) (n : Negotiation) (o : Offer) : Type 0 where
  pub passed : List ObjectId
  pub each : ArePassed g n passed
  pub end : IsEnd g (record n { taken = n.taken ++ passed }) o.have o.later
