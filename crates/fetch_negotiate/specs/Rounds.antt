-- The rounds of a negotiation: its requests one after another.
use Rattle.std.specs.Prelude.{◌≡◌, ℕ, Bool, List, [], ◌∷◌, length, fold, nat_lt}
use Rattle.std.specs.List.{flat_map}
use Rattle.fetch_base.specs.declared.id.ObjectId.{ObjectId}
use Rattle.fetch_store.specs.Graph.{Graph}
use Rattle.fetch_negotiate.specs.declared.algorithm.Algorithm.{Algorithm}
use Rattle.fetch_negotiate.specs.declared.algorithm.Round.{Round}
use Rattle.fetch_negotiate.specs.Any.{sharing}
use Rattle.fetch_negotiate.specs.Haves.{Negotiation}
use Rattle.fetch_negotiate.specs.Windows.{window_of, next_size}

-- the negotiation once ids were acknowledged, one after another
abbrev pub sharing_all : Algorithm → Negotiation → List ObjectId → Negotiation
sharing_all algorithm n ids = fold (sharing algorithm) n ids

-- A round tells the next window, and ends the rounds exactly where that isn't full.
pub record IsRound (g : Graph) (algorithm : Algorithm) (size : ℕ) (n : Negotiation) (r : Round) : Type 0 where
  pub haves : r.haves ≡ (window_of g algorithm size n).haves
  pub done : r.done ≡ nat_lt (length r.haves) size

-- Each round tells the window that comes next, once the ids acknowledged in the rounds before were told.
abbrev pub AreRounds : Graph → Algorithm → ℕ → Negotiation → List Round → Type 0
AreRounds g algorithm size n [] = Unit {0}
AreRounds g algorithm size n (r ∷ rounds) =
    IsRound g algorithm size n r × AreRounds g algorithm (next_size size)
    (sharing_all algorithm (window_of g algorithm size n).later r.acknowledged) rounds

-- the haves of all rounds
abbrev pub haves_in : List Round → List ObjectId
haves_in rounds = flat_map (λ (r : Round). r.haves) rounds
