-- How many commits one request tells.
use Rattle.std.specs.Prelude.{◌≡◌, ℕ, zero, suc, ◌+◌, ◌*◌, ◌<◌, min, List, [], ◌∷◌, ◌++◌, length, Option, Some, None}
use Rattle.fetch_base.specs.declared.id.ObjectId.{ObjectId}
use Rattle.fetch_store.specs.Graph.{Graph}
use Rattle.fetch_negotiate.specs.declared.algorithm.Algorithm.{Algorithm}
use Rattle.fetch_negotiate.specs.Any.{offer_of}
use Rattle.fetch_negotiate.specs.Haves.{Negotiation}

-- Commits that are told together, and the negotiation then.
pub record Window : Type 0 where
  pub haves : List ObjectId
  pub later : Negotiation

-- a commit and the rest of its window, which ends where none is offered
abbrev pub beginning : Option ObjectId → Negotiation → (Negotiation → Window) → Window
beginning None later rest = record { haves = []; later = later }
beginning (Some id) later rest = record { haves = id ∷ (rest later).haves; later = (rest later).later }

-- at most that many commits, as they are offered one after another
unfoldable pub window_of : Graph → Algorithm → ℕ → Negotiation → Window
window_of g algorithm zero n = record { haves = []; later = n }
window_of g algorithm (suc more) n = beginning (offer_of g algorithm n).have (offer_of g algorithm n).later (window_of g algorithm more)

-- the first window
abbrev pub first_size : ℕ
first_size = 16

-- each window is to have twice as many commits as the one before, up to this many
abbrev pub next_size : ℕ → ℕ
next_size size = min (size * 2) 1024

-- A window that was broken off: some of its commits were told, and the others are what comes next.
pub record IsBroken (g : Graph) (algorithm : Algorithm) (size : ℕ) (before now : Negotiation)
    (given given_now : List ObjectId) : Type 0 where
  pub told : List ObjectId
  pub left : ℕ
  pub some_left : 0 < left
  pub all : length told + left ≡ size
  pub haves : (window_of g algorithm size before).haves ≡ told ++ (window_of g algorithm left now).haves
  pub later : (window_of g algorithm size before).later ≡ (window_of g algorithm left now).later
  pub gave : given_now ≡ given ++ told
