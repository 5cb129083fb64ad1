-- The requests of a conversation for a pack, all together.
use Rattle.std.specs.Prelude.{◌≡◌, ◌≢◌, false, List, [], ◌∷◌, ◌++◌, ⊤}
use Rattle.fetch_base.specs.declared.id.ObjectId.{ObjectId}
use Rattle.fetch_store.specs.Graph.{Graph}
use Rattle.fetch_lines.specs.KnownIds.{each_once}
use Rattle.fetch_lines.specs.declared.lines.line.Line.{Line}
use Rattle.fetch_negotiate.specs.Any.{begun}
use Rattle.fetch_negotiate.specs.Requests.{Asked, fetch_request}
use Rattle.fetch_negotiate.specs.Rounds.{AreRounds}
use Rattle.fetch_negotiate.specs.Windows.{first_size}
use Rattle.fetch_negotiate.specs.declared.algorithm.Round.{Round}
use Rattle.fetch_conversation.specs.ConverseStage.{algorithm_in}
use Rattle.fetch_conversation.specs.Exchange.{FetchArgumentsValue, asked_by, haves_told}

-- The requests of rounds, one after another. Each has the ids acknowledged before it, in the order in which each first
-- was, and then its window; and `done` where its round has that.
abbrev pub requests_of : Asked → List ObjectId → List Round → List Line
requests_of a shared [] = []
requests_of a shared (r ∷ rounds) = fetch_request a (haves_told shared r.haves) r.done
    ++ requests_of a (each_once (shared ++ r.acknowledged)) rounds

-- None but the last of the rounds has `done`.
abbrev pub AreOpen : List Round → Type 0
AreOpen [] = ⊤
AreOpen (r ∷ rounds) = (rounds ≢ [] → r.done ≡ false) × AreOpen rounds

-- These lines are the requests of these rounds, of which each tells the next window of the settings' algorithm.
pub record TellsRounds (g : Graph) (t : FetchArgumentsValue) (sent : List Line) (rounds : List Round) : Type 0 where
  pub are : AreRounds g (algorithm_in t.settings) first_size (begun (algorithm_in t.settings) t.view.tips t.view.border) rounds
  pub going : AreOpen rounds
  pub lines : sent ≡ requests_of (asked_by t) [] rounds
