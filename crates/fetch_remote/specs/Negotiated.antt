-- What a fetch says of what is there.
use Rattle.std.specs.Prelude.{◌≡◌, ℕ, ◌≤◌, Bool, false, List, [], ◌++◌, length, filter, nat_eq, Option, Some, None}
use Rattle.std.specs.List.{All, IsDistinct, flat_map, starts_with}
use Rattle.std.specs.Ordering.{eq_by_cmp}
use Rattle.fetch_store.specs.Borders.{IdSet, ids_of}
use Rattle.fetch_store.specs.Graph.{graph_of}
use Rattle.fetch_base.specs.Id.{id_cmp}
use Rattle.fetch_negotiate.specs.Commits.{IsStoredCommit}
use Rattle.fetch_negotiate.specs.Rounds.{haves_in}
use Rattle.fetch_negotiate.specs.declared.algorithm.Round.{Round}
use Rattle.fetch_lines.specs.RequestLines.{id_lines}
use Rattle.fetch_lines.specs.RequestWords.{shallow_word}
use Rattle.fetch_lines.specs.Requests.{sent}
use Rattle.fetch_lines.specs.declared.lines.line.Line.{Line}
use Rattle.fetch_lines.specs.declared.lines.line.Line.TheVariants.{Payload, Flush, Delim, End}
use Rattle.fetch_conversation.specs.Conversation.{sent_in}
use Rattle.fetch_conversation.specs.ListStage.{ListedValue}
use Rattle.fetch_conversation.specs.Requested.{TellsRounds}
use Rattle.fetch_conversation.specs.declared.conversing.Received.{Received}
use Rattle.fetch_remote.specs.Form.{Given}
use Rattle.fetch_remote.specs.Repositories.{State}
use Rattle.fetch_remote.specs.Stages.{bound_of, terms_in, pack_stage}

-- whether a line of a request tells a commit of the border
abbrev pub is_shallow : Line → Bool
is_shallow (Payload text) = starts_with nat_eq text shallow_word
is_shallow Flush = false
is_shallow Delim = false
is_shallow End = false

-- the commits of a border, ascending, a line for each
abbrev pub border_lines : IdSet → List Line
border_lines border = sent (id_lines shallow_word (ids_of border))

-- What the rounds of a fetch told.
pub record HasNegotiated (g : Given) (before : State) (l : ListedValue) (lines : List Line) (rounds : List Round) : Type 0 where
  -- The fetch requests are one a round. Each tells the ids acknowledged before it and then its window, the next one of the
  -- settings' algorithm over the objects found, and has `done` exactly where that isn't full; the last alone has it.
  pub requests : TellsRounds (graph_of before.objects) (terms_in g before l) lines rounds
  -- A round without `done` has a full window, of sixteen commits or more.
  pub full : All (λ r. r.done ≡ false → 16 ≤ length r.haves) rounds
  -- No commit stands in two windows, or twice in one, and each is a stored commit of the repository found.
  pub once : IsDistinct (eq_by_cmp id_cmp) (haves_in rounds)
  pub stored : All (IsStoredCommit (graph_of before.objects)) (haves_in rounds)
  -- Each request tells the border found, and no other commit as its border.
  pub border : filter is_shallow lines ≡ flat_map (λ _. border_lines before.border) rounds

-- where nothing is received, nothing was asked for
abbrev pub HasNegotiatedBy : Given → State → ListedValue → List Line → Option Received → Type 0
HasNegotiatedBy g before l lines None = lines ≡ []
HasNegotiatedBy g before l lines (Some r) = HasNegotiated g before l lines r.negotiate.rounds

-- The rounds that are told were held with one who says this after the listing, whatever comes after.
pub record AreHeld (g : Given) (before : State) (l : ListedValue) (behind : List ℕ) (received : Option Received) : Type 0 where
  pub each : (more : List ℕ) → HasNegotiatedBy g before l (sent_in (bound_of g) (pack_stage g before l) (behind ++ more)) received
