-- The rounds of a fetch: one request after another, until one of them ends the rounds.
use Rattle.std.specs.Prelude.{ℕ, zero, suc, Bool, ◌||◌, List, [], ◌∷◌, ◌++◌, length, Ok, Err, nat_lt, if◌then◌else◌}
use Rattle.fetch_base.specs.declared.id.ObjectId.{ObjectId}
use Rattle.fetch_store.specs.Graph.{Graph}
use Rattle.fetch_lines.specs.KnownIds.{each_once}
use Rattle.fetch_lines.specs.declared.requests.records.FetchReply.{FetchReply}
use Rattle.fetch_negotiate.specs.Any.{begun}
use Rattle.fetch_negotiate.specs.Haves.{Negotiation}
use Rattle.fetch_negotiate.specs.Rounds.{sharing_all}
use Rattle.fetch_negotiate.specs.Windows.{Window, window_of, first_size, next_size}
use Rattle.fetch_negotiate.specs.declared.algorithm.Algorithm.{Algorithm}
use Rattle.fetch_negotiate.specs.declared.algorithm.Round.{Round}
use Rattle.fetch_conversation.specs.Conversation.{Conversation, ends, and_then}
use Rattle.fetch_conversation.specs.Exchange.{FetchArgumentsValue, haves_told, other_reply, exchange}
use Rattle.fetch_conversation.specs.declared.conversing.View.{View}
use Rattle.fetch_conversation.specs.declared.fetch.Error.{Error}

-- How far the rounds are: the negotiation, the ids that were acknowledged, each once, the rounds that were held, and how many
-- commits the next window may have.
pub record RoundsStateValue : Type 0 where
  pub so_far : Negotiation
  pub shared : List ObjectId
  pub rounds : List Round
  pub size : ℕ

-- before the first round
abbrev pub first_rounds_state : Algorithm → View → RoundsStateValue
first_rounds_state algorithm view = record { so_far = begun algorithm view.tips view.border; shared = []; rounds = []; size = first_size }

-- the window of the next round
abbrev pub next_window : Graph → Algorithm → RoundsStateValue → Window
next_window g algorithm c = window_of g algorithm c.size c.so_far

-- a window that isn't full, which ends the rounds
abbrev pub is_short : RoundsStateValue → Window → Bool
is_short c w = nat_lt (length w.haves) c.size

-- the round of a window that was answered so
abbrev pub round_of : RoundsStateValue → Window → FetchReply → Round
round_of c w reply = record { haves = w.haves; acknowledged = reply.acknowledged; done = is_short c w }

-- the rounds with this one at the end
abbrev pub rounds_with : RoundsStateValue → Window → FetchReply → List Round
rounds_with c w reply = c.rounds ++ round_of c w reply ∷ []

-- The negotiator is told what was acknowledged, and the next window is twice as large.
abbrev pub rounds_state_after : Algorithm → RoundsStateValue → Window → FetchReply → RoundsStateValue
rounds_state_after algorithm c w reply = record {
  so_far = sharing_all algorithm w.later reply.acknowledged;
  shared = each_once (c.shared ++ reply.acknowledged);
  rounds = rounds_with c w reply;
  size = next_size c.size;
}

-- what the rounds end with: all of them, and the last reply
pub record Negotiated : Type 0 where
  pub rounds : List Round
  pub reply : FetchReply

-- The rounds end with a request that says `done`, and with a reply that is the last.
abbrev pub is_end : RoundsStateValue → Window → FetchReply → Bool
is_end c w reply = is_short c w || reply.last

-- That many rounds at most, from here on. They are never used up where they are more than the stored objects.
unfoldable pub negotiating : ℕ → ℕ → FetchArgumentsValue → Graph → Algorithm → RoundsStateValue → Conversation Negotiated Error
negotiating zero bound t g algorithm c = ends (Err other_reply)
negotiating (suc more) bound t g algorithm c =
    let w : Window = next_window g algorithm c in
    and_then (exchange bound t (haves_told c.shared w.haves) (is_short c w)) (λ reply.
    if is_end c w reply then ends (Ok (record { rounds = rounds_with c w reply; reply = reply }))
    else negotiating more bound t g algorithm (rounds_state_after algorithm c w reply))
