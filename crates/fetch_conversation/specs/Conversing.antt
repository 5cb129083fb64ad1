-- How a pack is asked for and read, step by step.
use Rattle.std.specs.Prelude.{◌≡◌, ◌≢◌, ℕ, suc, Bool, false, List, Option, Some, None, Result, Ok, Err, ⊤, not}
use Rattle.fetch_base.specs.declared.id.ObjectId.{ObjectId}
use Rattle.fetch_store.specs.Graph.{Graph}
use Rattle.fetch_lines.specs.declared.requests.records.FetchReply.{FetchReply}
use Rattle.fetch_negotiate.specs.Any.{so_far_of}
use Rattle.fetch_negotiate.specs.Requests.{fetch_request}
use Rattle.fetch_negotiate.specs.declared.algorithm.Algorithm.{Algorithm}
use Rattle.fetch_lines.specs.RequestLines.{request_lines}
use Rattle.fetch_wire.specs.SessionStates.{SessionState, IsAlike, requested}
use Rattle.fetch_wire.specs.SessionStates as session
use Rattle.fetch_lines.specs.Talks.{Talk}
use Rattle.fetch_lines.specs.Written.{first_too_long}
use Rattle.fetch_lines.specs.declared.requests.records.Request.{Request}
use Rattle.fetch_conversation.specs.Conversation.{ends, Concludes, Breaks}
use Rattle.fetch_conversation.specs.ConverseStage.{unmapped, unlike, unfit, lacked, is_border_needed, converse_stage}
use Rattle.fetch_conversation.specs.Errors.{is_free_receiving, is_client, is_stopped}
use Rattle.fetch_conversation.specs.Exchange.{FetchArgumentsValue, asked_by, haves_told, reply_to, other_reply, exchange}
use Rattle.fetch_conversation.specs.ListStage.{ListedValue}
use Rattle.fetch_conversation.specs.Rounds.{RoundsStateValue, Negotiated, next_window, is_short, is_end, rounds_with, rounds_state_after}
use Rattle.fetch_conversation.specs.Rounds.{negotiating}
use Rattle.fetch_conversation.specs.declared.conversing.FetchArguments.{FetchArguments}
use Rattle.fetch_conversation.specs.declared.fetch.Error.{Error}
use Rattle.fetch_conversation.specs.declared.fetch.Error.TheVariants as errors
use Rattle.fetch_conversation.specs.declared.negotiate.Negotiate.{Negotiate}
use Rattle.fetch_conversation.specs.declared.rounds.RoundsState.{RoundsState}

-- what a pack is asked for by, which was lent
abbrev pub arguments_told : ListedValue → FetchArguments → FetchArgumentsValue
arguments_told l t = record {
  listed = l;
  settings = t.settings.now;
  view = t.view.now;
  tags = t.tags;
  shallow = t.shallow.now;
  dry_run = t.dry_run;
}

-- a refusal is told, or out of memory in its place; where there is none, nothing is refused
abbrev pub Tells : {T : Type 0} → Option Error → Result T Error → Type 0
Tells None (Ok x) = ⊤
Tells None (Err e) = e ≡ errors.NoMemory
Tells (Some e) (Ok x) = ⊥
Tells (Some e) (Err f) = f ≢ errors.NoMemory → f ≡ e

-- nothing is refused before anything is sent
pub record IsClear (t : FetchArgumentsValue) : Type 0 where
  pub mapped : unmapped t.listed.ref_map ≡ None
  pub alike : unlike t.settings.kind t.listed.handshake.object_hash ≡ None
  pub fit : unfit t.settings ≡ None
  pub offered : lacked t.listed.handshake (is_border_needed t.view.border t.shallow) ≡ None

-- The stage is this refusal, unless it is a free one.
abbrev pub IsRefusal : FetchArgumentsValue → Error → Type 0
IsRefusal t e = is_free_receiving e ≡ false → (bound : ℕ) (g : Graph) → converse_stage bound g t ≡ ends (Err e)

-- neither a fault of the peer nor a yes of the interrupt
abbrev pub IsOwn : Error → Type 0
IsOwn e = (is_client e ≡ false) × (is_stopped e ≡ false)

-- ---- one request

-- The request with these haves is to be sent, and its reply is awaited.
pub record IsAsked (t : FetchArgumentsValue) (haves : List ObjectId) (done : Bool) (before now : SessionState) : Type 0 where
  pub request : Request
  pub lines : request_lines request ≡ fetch_request (asked_by t) haves done
  pub reply : session.asked_by before request (not t.dry_run) ≡ reply_to t haves done
  pub fits : first_too_long (fetch_request (asked_by t) haves done) ≡ None
  pub is : IsAlike now (requested before request (not t.dry_run))

-- what is found, once the reply is there
abbrev pub found_in : {X : Type 0} → (FetchReply → Result X Error) → Option FetchReply → Result X Error
found_in f None = Err other_reply
found_in f (Some reply) = f reply

-- the reply that a session keeps once a request was answered
abbrev pub reply_of : {T : Type 0} → Result T Error → Option FetchReply → Result FetchReply Error
reply_of (Ok x) reply = found_in Ok reply
reply_of (Err e) reply = Err e

-- ---- the rounds

-- how far the rounds are, as a value
abbrev pub rounds_state_of : RoundsState → RoundsStateValue
rounds_state_of c = record { so_far = so_far_of c.negotiator; shared = c.shared.items; rounds = c.rounds; size = c.size }

-- A round was held: the request of its window was answered by the reply that is kept, and it is told whether that ends
-- the rounds.
pub record IsHeld (answers : Bool) (bound : ℕ) (old new : Option Talk) (pending rest : List ℕ) (t : FetchArgumentsValue) (g : Graph)
    (algorithm : Algorithm) (c now : RoundsStateValue) (stored : Option FetchReply) (last : Bool) : Type 0 where
  pub reply : FetchReply
  pub kept : stored ≡ Some reply
  pub held : Concludes answers bound old new pending
      (exchange bound t (haves_told c.shared (next_window g algorithm c).haves) (is_short c (next_window g algorithm c))) reply rest
  pub ends : last ≡ is_end c (next_window g algorithm c) reply
  pub rounds : now.rounds ≡ rounds_with c (next_window g algorithm c) reply
  pub goes : last ≡ false → now ≡ rounds_state_after algorithm c (next_window g algorithm c) reply

-- A round is held, or the rounds break off.
abbrev pub Holds : Bool → ℕ → Option Talk → Option Talk → List ℕ → List ℕ → FetchArgumentsValue → Graph → Algorithm → RoundsStateValue
    → RoundsStateValue
    → Option FetchReply → Result Bool Error → Type 0
Holds answers bound old new pending rest t g algorithm c now kept (Ok last) =
    IsHeld answers bound old new pending rest t g algorithm c now kept last
Holds answers bound old new pending rest t g algorithm c now kept (Err e) = (more : ℕ)
    → Breaks is_free_receiving is_stopped answers bound old new pending (negotiating (suc more) bound t g algorithm c) e

-- what the rounds end with, the reply being the one that a session keeps
abbrev pub negotiated_of : Result Negotiate Error → Option FetchReply → Result Negotiated Error
negotiated_of (Ok n) reply = found_in (λ r. Ok (record { rounds = n.rounds; reply = r })) reply
negotiated_of (Err e) reply = Err e
