-- What a server writes, by which a fetch comes to its end.
use Rattle.std.specs.Prelude.{◌≡◌, ◌≢◌, ◌≤◌, ℕ, true, false, List, [], ◌∷◌, ◌++◌, map, Option, None, Ok, All, IfSome, sum_by, unwrap_or}
use Rattle.fetch_pack.specs.Reading.{Contents, read}
use Rattle.fetch_specs.specs.Conflicts.{conflicts_of}
use Rattle.fetch_specs.specs.Matches.{mappings_of}
use Rattle.fetch_store.specs.Graph.{Graph}
use Rattle.fetch_base.specs.declared.id.ObjectId.{ObjectId}
use Rattle.fetch_lines.specs.Bands.{Band}
use Rattle.fetch_lines.specs.KnownIds.{has_id, each_once}
use Rattle.fetch_lines.specs.Greetings.{handshake_of, offers}
use Rattle.fetch_lines.specs.Lines.{line_len}
use Rattle.fetch_replies.specs.NamesTold.{AreNamedOnce}
use Rattle.fetch_lines.specs.References.{name_in}
use Rattle.fetch_lines.specs.Requests.{listing_lines}
use Rattle.fetch_lines.specs.ServerLines.{greeting_lines, IsTellable, listing_lines_of, IsListable, IsIdOf, round_lines, in_round}
use Rattle.fetch_lines.specs.ServerLines.{BorderChange, IsChangeOf, last_lines, at_last, ready_lines}
use Rattle.fetch_wire.specs.SessionStates.{listing_feature}
use Rattle.fetch_lines.specs.Written.{lines_text, first_too_long}
use Rattle.fetch_replies.specs.declared.replies.reply.ReplyContext.{ReplyContext}
use Rattle.fetch_lines.specs.declared.greetings.handshake.Capability.{Capability}
use Rattle.fetch_lines.specs.declared.greetings.handshake.Handshake.{Handshake}
use Rattle.fetch_lines.specs.declared.lines.line.Line.{Line}
use Rattle.fetch_lines.specs.declared.requests.records.FetchReply.{FetchReply}
use Rattle.fetch_lines.specs.declared.listings.reference.Ref.{Ref}
use Rattle.fetch_negotiate.specs.Requests.{fetch_request}
use Rattle.fetch_negotiate.specs.declared.algorithm.Algorithm.{Algorithm}
use Rattle.fetch_conversation.specs.ConverseStage.{algorithm_in, rejected}
use Rattle.fetch_conversation.specs.Conversing.{IsClear}
use Rattle.fetch_conversation.specs.Exchange.{FetchArgumentsValue, asked_by, haves_told, reply_to}
use Rattle.fetch_conversation.specs.ListStage.{LsRefsValue, all_specs, prefixes_asked, no_specs, unsendable}
use Rattle.fetch_conversation.specs.Listing.{first_of}
use Rattle.fetch_conversation.specs.Rounds.{RoundsStateValue, Negotiated, first_rounds_state, next_window, is_short, is_end, rounds_with}
use Rattle.fetch_conversation.specs.Rounds.{rounds_state_after}

-- Each line fits, and all of them are within the bound.
pub record AreWithin (bound : ℕ) (lines : List Line) : Type 0 where
  pub fit : first_too_long lines ≡ None
  pub bounded : sum_by line_len lines ≤ bound

-- ---- the references

-- The query has refspecs, and nothing of it is refused before or after this greeting.
pub record IsAskable (q : LsRefsValue) (h : Handshake) : Type 0 where
  pub some : no_specs q ≡ None
  pub sendable : unsendable q ≡ None
  pub first : first_too_long (first_of q ∷ []) ≡ None
  pub request : first_too_long (listing_lines h q.agent (prefixes_asked q)) ≡ None
  pub offered : offers listing_feature h.capabilities ≡ true

-- A server greets with these capabilities and lists these references, of which no two lead to one destination.
pub record IsListing (bound : ℕ) (q : LsRefsValue) (capabilities : List Capability) (refs : List Ref) : Type 0 where
  pub tellable : All IsTellable capabilities
  pub greeting : AreWithin bound (greeting_lines capabilities)
  pub listable : All (IsListable (handshake_of capabilities).object_hash) refs
  pub named_once : AreNamedOnce refs
  pub listing : AreWithin bound (listing_lines_of refs)
  pub clear : conflicts_of (mappings_of (all_specs q) (map name_in refs) (handshake_of capabilities).object_hash) ≡ []

-- the greeting, and the references
abbrev pub listing_text : List Capability → List Ref → List ℕ
listing_text capabilities refs = lines_text (greeting_lines capabilities) ++ lines_text (listing_lines_of refs)

-- ---- the rounds

-- what a server answers to a fetch request: it acknowledges haves, or it sends the pack, and it may do so at once where it
-- is ready
pub data Answer : Type 0 where
  acknowledges : List ObjectId → Answer
  packs : Option BorderChange → List Band → Answer
  readies : List ObjectId → Option BorderChange → List Band → Answer

-- as it is written
abbrev pub lines_of : Answer → List Line
lines_of (acknowledges ids) = round_lines ids
lines_of (packs change bands) = last_lines change bands
lines_of (readies ids change bands) = ready_lines ids change bands

-- what it tells
abbrev pub reply_of : Answer → FetchReply
reply_of (acknowledges ids) = in_round ids
reply_of (packs change bands) = at_last change bands
reply_of (readies ids change bands) = record (at_last change bands) { acknowledged = each_once ids }

-- these are ids of the server's hash, and haves of the request
pub record AreHaves (asked : ReplyContext) (ids : List ObjectId) : Type 0 where
  pub kind : All (IsIdOf asked.kind) ids
  pub told : All (λ id. has_id id asked.haves ≡ true) ids

-- `done` is answered by a pack, and what isn't `done` by acknowledgments.
abbrev pub MayBe : ReplyContext → Answer → Type 0
MayBe asked (acknowledges ids) = (asked.done ≡ false) × AreHaves asked ids
MayBe asked (packs change bands) = (asked.done ≡ true) × IfSome change (IsChangeOf asked.kind)
MayBe asked (readies ids change bands) = (asked.done ≡ false) × AreHaves asked ids × IfSome change (IsChangeOf asked.kind)

-- the reply that the next request awaits
abbrev pub asked_in : FetchArgumentsValue → Graph → Algorithm → RoundsStateValue → ReplyContext
asked_in t g algorithm c = let w = next_window g algorithm c in reply_to t (haves_told c.shared w.haves) (is_short c w)

-- the request of the next round
abbrev pub request_in : FetchArgumentsValue → Graph → Algorithm → RoundsStateValue → List Line
request_in t g algorithm c = let w = next_window g algorithm c in fetch_request (asked_by t) (haves_told c.shared w.haves) (is_short c w)

-- The next request fits, and this answers it.
pub record AnswersRound (bound : ℕ) (t : FetchArgumentsValue) (g : Graph) (algorithm : Algorithm) (c : RoundsStateValue)
    (a : Answer) : Type 0 where
  pub request : first_too_long (request_in t g algorithm c) ≡ None
  pub answer : MayBe (asked_in t g algorithm c) a
  pub written : AreWithin bound (lines_of a)

-- the state after a round with this answer
abbrev pub after : Graph → Algorithm → RoundsStateValue → Answer → RoundsStateValue
after g algorithm c a = rounds_state_after algorithm c (next_window g algorithm c) (reply_of a)

-- The first of these answers the next request, and each other one the request that comes then, up to the last.
abbrev pub AnswerRounds : ℕ → FetchArgumentsValue → Graph → Algorithm → RoundsStateValue → Answer → List Answer → Type 0
AnswerRounds bound t g algorithm c a [] = AnswersRound bound t g algorithm c a × (is_end c (next_window g algorithm c) (reply_of a) ≡ true)
AnswerRounds bound t g algorithm c a (b ∷ answers) =
    AnswersRound bound t g algorithm c a × (is_end c (next_window g algorithm c) (reply_of a) ≡ false)
    × AnswerRounds bound t g algorithm (after g algorithm c a) b answers

-- what the rounds end with, answered so
abbrev pub negotiated_by : Graph → Algorithm → RoundsStateValue → Answer → List Answer → Negotiated
negotiated_by g algorithm c a [] = record { rounds = rounds_with c (next_window g algorithm c) (reply_of a); reply = reply_of a }
negotiated_by g algorithm c a (b ∷ answers) = negotiated_by g algorithm (after g algorithm c a) b answers

-- what a server writes in these rounds
abbrev pub answers_text : Answer → List Answer → List ℕ
answers_text a [] = lines_text (lines_of a)
answers_text a (b ∷ answers) = lines_text (lines_of a) ++ answers_text b answers

-- ---- the pack

-- the rounds of these arguments, answered so
abbrev pub negotiated_in : FetchArgumentsValue → Graph → Answer → List Answer → Negotiated
negotiated_in t g a answers = let algorithm =
    algorithm_in t.settings in negotiated_by g algorithm (first_rounds_state algorithm t.view) a answers

-- Outside a dry run something is wanted, nothing is refused before it is asked for, these answer the requests, and what
-- the last of them brings is a pack of these contents, of a server whose border isn't refused.
pub record IsPacking (bound : ℕ) (t : FetchArgumentsValue) (g : Graph) (a : Answer) (answers : List Answer)
    (contents : Contents) : Type 0 where
  pub clear : IsClear t
  pub wanted : t.view.wants ≢ []
  pub kept : t.dry_run ≡ false
  pub answered : AnswerRounds bound t g (algorithm_in t.settings) (first_rounds_state (algorithm_in t.settings) t.view) a answers
  pub border : rejected t.settings t.view t.shallow (negotiated_in t g a answers).reply ≡ None
  pub pack : read t.listed.handshake.object_hash (unwrap_or (negotiated_in t g a answers).reply.pack []) ≡ Ok contents
