-- What is sent in a fetch, in the words of the protocol: which lines, and exactly where each of them.
use Rattle.std.specs.Prelude.{◌≡◌, ℕ, List, [], ◌∷◌, ◌++◌, length, nat_lt, Option, Some, None, is_some, Result, Ok, Err}
use Rattle.std.specs.Option.{option_map, option_or}
use Rattle.fetch_base.specs.declared.id.ObjectId.{ObjectId}
use Rattle.fetch_store.specs.Graph.{graph_of}
use Rattle.fetch_negotiate.specs.Any.{begun}
use Rattle.fetch_negotiate.specs.Requests.{fetch_request}
use Rattle.fetch_negotiate.specs.Windows.{Window, window_of, first_size}
use Rattle.fetch_negotiate.specs.declared.algorithm.Round.{Round}
use Rattle.fetch_replies.specs.Awaited.{told_at}
use Rattle.fetch_lines.specs.Requests.{first_line, listing_lines}
use Rattle.fetch_lines.specs.Written.{first_too_long}
use Rattle.fetch_replies.specs.declared.replies.reply.ReplyKind.TheVariants as awaits
use Rattle.fetch_replies.specs.declared.replies.reply.ReplyError.{ReplyError}
use Rattle.fetch_replies.specs.declared.replies.reply.ParsedReply.{ParsedReply}
use Rattle.fetch_replies.specs.declared.replies.reply.ParsedReply.TheVariants as told
use Rattle.fetch_lines.specs.declared.greetings.handshake.Handshake.{Handshake}
use Rattle.fetch_lines.specs.declared.lines.line.Line.{Line}
use Rattle.fetch_conversation.specs.Conversation.{answer_in}
use Rattle.fetch_conversation.specs.ConverseStage.{algorithm_in, no_mapping, other_hash, unfit, lacking}
use Rattle.fetch_conversation.specs.Exchange.{asked_by}
use Rattle.fetch_conversation.specs.ListStage.{ListedValue, is_nil, no_specs, prefixes_asked, too_long, unlisted, unsendable}
use Rattle.fetch_conversation.specs.ReadSettings.{agent_of}
use Rattle.fetch_conversation.specs.Requested.{TellsRounds}
use Rattle.fetch_conversation.specs.declared.fetch.Error.{Error as ReceiveError}
use Rattle.fetch_conversation.specs.declared.prepare.Error.{Error as PrepareError}
use Rattle.fetch_remote.specs.Form.{Given}
use Rattle.fetch_remote.specs.Remotes.{address_of}
use Rattle.fetch_remote.specs.Repositories.{State}
use Rattle.fetch_remote.specs.Stages.{bound_of, inquiry_in, wants_in, terms_in, listing_stage}

-- lines that are sent, unless there is a refusal
abbrev pub unless_refused : {E : Type 0} → Option E → List Line → List Line
unless_refused None lines = lines
unless_refused (Some e) lines = []

-- ---- the first line

-- the first line, alone
abbrev pub first_request : Given → List Line
first_request g = first_line (address_of g.remote) g.options.map.handshake_parameters ∷ []

-- No refspec is named, or a text can't be sent, or the line is too long.
abbrev pub first_refusal : Given → Option PrepareError
first_refusal g = option_or (no_specs (inquiry_in g))
    (option_or (unsendable (inquiry_in g)) (option_map too_long (first_too_long (first_request g))))

-- ---- the listing request

-- the listing request to a server that said this
abbrev pub listing_request : Given → Handshake → List Line
listing_request g greeting = listing_lines greeting (agent_of g.setup.settings.config) (prefixes_asked (inquiry_in g))

-- A line is too long, or the server doesn't list.
abbrev pub listing_refusal : Given → Handshake → Option PrepareError
listing_refusal g greeting = option_or (option_map too_long (first_too_long (listing_request g greeting))) (unlisted greeting)

-- A greeting of version 2 is answered by the listing request; a server of version 1 has listed already.
abbrev pub listing_to : Given → ParsedReply → List Line
listing_to g (told.Greeting greeting) = unless_refused (listing_refusal g greeting) (listing_request g greeting)
listing_to g (told.Advertisement greeting refs) = []
listing_to g (told.Listing refs) = []
listing_to g (told.Reply reply) = []

-- what is sent after the greeting; nothing where it wasn't read
abbrev pub listing_behind : Given → Result (ParsedReply × List ℕ) ReplyError → List Line
listing_behind g (Ok x) = listing_to g x.0
listing_behind g (Err fault) = []

-- what is sent after the first line, to a server that says this
abbrev pub listing_sent : Given → List ℕ → List Line
listing_sent g stream = listing_behind g (told_at (bound_of g) awaits.Greeting stream)

-- ---- the fetch requests

-- the first window that is told of what is there
abbrev pub first_window : Given → State → ListedValue → Window
first_window g s l =
    let t = terms_in g s l in
    window_of (graph_of s.objects) (algorithm_in t.settings) first_size (begun (algorithm_in t.settings) t.view.tips t.view.border)

-- the first fetch request for what was listed
abbrev pub first_fetch : Given → State → ListedValue → List Line
first_fetch g s l = fetch_request (asked_by (terms_in g s l)) (first_window g s l).haves
    (nat_lt (length (first_window g s l).haves) first_size)

-- Nothing is mapped, the hashes differ, a setting can't be read, or the server lacks something.
abbrev pub fetch_refusal : Given → State → ListedValue → Option ReceiveError
fetch_refusal g s l =
    let t = terms_in g s l in
    option_or (no_mapping t) (option_or (other_hash t) (option_or (unfit t.settings) (lacking t)))

-- The fetch requests for what was listed, one a round, which tell what is there. There are some exactly where the lines of
-- the first one aren't too long.
pub record AreFetchRequests (g : Given) (s : State) (l : ListedValue) (lines : List Line) : Type 0 where
  pub rounds : List Round
  pub tells : TellsRounds (graph_of s.objects) (terms_in g s l) lines rounds
  pub some : is_nil rounds ≡ is_some (first_too_long (first_fetch g s l))

-- nothing is asked for where nothing is wanted
abbrev pub FetchesWanted : Given → State → ListedValue → List ObjectId → List Line → Type 0
FetchesWanted g s l [] lines = lines ≡ []
FetchesWanted g s l (id ∷ ids) lines = AreFetchRequests g s l lines

-- What is sent after the listing, unless the fetch is refused.
abbrev pub FetchesUnless : Option ReceiveError → Given → State → ListedValue → List Line → Type 0
FetchesUnless None g s l lines = FetchesWanted g s l (wants_in g s l.ref_map) lines
FetchesUnless (Some e) g s l lines = lines ≡ []

-- what is sent once this was listed, or once the listing was refused
abbrev pub FetchesBehind : Given → State → Result (ListedValue × List ℕ) PrepareError → List Line → Type 0
FetchesBehind g s (Ok x) lines = FetchesUnless (fetch_refusal g s x.0) g s x.0 lines
FetchesBehind g s (Err e) lines = lines ≡ []

-- ---- all of it

-- To a peer that says this: the first line and the listing request, each exactly where nothing refuses it, then the fetch
-- requests for what is wanted of what was listed, and nothing else.
pub record AsksInOrder (g : Given) (s : State) (stream : List ℕ) (lines : List Line) : Type 0 where
  pub fetch : List Line
  pub are : lines ≡ unless_refused (first_refusal g) (first_request g ++ listing_sent g stream) ++ fetch
  pub are_fetch : FetchesBehind g s (answer_in (bound_of g) (listing_stage g) stream) fetch
