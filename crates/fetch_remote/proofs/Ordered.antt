-- The requests of a fetch come in order.
use Rattle.std.proofs.Common.{◌≡◌, ℕ, Bool, false, List, [], ◌∷◌, ◌++◌, Option, Some, None, Result, Ok, Err, refl, sym, ap, ◌∙◌}
use Rattle.std.specs.Prelude.{is_some}
use Rattle.std.specs.Option.{option_map, option_or}
use Rattle.std.proofs.lemmas.List.{append-nil}
use Rattle.fetch_store.specs.Graph.{graph_of}
use Rattle.fetch_base.specs.declared.id.ObjectId.{ObjectId}
use Rattle.fetch_negotiate.specs.Requests.{Asked, fetch_request}
use Rattle.fetch_negotiate.specs.declared.algorithm.Round.{Round}
use Rattle.fetch_replies.specs.Awaited.{told_at}
use Rattle.fetch_lines.specs.Written.{first_too_long}
use Rattle.fetch_replies.specs.declared.replies.reply.ReplyKind.{ReplyKind}
use Rattle.fetch_replies.specs.declared.replies.reply.ReplyKind.TheVariants as awaits
use Rattle.fetch_replies.specs.declared.replies.reply.ReplyError.{ReplyError}
use Rattle.fetch_replies.specs.declared.replies.reply.ParsedReply.{ParsedReply as Reply}
use Rattle.fetch_replies.specs.declared.replies.reply.ParsedReply.TheVariants as told
use Rattle.fetch_lines.specs.declared.greetings.handshake.Handshake.{Handshake}
use Rattle.fetch_lines.specs.declared.lines.line.Line.{Line}
use Rattle.fetch_conversation.specs.Conversation.{Conversation, ends, asks, asks_unless, after_reply, sent_in, answer_in, and_then, told_as, map_refusal}
use Rattle.fetch_conversation.specs.ConverseStage.{converse_stage, fetching, wanting}
use Rattle.fetch_conversation.specs.Exchange.{asked_by, exchange}
use Rattle.fetch_conversation.specs.ListStage.{ListedValue, is_nil, list_stage, ls_refs_stage, greeted, listing, listed, unless, unlisted, unsendable, no_specs}
use Rattle.fetch_conversation.specs.ListStage as list
use Rattle.fetch_conversation.specs.Requested.{requests_of}
use Rattle.fetch_conversation.specs.Rounds.{negotiating}
use Rattle.fetch_conversation.specs.declared.conversing.Received.{Received}
use Rattle.fetch_conversation.specs.declared.fetch.Error.{Error as ReceiveError}
use Rattle.fetch_conversation.specs.declared.prepare.Error.{Error as PrepareError}
use Rattle.fetch_conversation.proofs.Chained.{sent_then, sent_as, answer_as, sent_behind}
use Rattle.fetch_conversation.proofs.Told.{wanting_sends}
use Rattle.fetch_remote.specs.Errors.{preparing, receiving}
use Rattle.fetch_remote.specs.Fetching.{requests_in}
use Rattle.fetch_remote.specs.Form.{Given}
use Rattle.fetch_remote.specs.Repositories.{State}
use Rattle.fetch_remote.specs.Requested.{unless_refused, first_request, first_refusal, listing_request, listing_refusal, listing_to, listing_behind, listing_sent, first_fetch, fetch_refusal, FetchesWanted, FetchesUnless, FetchesBehind, AsksInOrder}
use Rattle.fetch_remote.specs.Stages.{Told, bound_of, inquiry_in, wants_in, terms_in, listing_stage, pack_stage, receiving_stage, conversation}
use Rattle.fetch_remote.specs.declared.fetching.fetch_error.FetchError.{FetchError}

-- ---- lines that a refusal leaves out

refused_or : {E : Type 0} (a b : Option E) (lines : List Line) → unless_refused a (unless_refused b lines) ≡ unless_refused (option_or a b) lines
refused_or None b lines = refl
refused_or (Some e) b lines = refl

sent_unless : {X E : Type 0} (bound : ℕ) (o : Option E) (c : Conversation X E) (stream : List ℕ) → sent_in bound (unless o c) stream ≡ unless_refused o (sent_in bound c stream)
unfolding sent_in
sent_unless bound None c stream = refl
sent_unless bound (Some e) c stream = refl

sent_long : {X E : Type 0} (bound : ℕ) (o : Option ℕ) (long : ℕ → E) (c : Conversation X E) (stream : List ℕ) → sent_in bound (asks_unless o long c) stream ≡ unless_refused (option_map long o) (sent_in bound c stream)
unfolding sent_in
sent_long bound None long c stream = refl
sent_long bound (Some n) long c stream = refl

-- ---- the listing

-- what is sent of a conversation that ends after its question
sent_once : {X E : Type 0} (bound : ℕ) (next : Reply → Conversation X E) (found : Result (Reply × List ℕ) ReplyError) → ((t : Reply) (rest : List ℕ) → sent_in bound (next t) rest ≡ []) → (lines : List Line)
    → lines ++ after_reply (λ _. []) (λ t rest. sent_in bound (next t) rest) found ≡ lines
sent_once bound next (Ok x) none lines = rw (none x.0 x.1) (append-nil lines)
sent_once bound next (Err fault) none lines = append-nil lines

sent_asking : {X E : Type 0} (bound : ℕ) (lines : List Line) (awaited : ReplyKind) (failed : ReplyError → E) (next : Reply → Conversation X E) (stream : List ℕ) → ((t : Reply) (rest : List ℕ) → sent_in bound (next t) rest ≡ [])
    → sent_in bound (asks lines awaited failed next) stream ≡ lines
unfolding sent_in
sent_asking bound lines awaited failed next stream none = sent_once bound next (told_at bound awaited stream) none lines

listed_none : (bound : ℕ) (q : list.LsRefsValue) (h : Handshake) (t : Reply) (rest : List ℕ) → sent_in bound (listed q h t) rest ≡ []
unfolding sent_in
listed_none bound q h (told.Listing refs) rest = refl
listed_none bound q h (told.Greeting other) rest = refl
listed_none bound q h (told.Advertisement other refs) rest = refl
listed_none bound q h (told.Reply reply) rest = refl

listing_asks : (g : Given) (h : Handshake) (stream : List ℕ) → sent_in (bound_of g) (listing (bound_of g) (inquiry_in g) h) stream ≡ unless_refused (listing_refusal g h) (listing_request g h)
unfolding listing
listing_asks g h stream =
    let long = first_too_long (listing_request g h) in
    let c : Conversation ListedValue PrepareError = asks (listing_request g h) (awaits.Listing h.object_hash) (list.failed (bound_of g)) (λ t. listed (inquiry_in g) h t) in
    sent_long (bound_of g) long list.too_long (unless (unlisted h) c) stream
    ∙ ap (unless_refused (option_map list.too_long long)) (sent_unless (bound_of g) (unlisted h) c stream
    ∙ ap (unless_refused (unlisted h)) (sent_asking (bound_of g) (listing_request g h) (awaits.Listing h.object_hash) (list.failed (bound_of g)) (λ t. listed (inquiry_in g) h t) stream (listed_none (bound_of g) (inquiry_in g) h)))
    ∙ refused_or (option_map list.too_long long) (unlisted h) (listing_request g h)

greeted_asks : (g : Given) (t : Reply) (rest : List ℕ) → sent_in (bound_of g) (greeted (bound_of g) (inquiry_in g) t) rest ≡ listing_to g t
unfolding sent_in
greeted_asks g (told.Greeting h) rest = listing_asks g h rest
greeted_asks g (told.Advertisement h refs) rest = refl
greeted_asks g (told.Listing refs) rest = refl
greeted_asks g (told.Reply reply) rest = refl

behind_greeting : (g : Given) (found : Result (Reply × List ℕ) ReplyError) → after_reply (λ _. []) (λ t rest. sent_in (bound_of g) (greeted (bound_of g) (inquiry_in g) t) rest) found ≡ listing_behind g found
behind_greeting g (Ok x) = greeted_asks g x.0 x.1
behind_greeting g (Err fault) = refl

abbrev greeting_asked : Given → Conversation ListedValue PrepareError
greeting_asked g = asks (first_request g) awaits.Greeting (list.failed (bound_of g)) (λ t. greeted (bound_of g) (inquiry_in g) t)

greeting_asks : (g : Given) (stream : List ℕ) → sent_in (bound_of g) (greeting_asked g) stream ≡ first_request g ++ listing_sent g stream
unfolding sent_in
greeting_asks g stream = ap (λ (l : List Line). first_request g ++ l) (behind_greeting g (told_at (bound_of g) awaits.Greeting stream))

lists : (g : Given) (stream : List ℕ) → sent_in (bound_of g) (listing_stage g) stream ≡ unless_refused (first_refusal g) (first_request g ++ listing_sent g stream)
unfolding list_stage ls_refs_stage
lists g stream =
    let q = inquiry_in g in
    let long = first_too_long (first_request g) in
    let c : Conversation ListedValue PrepareError = greeting_asked g in
    let l : Conversation ListedValue PrepareError = asks_unless long list.too_long c in
    let lines = first_request g ++ listing_sent g stream in
    sent_unless (bound_of g) (no_specs q) (unless (unsendable q) l) stream
    ∙ ap (unless_refused (no_specs q)) (sent_unless (bound_of g) (unsendable q) l stream
    ∙ ap (unless_refused (unsendable q)) (sent_long (bound_of g) long list.too_long c stream ∙ ap (unless_refused (option_map list.too_long long)) (greeting_asks g stream))
    ∙ refused_or (unsendable q) (option_map list.too_long long) lines)
    ∙ refused_or (no_specs q) (option_or (unsendable q) (option_map list.too_long long)) lines

-- ---- the fetch requests

-- a fetch request has a line
request_some : (a : Asked) (haves : List ObjectId) (done : Bool) → is_nil (fetch_request a haves done) ≡ false
unfolding fetch_request
request_some a haves done = refl

some_append : (lines more : List Line) → is_nil lines ≡ false → is_nil (lines ++ more) ≡ false
some_append [] more is = absurd (cc)
some_append (line ∷ lines) more is = refl

requests_some : (a : Asked) (shared : List ObjectId) (rounds : List Round) → is_nil (requests_of a shared rounds) ≡ is_nil rounds
requests_some a shared [] = refl
requests_some a shared (r ∷ rounds) = some_append (fetch_request a _ r.done) _ (request_some a _ r.done)

-- what is sent by a conversation that begins with a question, unless that is too long
sent_begins : {X Y Z E : Type 0} (bound : ℕ) (o : Option ℕ) (long : ℕ → E) (lines : List Line) (awaited : ReplyKind) (failed : ReplyError → E) (next : Reply → Conversation X E) (f : X → Conversation Y E) (k : Y → Conversation Z E) (stream : List ℕ) → is_nil lines ≡ false
    → is_nil (sent_in bound (and_then (and_then (asks_unless o long (asks lines awaited failed next)) f) k) stream) ≡ is_some o
unfolding sent_in and_then
sent_begins bound None long lines awaited failed next f k stream some = some_append lines _ some
sent_begins bound (Some n) long lines awaited failed next f k stream some = refl

fetching_begins : (g : Given) (s : State) (l : ListedValue) (stream : List ℕ) → is_nil (sent_in (bound_of g) (fetching (bound_of g) (graph_of s.objects) (terms_in g s l)) stream) ≡ is_some (first_too_long (first_fetch g s l))
unfolding fetching negotiating exchange
fetching_begins g s l stream = sent_begins (bound_of g) (first_too_long (first_fetch g s l)) _ (first_fetch g s l) _ _ _ _ _ stream (request_some (asked_by (terms_in g s l)) _ _)

wanting_asks : (g : Given) (s : State) (l : ListedValue) (stream : List ℕ) (wants : List ObjectId) → FetchesWanted g s l wants (sent_in (bound_of g) (wanting (bound_of g) (graph_of s.objects) (terms_in g s l) wants) stream)
unfolding sent_in
wanting_asks g s l stream [] = refl
wanting_asks g s l stream (id ∷ ids) =
    let sends = wanting_sends (bound_of g) (graph_of s.objects) (terms_in g s l) stream (id ∷ ids) in
    record {
      rounds = sends.rounds;
      tells = sends.tells;
      some = sym (ap is_nil sends.tells.lines ∙ requests_some (asked_by (terms_in g s l)) [] sends.rounds) ∙ fetching_begins g s l stream;
    }

fetches_unless : (o : Option ReceiveError) (g : Given) (s : State) (l : ListedValue) (c : Conversation (Option Received) ReceiveError) (stream : List ℕ) → FetchesWanted g s l (wants_in g s l.ref_map) (sent_in (bound_of g) c stream)
    → FetchesUnless o g s l (sent_in (bound_of g) (unless o c) stream)
unfolding sent_in
fetches_unless None g s l c stream h = h
fetches_unless (Some e) g s l c stream h = refl

pack_asks : (g : Given) (s : State) (l : ListedValue) (stream : List ℕ) → FetchesUnless (fetch_refusal g s l) g s l (sent_in (bound_of g) (pack_stage g s l) stream)
unfolding converse_stage
pack_asks g s l stream = fetches_unless (fetch_refusal g s l) g s l _ stream (wanting_asks g s l stream (wants_in g s l.ref_map))

end_none : {X Y E : Type 0} (bound : ℕ) (f : X → Y) (found : Result (X × List ℕ) E) → sent_behind {E = E} bound (λ r. ends (Ok (f r))) found ≡ []
unfolding sent_in
end_none bound f (Ok x) = refl
end_none bound f (Err e) = refl

receiving_asks : (g : Given) (s : State) (l : ListedValue) (stream : List ℕ) → FetchesUnless (fetch_refusal g s l) g s l (sent_in (bound_of g) (receiving_stage g s l) stream)
unfolding receiving_stage
receiving_asks g s l stream =
    let c = told_as receiving (pack_stage g s l) in
    let told_of : Option Received → Told = λ r. record { listed = l; received = r } in
    let is : sent_in (bound_of g) (and_then c (λ r. ends (Ok (told_of r)))) stream ≡ sent_in (bound_of g) (pack_stage g s l) stream =
    sent_then (bound_of g) c (λ r. ends (Ok (told_of r))) stream ∙ ap (λ (x : List Line). sent_in (bound_of g) c stream ++ x) (end_none (bound_of g) told_of (answer_in (bound_of g) c stream)) ∙ append-nil _ ∙ sent_as (bound_of g) receiving (pack_stage g s l) stream in
    rw is (pack_asks g s l stream)

-- ---- both

behind_asks : (g : Given) (s : State) (found : Result (ListedValue × List ℕ) PrepareError) → FetchesBehind g s found (sent_behind (bound_of g) (receiving_stage g s) (map_refusal preparing found))
behind_asks g s (Ok x) = receiving_asks g s x.0 x.1
behind_asks g s (Err e) = refl

conversation_asks : (g : Given) (s : State) (stream : List ℕ) → AsksInOrder g s stream (sent_in (bound_of g) (conversation g s) stream)
unfolding conversation
conversation_asks g s stream =
    let c = told_as preparing (listing_stage g) in
    let found : Result (ListedValue × List ℕ) PrepareError = answer_in (bound_of g) (listing_stage g) stream in
    let told_found : answer_in (bound_of g) c stream ≡ map_refusal preparing found = answer_as (bound_of g) preparing (listing_stage g) stream in
    record {
      fetch = sent_behind (bound_of g) (receiving_stage g s) (map_refusal preparing found);
      are = sent_then (bound_of g) c (receiving_stage g s) stream
          ∙ ap (λ (a : Result (ListedValue × List ℕ) FetchError). sent_in (bound_of g) c stream ++ sent_behind (bound_of g) (receiving_stage g s) a) told_found
          ∙ ap (λ (l : List Line). l ++ sent_behind (bound_of g) (receiving_stage g s) (map_refusal preparing found)) (sent_as (bound_of g) preparing (listing_stage g) stream ∙ lists g stream);
      are_fetch = behind_asks g s found;
    }

pub asks_in_order : (g : Given) (s : State) (stream : List ℕ) → AsksInOrder g s stream (requests_in g s stream)
unfolding requests_in
asks_in_order g s stream = conversation_asks g s stream
