-- The requests of a fetch are lines that fit, and are read back as they were written.
use Rattle.std.proofs.Common.{◌≡◌, ℕ, zero, suc, Bool, true, false, if◌then◌else◌, List, [], ◌∷◌, ◌++◌, Option, Some, None, Result, Ok, Err, map, refl, ap, ◌∙◌}
use Rattle.std.specs.Prelude.{⊤}
use Rattle.std.specs.FinMap as finmap
use Rattle.std.specs.List.{list_all}
use Rattle.std.specs.Option.{option_or}
use Rattle.fetch_store.specs.Graph.{Graph, graph_of}
use Rattle.fetch_base.specs.declared.id.ObjectId.{ObjectId}
use Rattle.fetch_negotiate.specs.declared.algorithm.Algorithm.{Algorithm}
use Rattle.fetch_replies.specs.Awaited.{told_at}
use Rattle.fetch_replies.specs.declared.replies.reply.ReplyKind.{ReplyKind}
use Rattle.fetch_replies.specs.declared.replies.reply.ReplyKind.TheVariants as awaits
use Rattle.fetch_replies.specs.declared.replies.reply.ReplyError.{ReplyError}
use Rattle.fetch_replies.specs.declared.replies.reply.ParsedReply.{ParsedReply}
use Rattle.fetch_replies.specs.declared.replies.reply.ParsedReply.TheVariants as told
use Rattle.fetch_lines.specs.declared.greetings.handshake.Handshake.{Handshake}
use Rattle.fetch_lines.specs.declared.lines.line.Line.{Line}
use Rattle.fetch_lines.specs.declared.lines.line.Line.TheVariants.{Payload, Flush, Delim, End}
use Rattle.fetch_lines.specs.RequestLines.{id_lines}
use Rattle.fetch_lines.specs.RequestWords.{have_word, done_word}
use Rattle.fetch_lines.specs.Requests.{first_line, listing_lines, listing_word, head_texts, detail_texts, prefix_text, sent, when, text_line}
use Rattle.fetch_lines.specs.Written.{too_long_in, first_too_long}
use Rattle.fetch_negotiate.specs.Requests.{Asked, fetch_request, head_of, asked_of, pack_word}
use Rattle.fetch_conversation.specs.Conversation.{Conversation, ends, asks, asking, asks_unless, sent_in, after_reply, told_as, and_then}
use Rattle.fetch_conversation.specs.ConverseStage.{converse_stage, wanting, fetching, algorithm_in}
use Rattle.fetch_conversation.specs.Exchange.{FetchArgumentsValue, asked_by, reply_to, replied, exchange}
use Rattle.fetch_conversation.specs.Exchange as exchanging
use Rattle.fetch_conversation.specs.Rounds.{RoundsStateValue, first_rounds_state, next_window, rounds_state_after, negotiating}
use Rattle.fetch_conversation.specs.ListStage.{LsRefsValue, ListedValue, list_stage, ls_refs_stage, greeted, listing, listed, unless, unlisted, unsendable, no_specs, prefixes_asked}
use Rattle.fetch_conversation.specs.ListStage as list
use Rattle.fetch_remote.specs.Errors.{preparing, receiving}
use Rattle.fetch_remote.specs.Fetching.{requests_in}
use Rattle.fetch_remote.specs.Form.{Given}
use Rattle.fetch_remote.specs.Repositories.{State}
use Rattle.fetch_remote.specs.Stages.{bound_of, inquiry_in, terms_in, receiving_stage, conversation}
use Rattle.fetch_cli.specs.Heard.{lines_heard, is_sent, AreSent}
use Rattle.fetch_cli.specs.Report.{given_of, found_of, stream_of, requests_of}
use Rattle.fetch_scene.specs.declared.scene.Scene.{Scene}
use Rattle.fetch_cli.proofs.Sent.{heard_as_sent, neither}

-- ---- lists of lines

abbrev AllSent : List Line → Type 0
AllSent lines = list_all is_sent lines ≡ true

append_sent : (a b : List Line) → AllSent a → AllSent b → AllSent (a ++ b)
append_sent [] b x y = y
append_sent (Payload payload ∷ a) b x y = append_sent a b x y
append_sent (Flush ∷ a) b x y = append_sent a b x y
append_sent (Delim ∷ a) b x y = append_sent a b x y
append_sent (End ∷ a) b x y = cc

append_fits : (a b : List Line) → first_too_long a ≡ None → first_too_long b ≡ None → first_too_long (a ++ b) ≡ None
append_fits [] b x y = y
append_fits (line ∷ a) b x y =
    let f = neither (too_long_in line) (first_too_long a) x in
    ap (λ (o : Option ℕ). option_or o (first_too_long (a ++ b))) f.0 ∙ append_fits a b f.1 y

append_are : (a b : List Line) → AreSent a → AreSent b → AreSent (a ++ b)
append_are a b x y = record { sent = append_sent a b x.sent y.sent; fit = append_fits a b x.fit y.fit }

none_are : AreSent []
none_are = record { sent = refl; fit = refl }

mapped_sent : {A : Type 0} (f : A → Line) (xs : List A) → ((x : A) → is_sent (f x) ≡ true) → AllSent (map f xs)
mapped_sent f [] h = refl
mapped_sent f (x ∷ xs) h = rw (h x) (mapped_sent f xs h)

-- ---- the lines of each request

first_sent : (address : List ℕ) (parameters : List (List ℕ × Option (List ℕ))) → AllSent (first_line address parameters ∷ [])
unfolding first_line
first_sent address parameters = refl

texts_sent : (texts : List (List ℕ)) → AllSent (sent texts)
texts_sent texts = mapped_sent text_line texts (λ line. refl)

framed_sent : (head body : List (List ℕ)) → AllSent (sent head ++ Delim ∷ [] ++ sent body ++ Flush ∷ [])
framed_sent head body =
    let a = append_sent (sent head) (Delim ∷ []) (texts_sent head) refl in
    let b = append_sent (sent head ++ Delim ∷ []) (sent body) a (texts_sent body) in
    append_sent (sent head ++ Delim ∷ [] ++ sent body) (Flush ∷ []) b refl

listing_sent : (h : Handshake) (agent : List ℕ) (prefixes : List (List ℕ)) → AllSent (listing_lines h agent prefixes)
listing_sent h agent prefixes = framed_sent (listing_word ∷ head_texts h agent) (detail_texts h ++ map prefix_text prefixes)

fetch_sent : (a : Asked) (haves : List ObjectId) (done : Bool) → AllSent (fetch_request a haves done)
unfolding fetch_request
fetch_sent a haves done =
    framed_sent (head_of a.handshake a.agent) (asked_of (pack_word a.handshake) a.tags a.shallow a.border a.wants ++ id_lines have_word haves ++ when done done_word)

-- ---- conversations

-- each question is lines that fit
IsFit : {X E : Type 0} → Conversation X E → Type 0
IsFit (ends answer) = ⊤
IsFit (asks lines awaited failed next) = AreSent lines × ((t : ParsedReply) → IsFit (next t))

fit_ends : {X E : Type 0} (answer : Result X E) → IsFit (ends answer)
unfolding IsFit
fit_ends answer = tt

fit_behind : {X E : Type 0} (bound : ℕ) (next : ParsedReply → Conversation X E) (found : Result (ParsedReply × List ℕ) ReplyError)
    → ((t : ParsedReply) (rest : List ℕ) → AreSent (sent_in bound (next t) rest)) → AreSent (after_reply (λ _. []) (λ t rest. sent_in bound (next t) rest) found)
fit_behind bound next (Err fault) h = none_are
fit_behind bound next (Ok x) h = h x.0 x.1

fit_sent : {X E : Type 0} (bound : ℕ) (c : Conversation X E) (stream : List ℕ) → IsFit c → AreSent (sent_in bound c stream)
unfolding sent_in IsFit
fit_sent bound (ends answer) stream h = none_are
fit_sent bound (asks lines awaited failed next) stream h =
    append_are lines _ h.0 (fit_behind bound next (told_at bound awaited stream) (λ t rest. fit_sent bound (next t) rest (h.1 t)))

fit_told : {X E F : Type 0} (g : E → F) (c : Conversation X E) → IsFit c → IsFit (told_as g c)
unfolding told_as IsFit
fit_told g (ends answer) h = tt
fit_told g (asks lines awaited failed next) h = (h.0, λ t. fit_told g (next t) (h.1 t))

fit_then : {X Y E : Type 0} (c : Conversation X E) (f : X → Conversation Y E) → IsFit c → ((x : X) → IsFit (f x)) → IsFit (and_then c f)
unfolding and_then IsFit
fit_then (ends (Ok x)) f h k = k x
fit_then (ends (Err e)) f h k = tt
fit_then (asks lines awaited failed next) f h k = (h.0, λ t. fit_then (next t) f (h.1 t) k)

fit_unless : {X E : Type 0} (o : Option E) (c : Conversation X E) → IsFit c → IsFit (unless o c)
fit_unless None c h = h
fit_unless (Some e) c h = fit_ends _

-- a question whose lines fit
fit_long : {X E : Type 0} (o : Option ℕ) (long : ℕ → E) (c : Conversation X E) → (o ≡ None → IsFit c) → IsFit (asks_unless o long c)
fit_long None long c h = h refl
fit_long (Some n) long c h = fit_ends _

fit_asks : {X E : Type 0} (lines : List Line) (awaited : ReplyKind) (failed : ReplyError → E) (next : ParsedReply → Conversation X E) → AllSent lines → first_too_long lines ≡ None → ((t : ParsedReply) → IsFit (next t)) → IsFit (asks lines awaited failed next)
unfolding IsFit
fit_asks lines awaited failed next sent fit k = (record { sent = sent; fit = fit }, k)

fit_asking : {X E : Type 0} (long : ℕ → E) (lines : List Line) (awaited : ReplyKind) (failed : ReplyError → E) (next : ParsedReply → Conversation X E) → AllSent lines → ((t : ParsedReply) → IsFit (next t)) → IsFit (asking long lines awaited failed next)
fit_asking long lines awaited failed next sent k = fit_long (first_too_long lines) long _ (λ fit. fit_asks lines awaited failed next sent fit k)

-- ---- the two stages

fit_listed : (q : LsRefsValue) (h : Handshake) (t : ParsedReply) → IsFit (listed q h t)
fit_listed q h (told.Listing refs) = fit_ends _
fit_listed q h (told.Greeting other) = fit_ends _
fit_listed q h (told.Advertisement other refs) = fit_ends _
fit_listed q h (told.Reply reply) = fit_ends _

fit_listing : (bound : ℕ) (q : LsRefsValue) (h : Handshake) → IsFit (listing bound q h)
unfolding listing
fit_listing bound q h =
    fit_long (first_too_long (listing_lines h q.agent (prefixes_asked q))) list.too_long _ (λ fit. fit_unless (unlisted h) _
    (fit_asks (listing_lines h q.agent (prefixes_asked q)) (awaits.Listing h.object_hash) (list.failed bound) (λ t. listed q h t) (listing_sent h q.agent (prefixes_asked q)) fit (λ t. fit_listed q h t)))

fit_greeted : (bound : ℕ) (q : LsRefsValue) (t : ParsedReply) → IsFit (greeted bound q t)
fit_greeted bound q (told.Greeting h) = fit_listing bound q h
fit_greeted bound q (told.Advertisement h refs) = fit_ends _
fit_greeted bound q (told.Listing refs) = fit_ends _
fit_greeted bound q (told.Reply reply) = fit_ends _

fit_list : (bound : ℕ) (q : LsRefsValue) → IsFit (list_stage bound q)
unfolding list_stage ls_refs_stage
fit_list bound q =
    fit_unless (no_specs q) _ (fit_unless (unsendable q) _
    (fit_asking list.too_long (first_line q.address q.options.handshake_parameters ∷ []) awaits.Greeting (list.failed bound) (λ t. greeted bound q t)
    (first_sent q.address q.options.handshake_parameters) (λ t. fit_greeted bound q t)))

fit_replied : (x : ParsedReply) → IsFit (replied x)
fit_replied (told.Reply reply) = fit_ends _
fit_replied (told.Greeting h) = fit_ends _
fit_replied (told.Advertisement h refs) = fit_ends _
fit_replied (told.Listing refs) = fit_ends _

fit_exchange : (bound : ℕ) (t : FetchArgumentsValue) (haves : List ObjectId) (done : Bool) → IsFit (exchange bound t haves done)
unfolding exchange
fit_exchange bound t haves done =
    fit_asking exchanging.too_long (fetch_request (asked_by t) haves done) (awaits.Reply (reply_to t haves done)) (exchanging.failed bound) (λ x. replied x) (fetch_sent (asked_by t) haves done) (λ x. fit_replied x)

fit_either : {X E : Type 0} (b : Bool) (c d : Conversation X E) → IsFit c → IsFit d → IsFit (if b then c else d)
fit_either true c d h k = h
fit_either false c d h k = k

fit_negotiating : (more bound : ℕ) (t : FetchArgumentsValue) (g : Graph) (algorithm : Algorithm) (c : RoundsStateValue) → IsFit (negotiating more bound t g algorithm c)
unfolding negotiating
fit_negotiating zero bound t g algorithm c = fit_ends _
fit_negotiating (suc more) bound t g algorithm c =
    fit_then _ _ (fit_exchange bound t _ _) (λ reply. fit_either _ _ _ (fit_ends _) (fit_negotiating more bound t g algorithm (rounds_state_after algorithm c (next_window g algorithm c) reply)))

fit_wanting : (bound : ℕ) (g : Graph) (t : FetchArgumentsValue) (wants : List ObjectId) → IsFit (wanting bound g t wants)
unfolding fetching
fit_wanting bound g t [] = fit_ends _
fit_wanting bound g t (id ∷ ids) = fit_then _ _ (fit_negotiating (suc (finmap.len g)) bound t g (algorithm_in t.settings) (first_rounds_state (algorithm_in t.settings) t.view)) (λ n. fit_ends _)

fit_converse : (bound : ℕ) (g : Graph) (t : FetchArgumentsValue) → IsFit (converse_stage bound g t)
unfolding converse_stage
fit_converse bound g t = fit_unless _ _ (fit_wanting bound g t t.view.wants)

fit_receiving : (g : Given) (s : State) (l : ListedValue) → IsFit (receiving_stage g s l)
unfolding receiving_stage
fit_receiving g s l = fit_then _ _ (fit_told receiving _ (fit_converse (bound_of g) (graph_of s.objects) (terms_in g s l))) (λ r. fit_ends _)

fit_conversation : (g : Given) (s : State) → IsFit (conversation g s)
unfolding conversation
fit_conversation g s = fit_then _ _ (fit_told preparing _ (fit_list (bound_of g) (inquiry_in g))) (fit_receiving g s)

-- ---- the requests

requests_are : (g : Given) (s : State) (stream : List ℕ) → AreSent (requests_in g s stream)
unfolding requests_in
requests_are g s stream = fit_sent (bound_of g) (conversation g s) stream (fit_conversation g s)

pub requests_heard : (s : Scene) → lines_heard (requests_of s) ≡ requests_in (given_of s) (found_of s) (stream_of s)
requests_heard s = heard_as_sent (requests_in (given_of s) (found_of s) (stream_of s)) (requests_are (given_of s) (found_of s) (stream_of s))
