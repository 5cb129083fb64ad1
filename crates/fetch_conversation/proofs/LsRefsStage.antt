-- A session that was opened is that of an query.
use Rattle.std.proofs.Common.{◌≡◌, ℕ, Bool, true, false, List, [], ◌∷◌, ◌++◌, Option, Some, None, Result, Ok, Err, refl, sym, ap, ◌∙◌, subst}
use Rattle.std.specs.Prelude.{if◌then◌else◌}
use Rattle.std.proofs.lemmas.List.{append-nil}
use Rattle.std.proofs.lemmas.List.Concat.{flat_map-append}
use Rattle.fetch_replies.specs.declared.replies.reply.ReplyKind.TheVariants as awaits
use Rattle.fetch_replies.specs.declared.replies.reply.ReplyError.{ReplyError}
use Rattle.fetch_replies.specs.declared.replies.reply.ReplyError.TheVariants as faults
use Rattle.fetch_replies.specs.declared.replies.reply.ParsedReply.{ParsedReply}
use Rattle.fetch_replies.specs.declared.replies.reply.ParsedReply.TheVariants as told
use Rattle.fetch_lines.specs.declared.error.WireError.TheVariants as wire
use Rattle.fetch_lines.specs.declared.greetings.handshake.Handshake.{Handshake}
use Rattle.fetch_lines.specs.declared.lines.line.Line.{Line}
use Rattle.fetch_replies.specs.declared.replies.parser.ReplyParser.TheVariants as reading
use Rattle.fetch_lines.specs.declared.requests.records.FetchReply.{FetchReply}
use Rattle.fetch_lines.specs.declared.listings.reference.Ref.{Ref}
use Rattle.fetch_replies.specs.Awaited.{told_at, told_from}
use Rattle.fetch_lines.specs.Greetings.{offers}
use Rattle.fetch_replies.specs.Intakes.{resting, told_with}
use Rattle.fetch_lines.specs.Requests.{listing_lines}
use Rattle.fetch_wire.specs.SessionStates.{SessionState, fed, opened, after_told, read_one, rests, asks, listing_by, listing_feature}
use Rattle.fetch_lines.specs.Written.{line_text, lines_text, first_too_long}
use Rattle.fetch_conversation.specs.Conversation.{Conversation, ends, sent_in, answer_in, ends_in, awaits_more, after_reply, asks_unless}
use Rattle.fetch_conversation.specs.Conversation as tree
use Rattle.fetch_conversation.specs.Drives.{IsWaiting}
use Rattle.fetch_conversation.specs.ListStage.{LsRefsValue, ListedValue, prefixes_asked, handshaking, too_long, failed, unless, listed, listing, greeted}
use Rattle.fetch_conversation.specs.Listing.{found_in}
use Rattle.fetch_conversation.specs.declared.prepare.Error.{Error}
use Rattle.fetch_conversation.proofs.AwaitedTold.{TellsRefs, listing_tells}
use Rattle.fetch_conversation.proofs.Tied.{answer_of, answer_by, rests_by, fails_by, IsTied}

abbrev pub finding : LsRefsValue → Option Handshake → Option (List Ref) → Option FetchReply → Result ListedValue Error
finding q h refs reply = found_in q h refs

-- A session sends this, and is answered so.
record Shows (q : LsRefsValue) (bound : ℕ) (s : SessionState) (lines : List Line) (answer : Result (ListedValue × List ℕ) Error) (more : Bool) : Type 0 where
  sent : lines_text lines ≡ s.outgoing
  answered : answer ≡ answer_of handshaking (finding q) s
  bounded : s.intake.bound ≡ bound
  awaited : IsWaiting s → more ≡ true

shows_as : (q : LsRefsValue) (bound : ℕ) (lines : List Line) (answer : Result (ListedValue × List ℕ) Error) (more : Bool) (s t : SessionState) → t ≡ s → Shows q bound s lines answer more → Shows q bound t lines answer more
shows_as q bound lines answer more s t is h = subst (λ (x : SessionState). Shows q bound x lines answer more) (sym is) h

-- a session that awaits the references, after the first line and the listing request
abbrev listing_state : LsRefsValue → ℕ → Line → Handshake → List Line → List ℕ → SessionState
listing_state q bound first h lines rest = record {
  agent = q.agent;
  prefixes = prefixes_asked q;
  outgoing = lines_text (first ∷ []) ++ lines_text lines;
  intake = record { bound = bound; place = 0; pending = rest; reading = Some (reading.Listing h.object_hash []) };
  handshake = Some h;
  refs = None;
  reply = None;
  trouble = None;
  refused = false;
}

both_lines : (first : Line) (lines : List Line) → lines_text (first ∷ [] ++ (lines ++ [])) ≡ lines_text (first ∷ []) ++ lines_text lines
both_lines first lines = ap (λ (l : List Line). lines_text (first ∷ l)) (append-nil lines) ∙ flat_map-append line_text (first ∷ []) lines

-- by what the listing tells
by_listing : (q : LsRefsValue) (bound : ℕ) (first : Line) (h : Handshake) (lines : List Line) (rest : List ℕ) (found : Result (ParsedReply × List ℕ) ReplyError) → TellsRefs found → told_with (listing_state q bound first h lines rest).intake [] ≡ Some found
    → Shows q bound (read_one rests (listing_state q bound first h lines rest)) (first ∷ [] ++ (lines ++ after_reply (λ _. []) (λ t left. sent_in bound (listed q h t) left) found)) (after_reply (λ fault. Err (failed bound fault)) (λ t left. answer_in bound (listed q h t) left) found)
    (ends_in (λ t left. awaits_more bound (listed q h t) left) found)
unfolding sent_in answer_in awaits_more
by_listing q bound first h lines rest (Ok (told.Greeting other, left)) tells is = absurd tells
by_listing q bound first h lines rest (Ok (told.Advertisement other refs, left)) tells is = absurd tells
by_listing q bound first h lines rest (Ok (told.Reply reply, left)) tells is = absurd tells
by_listing q bound first h lines rest (Ok (told.Listing refs, left)) tells is =
    let s : SessionState = listing_state q bound first h lines rest in
    shows_as q bound _ _ _ _ (read_one rests s) (ap (after_told rests s) is) (record { sent = both_lines first lines; answered = refl; bounded = refl; awaited = λ w. rests_by _ _ refl w })
by_listing q bound first h lines rest (Err (faults.Short place)) tells is =
    let s : SessionState = listing_state q bound first h lines rest in
    shows_as q bound _ _ _ s (read_one rests s) (ap (after_told rests s) is)
    (record { sent = both_lines first lines; answered = sym (ap (answer_by handshaking bound rest (found_in q (Some h) None) None) is); bounded = refl; awaited = λ _. refl })
by_listing q bound first h lines rest (Err (faults.Broken place)) tells is =
    let s : SessionState = listing_state q bound first h lines rest in
    shows_as q bound _ _ _ _ (read_one rests s) (ap (after_told rests s) is) (record { sent = both_lines first lines; answered = refl; bounded = refl; awaited = λ w. fails_by _ _ _ refl w })
by_listing q bound first h lines rest (Err faults.TooLong) tells is =
    let s : SessionState = listing_state q bound first h lines rest in
    shows_as q bound _ _ _ _ (read_one rests s) (ap (after_told rests s) is) (record { sent = both_lines first lines; answered = refl; bounded = refl; awaited = λ w. fails_by _ _ _ refl w })
by_listing q bound first h lines rest (Err (faults.Said text)) tells is =
    let s : SessionState = listing_state q bound first h lines rest in
    shows_as q bound _ _ _ _ (read_one rests s) (ap (after_told rests s) is) (record { sent = both_lines first lines; answered = refl; bounded = refl; awaited = λ w. fails_by _ _ _ refl w })

-- a session that awaits the greeting, and this came
abbrev greeting_state : LsRefsValue → ℕ → Line → List ℕ → SessionState
greeting_state q bound first stream = record (opened bound q.agent (prefixes_asked q) first) { intake = record { bound = bound; place = 0; pending = [] ++ stream; reading = Some reading.Greeting } }

-- the listing request, where it fits and is offered
abbrev asked_listing : ℕ → LsRefsValue → Handshake → List Line → Option ℕ → Bool → Conversation ListedValue Error
asked_listing bound q h lines long offered =
    asks_unless long too_long (unless (if offered then None else Some (handshaking (wire.MissingFeature listing_feature))) (tree.asks lines (awaits.Listing h.object_hash) (failed bound) (λ t. listed q h t)))

by_offer : (q : LsRefsValue) (bound : ℕ) (first : Line) (stream : List ℕ) (h : Handshake) (lines : List Line) (rest : List ℕ) (long : Option ℕ) (offered : Bool)
    → Shows q bound (read_one rests (listing_by long offered h lines (record (greeting_state q bound first stream) { intake = resting rest (greeting_state q bound first stream).intake; handshake = Some h })))
    (first ∷ [] ++ sent_in bound (asked_listing bound q h lines long offered) rest) (answer_in bound (asked_listing bound q h lines long offered) rest) (awaits_more bound (asked_listing bound q h lines long offered) rest)
unfolding sent_in answer_in awaits_more
by_offer q bound first stream h lines rest (Some n) offered = record { sent = refl; answered = refl; bounded = refl; awaited = λ w. fails_by _ _ _ refl w }
by_offer q bound first stream h lines rest None false = record { sent = refl; answered = refl; bounded = refl; awaited = λ w. fails_by _ _ _ refl w }
by_offer q bound first stream h lines rest None true =
    by_listing q bound first h lines rest (told_at bound (awaits.Listing h.object_hash) rest) (listing_tells bound h.object_hash rest) (ap (λ (l : List ℕ). Some (told_from bound (reading.Listing h.object_hash []) 0 l)) (append-nil rest))

-- by what the greeting tells
by_greeting : (q : LsRefsValue) (bound : ℕ) (first : Line) (stream : List ℕ) (found : Result (ParsedReply × List ℕ) ReplyError) → told_with (greeting_state q bound first stream).intake [] ≡ Some found
    → Shows q bound (read_one rests (after_told asks (greeting_state q bound first stream) (Some found)))
    (first ∷ [] ++ after_reply (λ _. []) (λ t left. sent_in bound (greeted bound q t) left) found) (after_reply (λ fault. Err (failed bound fault)) (λ t left. answer_in bound (greeted bound q t) left) found)
    (ends_in (λ t left. awaits_more bound (greeted bound q t) left) found)
unfolding sent_in answer_in awaits_more listing
by_greeting q bound first stream (Ok (told.Greeting h, left)) is =
    let lines : List Line = listing_lines h q.agent (prefixes_asked q) in
    by_offer q bound first stream h lines left (first_too_long lines) (offers listing_feature h.capabilities)
by_greeting q bound first stream (Ok (told.Advertisement h refs, left)) is = record { sent = refl; answered = refl; bounded = refl; awaited = λ w. rests_by _ _ refl w }
by_greeting q bound first stream (Ok (told.Listing refs, left)) is = record { sent = refl; answered = refl; bounded = refl; awaited = λ w. rests_by _ _ refl w }
by_greeting q bound first stream (Ok (told.Reply reply, left)) is = record { sent = refl; answered = refl; bounded = refl; awaited = λ w. rests_by _ _ refl w }
by_greeting q bound first stream (Err (faults.Short place)) is =
    let s : SessionState = greeting_state q bound first stream in
    shows_as q bound _ _ _ s (read_one rests s) (ap (after_told rests s) is)
    (record { sent = refl; answered = sym (ap (answer_by handshaking bound ([] ++ stream) (found_in q None None) None) is); bounded = refl; awaited = λ _. refl })
by_greeting q bound first stream (Err (faults.Broken place)) is = record { sent = refl; answered = refl; bounded = refl; awaited = λ w. fails_by _ _ _ refl w }
by_greeting q bound first stream (Err faults.TooLong) is = record { sent = refl; answered = refl; bounded = refl; awaited = λ w. fails_by _ _ _ refl w }
by_greeting q bound first stream (Err (faults.Said text)) is = record { sent = refl; answered = refl; bounded = refl; awaited = λ w. fails_by _ _ _ refl w }

-- the query, where its first line fits and nothing of it is refused
abbrev pub ls_refs_from : ℕ → LsRefsValue → Line → Conversation ListedValue Error
ls_refs_from bound q first = tree.asks (first ∷ []) awaits.Greeting (failed bound) (λ t. greeted bound q t)

shows : (q : LsRefsValue) (bound : ℕ) (first : Line) (stream : List ℕ) → Shows q bound (fed (opened bound q.agent (prefixes_asked q) first) stream) (sent_in bound (ls_refs_from bound q first) ([] ++ stream)) (answer_in bound (ls_refs_from bound q first) ([] ++ stream)) (awaits_more bound (ls_refs_from bound q first) ([] ++ stream))
unfolding sent_in answer_in awaits_more
shows q bound first stream =
    let found : Result (ParsedReply × List ℕ) ReplyError = told_at bound awaits.Greeting stream in
    let is : told_with (greeting_state q bound first stream).intake [] ≡ Some found = ap (λ (l : List ℕ). Some (told_from bound reading.Greeting 0 l)) (append-nil stream) in
    let s : SessionState = greeting_state q bound first stream in
    shows_as q bound _ _ _ _ (fed (opened bound q.agent (prefixes_asked q) first) stream) (ap (λ (f : Option (Result (ParsedReply × List ℕ) ReplyError)). read_one rests (after_told asks s f)) is) (by_greeting q bound first stream found is)

pub tied : (q : LsRefsValue) (bound : ℕ) (first : Line) → IsTied handshaking (finding q) bound (opened bound q.agent (prefixes_asked q) first) (ls_refs_from bound q first) []
tied q bound first = record {
  sent = λ stream. (shows q bound first stream).sent;
  answered = λ stream. (shows q bound first stream).answered;
  bounded = λ stream. (shows q bound first stream).bounded;
  awaited = λ stream w. (shows q bound first stream).awaited w;
}
