-- One request, and its reply.
use Rattle.std.proofs.Common.{◌≡◌, ◌≢◌, ℕ, Bool, false, not, List, [], ◌++◌, Option, Some, None, Result, Ok, Err, refl, sym, ap, ◌∙◌, subst}
use Rattle.fetch_base.specs.declared.id.ObjectId.{ObjectId}
use Rattle.fetch_replies.specs.declared.replies.reply.ReplyContext.{ReplyContext}
use Rattle.fetch_replies.specs.declared.replies.reply.ReplyKind.TheVariants as awaits
use Rattle.fetch_replies.specs.declared.replies.reply.ReplyError.{ReplyError}
use Rattle.fetch_replies.specs.declared.replies.reply.ReplyError.TheVariants as faults
use Rattle.fetch_replies.specs.declared.replies.reply.ParsedReply.{ParsedReply}
use Rattle.fetch_replies.specs.declared.replies.reply.ParsedReply.TheVariants as told
use Rattle.fetch_lines.specs.declared.error.WireError.{WireError}
use Rattle.fetch_lines.specs.declared.error.WireError.TheVariants as wire
use Rattle.fetch_lines.specs.declared.lines.line.Line.{Line}
use Rattle.fetch_replies.specs.declared.replies.parser.Part.TheVariants as parts
use Rattle.fetch_replies.specs.declared.replies.parser.ReplyParser.TheVariants as reading
use Rattle.fetch_lines.specs.declared.requests.records.FetchReply.{FetchReply}
use Rattle.fetch_lines.specs.declared.requests.records.Request.{Request}
use Rattle.fetch_wire.specs.declared.session.turn.Turn.TheVariants as turns
use Rattle.fetch_replies.specs.Awaited.{told_from}
use Rattle.fetch_lines.specs.FetchRecords.{no_reply}
use Rattle.fetch_replies.specs.Intakes.{told_with, awaiting}
use Rattle.fetch_lines.specs.RequestLines.{request_lines}
use Rattle.fetch_wire.specs.SessionStates.{SessionState, IsAlike, fed, requested, turn_of, kind_of, after_told, rests}
use Rattle.fetch_wire.specs.SessionStates as session
use Rattle.fetch_lines.specs.Talks.{Talk}
use Rattle.fetch_lines.specs.Written.{lines_text, first_too_long, TellsTooLong}
use Rattle.fetch_wire.proofs.SessionAlike.{stays_alike, alike_then, alike_back}
use Rattle.fetch_negotiate.specs.Requests.{fetch_request}
use Rattle.fetch_conversation.specs.Conversation.{Conversation, ends, asks, sent_in, answer_in, RefusesWith, Converses}
use Rattle.fetch_conversation.specs.Conversing.{found_in, IsAsked}
use Rattle.fetch_conversation.specs.Drives.{IsDrivable, Finishes, Stops}
use Rattle.fetch_conversation.specs.Errors.{is_free_receiving, is_stopped, fetch_of_wire, fetch_of_stop}
use Rattle.fetch_conversation.specs.Exchange.{FetchArgumentsValue, asked_by, too_long, failed, replied, reply_to, other_reply, exchange}
use Rattle.fetch_conversation.specs.ListStage.{IsReady, shown}
use Rattle.fetch_conversation.specs.declared.drive.DriveError.{DriveError}
use Rattle.fetch_conversation.specs.declared.drive.DriveError.TheVariants as stops
use Rattle.fetch_conversation.specs.declared.fetch.Error.{Error}
use Rattle.fetch_conversation.specs.declared.fetch.Error.TheVariants as errors
use Rattle.fetch_conversation.specs.declared.listing.Listed.{Listed}
use Rattle.fetch_conversation.proofs.AwaitedTold.{TellsReply, reply_tells}
use Rattle.fetch_conversation.proofs.Driven.{resting, told_refused, finished_unrefused}
use Rattle.fetch_conversation.proofs.Replied.{finding, question, tied, requested_read, fed_requested, asking_state, reply_state}
use Rattle.fetch_conversation.proofs.Heeded.{fetches}
use Rattle.fetch_conversation.proofs.Tied.{IsTied, IsWord, concluded, refused_at_end, broken, broken_first, tied_alike}

abbrev pub Exchanges : Bool → ℕ → Option Talk → Option Talk → List ℕ → List ℕ → FetchArgumentsValue → List ObjectId → Bool → Result FetchReply Error → Type 0
Exchanges answers bound old new pending rest t haves done result = Converses is_free_receiving is_stopped answers bound old new pending rest (exchange bound t haves done) result

-- ---- a line that is too long

long_by : (bound : ℕ) (t : FetchArgumentsValue) (haves : List ObjectId) (done : Bool) (n : ℕ) → first_too_long (fetch_request (asked_by t) haves done) ≡ Some n → exchange bound t haves done ≡ ends (Err (too_long n))
unfolding exchange
long_by bound t haves done n is = rw is refl

long_is : (bound : ℕ) (t : FetchArgumentsValue) (haves : List ObjectId) (done : Bool) (e : WireError) → TellsTooLong (first_too_long (fetch_request (asked_by t) haves done)) e → is_free_receiving (fetch_of_wire e) ≡ false
    → exchange bound t haves done ≡ ends (Err (fetch_of_wire e))
long_is bound t haves done wire.NoMemory h isnt = absurd (cc)
long_is bound t haves done (wire.LineTooLong n) h isnt = long_by bound t haves done n h
long_is bound t haves done (wire.Malformed place) h isnt = absurd h
long_is bound t haves done (wire.ServerError text) h isnt = absurd h
long_is bound t haves done (wire.ReplyTooLong bytes) h isnt = absurd h
long_is bound t haves done (wire.MissingFeature name) h isnt = absurd h
long_is bound t haves done (wire.BadParameter text place) h isnt = absurd h

refusing : {X E : Type 0} (bound : ℕ) (c : Conversation X E) (e : E) (stream : List ℕ) → c ≡ ends (Err e) → RefusesWith bound c stream [] e
unfolding sent_in answer_in
refusing bound c e stream is = rw is (record { answer = refl; asked = refl })

pub exchange_long : (answers : Bool) (bound : ℕ) (old : Option Talk) (pending rest : List ℕ) (t : FetchArgumentsValue) (haves : List ObjectId) (done : Bool) (e : WireError) → TellsTooLong (first_too_long (fetch_request (asked_by t) haves done)) e
    → Exchanges answers bound old old pending rest t haves done (Err (fetch_of_wire e))
exchange_long answers bound old pending rest t haves done e h = record {
  held = broken_first is_free_receiving is_stopped answers bound old pending (exchange bound t haves done) (fetch_of_wire e) (sym (fetches e)) (λ isnt stream. refusing bound (exchange bound t haves done) (fetch_of_wire e) stream (long_is bound t haves done e h isnt));
}

-- ---- a request that was given to a session

asked_exchange : (bound : ℕ) (t : FetchArgumentsValue) (haves : List ObjectId) (done : Bool) → first_too_long (fetch_request (asked_by t) haves done) ≡ None
    → exchange bound t haves done ≡ asks (fetch_request (asked_by t) haves done) (awaits.Reply (reply_to t haves done)) (failed bound) (λ x. replied x)
unfolding exchange
asked_exchange bound t haves done is = rw is refl

question_is : (bound : ℕ) (t : FetchArgumentsValue) (haves : List ObjectId) (done : Bool) (asked : ReplyContext) → asked ≡ reply_to t haves done → first_too_long (fetch_request (asked_by t) haves done) ≡ None
    → exchange bound t haves done ≡ question (λ x. replied x) bound (fetch_request (asked_by t) haves done) asked
question_is bound t haves done asked same fits = asked_exchange bound t haves done fits ∙ ap (λ (a : ReplyContext). question (λ x. replied x) bound (fetch_request (asked_by t) haves done) a) (sym same)

well : (s : SessionState) → turn_of s ≡ turns.Idle → s.trouble ≡ None
well s idle = (resting s idle).trouble

abbrev Found : Type 0
Found = Result FetchReply Error

exchange_tied : (bound : ℕ) (t : FetchArgumentsValue) (haves : List ObjectId) (done : Bool) (before now : SessionState) → turn_of before ≡ turns.Idle → before.intake.bound ≡ bound → IsAsked t haves done before now
    → IsTied errors.Fetch (finding (λ (r : FetchReply). Ok r)) bound now (exchange bound t haves done) before.intake.pending
exchange_tied bound t haves done before now idle same a =
    let lines : List Line = fetch_request (asked_by t) haves done in
    let asked : ReplyContext = session.asked_by before a.request (not t.dry_run) in
    let first : IsTied errors.Fetch (finding (λ (r : FetchReply). Ok r)) before.intake.bound (requested before a.request (not t.dry_run)) (question (λ x. replied x) before.intake.bound lines asked) before.intake.pending
    = tied (λ (r : FetchReply). Ok r) (λ x. replied x) before a.request (not t.dry_run) lines (λ reply. refl) (well before idle) (ap lines_text (sym a.lines)) in
    let second : IsTied errors.Fetch (finding (λ (r : FetchReply). Ok r)) bound (requested before a.request (not t.dry_run)) (question (λ x. replied x) bound lines asked) before.intake.pending
    = subst (λ (n : ℕ). IsTied errors.Fetch (finding (λ (r : FetchReply). Ok r)) n (requested before a.request (not t.dry_run)) (question (λ x. replied x) n lines asked) before.intake.pending) same first in
    tied_alike errors.Fetch (finding (λ (r : FetchReply). Ok r)) bound now (requested before a.request (not t.dry_run)) (exchange bound t haves done) before.intake.pending a.is
    (subst (λ (c : Conversation FetchReply Error). IsTied errors.Fetch (finding (λ (r : FetchReply). Ok r)) bound (requested before a.request (not t.dry_run)) c before.intake.pending) (sym (question_is bound t haves done asked a.reply a.fits)) second)

requested_refused : (s : SessionState) (r : Request) (read_pack : Bool) → (requested s r read_pack).refused ≡ s.refused
requested_refused s r read_pack =
    let now : SessionState = record s { intake = awaiting (awaits.Reply (session.asked_by s r read_pack)) s.intake; outgoing = lines_text (request_lines r); reply = None } in
    told_refused now (told_with now.intake [])

asked_refused : (t : FetchArgumentsValue) (haves : List ObjectId) (done : Bool) (before now : SessionState) → IsAsked t haves done before now → now.refused ≡ before.refused
asked_refused t haves done before now a = ap (λ (s : SessionState). s.refused) a.is.others ∙ requested_refused before a.request (not t.dry_run)

pub asked_drivable : (t : FetchArgumentsValue) (haves : List ObjectId) (done : Bool) (before now : SessionState) → turn_of before ≡ turns.Idle → before.refused ≡ false → IsAsked t haves done before now → IsDrivable now
asked_drivable t haves done before now idle isnt a =
    let r : SessionState = requested before a.request (not t.dry_run) in
    let fed_now : IsAlike (fed now []) r = subst (IsAlike (fed now [])) (requested_read before a.request (not t.dry_run) (well before idle)) (stays_alike now r [] a.is) in
    record {
      read = alike_then now r (fed now []) a.is (alike_back (fed now []) r fed_now);
      unrefused = asked_refused t haves done before now a ∙ isnt;
    }

-- ---- a session that was stopped

word_by : (e : WireError) → is_free_receiving (fetch_of_wire e) ≡ false → (e ≢ wire.NoMemory) × (fetch_of_wire e ≡ errors.Fetch e)
word_by wire.NoMemory isnt = absurd (cc)
word_by (wire.Malformed place) isnt = (λ e. cc, refl)
word_by (wire.ServerError text) isnt = (λ e. cc, refl)
word_by (wire.ReplyTooLong bound) isnt = (λ e. cc, refl)
word_by (wire.MissingFeature name) isnt = (λ e. cc, refl)
word_by (wire.LineTooLong n) isnt = (λ e. cc, refl)
word_by (wire.BadParameter text place) isnt = (λ e. cc, refl)

word_is : (stop : DriveError) → IsWord is_free_receiving is_stopped errors.Fetch stop (fetch_of_stop stop)
word_is (stops.Refused e) = (word_by e, sym (fetches e))
word_is stops.Failed = (refl, refl)
word_is stops.Interrupted = refl

pub exchange_stopped : (answers : Bool) (bound : ℕ) (old new : Option Talk) (rest : List ℕ) (t : FetchArgumentsValue) (haves : List ObjectId) (done : Bool) (before now : SessionState) (stop : DriveError) → turn_of before ≡ turns.Idle → before.intake.bound ≡ bound
    → IsAsked t haves done before now → Stops answers old new now stop → Exchanges answers bound old new before.intake.pending rest t haves done (Err (fetch_of_stop stop))
exchange_stopped answers bound old new rest t haves done before now stop idle same a stopped = record {
  held = broken errors.Fetch (finding (λ (r : FetchReply). Ok r)) is_free_receiving is_stopped answers bound old new now (exchange bound t haves done) before.intake.pending stop (fetch_of_stop stop) (exchange_tied bound t haves done before now idle same a) stopped (word_is stop);
}

-- ---- a session that was driven to its end

answered_by : (answers : Bool) (bound : ℕ) (old new : Option Talk) (c : Conversation FetchReply Error) (pending : List ℕ) (now last : SessionState) (reply : Option FetchReply) → last.reply ≡ reply
    → IsTied errors.Fetch (finding (λ (r : FetchReply). Ok r)) bound now c pending → Finishes answers old new now last → Converses is_free_receiving is_stopped answers bound old new pending last.intake.pending c (found_in (λ (r : FetchReply). Ok r) reply)
answered_by answers bound old new c pending now last (Some r) is ties finished = record {
  held = concluded errors.Fetch (finding (λ (r : FetchReply). Ok r)) answers bound old new now last c pending r ties finished (ap (found_in (λ (r : FetchReply). Ok r)) is);
}
answered_by answers bound old new c pending now last None is ties finished = record {
  held = refused_at_end errors.Fetch (finding (λ (r : FetchReply). Ok r)) is_free_receiving is_stopped answers bound old new now last c pending other_reply ties finished refl (λ isnt. ap (found_in (λ (r : FetchReply). Ok r)) is);
}

-- what is answered is what the session keeps
pub exchange_found : (answers : Bool) (bound : ℕ) (old new : Option Talk) (t : FetchArgumentsValue) (haves : List ObjectId) (done : Bool) (before now last : SessionState) → turn_of before ≡ turns.Idle → before.intake.bound ≡ bound
    → IsAsked t haves done before now → Finishes answers old new now last → Exchanges answers bound old new before.intake.pending last.intake.pending t haves done (found_in (λ (r : FetchReply). Ok r) last.reply)
exchange_found answers bound old new t haves done before now last idle same a finished =
    answered_by answers bound old new (exchange bound t haves done) before.intake.pending now last last.reply refl (exchange_tied bound t haves done before now idle same a) finished

-- ---- what a session keeps beside the reply

handshake_by : (s : SessionState) (found : Option (Result (ParsedReply × List ℕ) ReplyError)) (r : Result (ParsedReply × List ℕ) ReplyError) → found ≡ Some r → TellsReply r → (after_told rests s found).handshake ≡ s.handshake
handshake_by s found (Ok (told.Greeting h, left)) is tells = absurd tells
handshake_by s found (Ok (told.Advertisement h refs, left)) is tells = absurd tells
handshake_by s found (Ok (told.Listing refs, left)) is tells = absurd tells
handshake_by s found (Ok (told.Reply reply, left)) is tells = rw is refl
handshake_by s found (Err (faults.Short place)) is tells = rw is refl
handshake_by s found (Err (faults.Broken place)) is tells = rw is refl
handshake_by s found (Err faults.TooLong) is tells = rw is refl
handshake_by s found (Err (faults.Said text)) is tells = rw is refl

handshake_stays : (s : SessionState) (r : Request) (read_pack : Bool) (stream : List ℕ) → s.trouble ≡ None → (fed (requested s r read_pack) stream).handshake ≡ s.handshake
handshake_stays s r read_pack stream none =
    let asked : ReplyContext = session.asked_by s r read_pack in
    let bytes : List ℕ = s.intake.pending ++ stream in
    let now : SessionState = reply_state (asking_state s r) s.intake.bound asked bytes in
    ap (λ (x : SessionState). x.handshake) (fed_requested s r read_pack stream none)
    ∙ handshake_by now (told_with now.intake []) (told_from s.intake.bound (reading.Reply asked parts.Beginning no_reply) 0 (bytes ++ [])) refl (reply_tells s.intake.bound asked (bytes ++ []))

finished_handshake : (answers : Bool) (old new : Option Talk) (t : FetchArgumentsValue) (haves : List ObjectId) (done : Bool) (before now last : SessionState) → turn_of before ≡ turns.Idle → IsAsked t haves done before now → Finishes answers old new now last
    → last.handshake ≡ before.handshake
finished_handshake answers old new t haves done before now last idle a f =
    let r : SessionState = requested before a.request (not t.dry_run) in
    ap (λ (s : SessionState). s.handshake) f.went.is.others ∙ ap (λ (s : SessionState). s.handshake) (stays_alike now r f.went.said a.is).others ∙ handshake_stays before a.request (not t.dry_run) f.went.said (well before idle)

finished_bound : (answers : Bool) (bound : ℕ) (old new : Option Talk) (t : FetchArgumentsValue) (haves : List ObjectId) (done : Bool) (before now last : SessionState) → turn_of before ≡ turns.Idle → before.intake.bound ≡ bound → IsAsked t haves done before now → Finishes answers old new now last
    → last.intake.bound ≡ bound
finished_bound answers bound old new t haves done before now last idle same a f =
    f.went.is.intake.bound ∙ (exchange_tied bound t haves done before now idle same a).bounded f.went.said

-- another request can be made
pub ready_again : (answers : Bool) (old new : Option Talk) (t : FetchArgumentsValue) (haves : List ObjectId) (done : Bool) (before after : Listed) (now : SessionState) → IsReady before → shown after ≡ shown before → IsAsked t haves done before.session now → Finishes answers old new now after.session → IsReady after
ready_again answers old new t haves done before after now ready same a f = record {
  turn = f.idle;
  unrefused = finished_unrefused answers old new now after.session (asked_refused t haves done before.session now a ∙ ready.unrefused) f;
  kind = ap kind_of (finished_handshake answers old new t haves done before.session now after.session ready.turn a f) ∙ ready.kind ∙ ap (λ (l : _). l.handshake.object_hash) (sym same);
}

pub bound_again : (answers : Bool) (old new : Option Talk) (t : FetchArgumentsValue) (haves : List ObjectId) (done : Bool) (before after : SessionState) (now : SessionState) → turn_of before ≡ turns.Idle → IsAsked t haves done before now → Finishes answers old new now after
    → after.intake.bound ≡ before.intake.bound
bound_again answers old new t haves done before after now idle a f = finished_bound answers before.intake.bound old new t haves done before now after idle refl a f
