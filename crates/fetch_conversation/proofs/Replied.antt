-- A session to which a request was given is that of a question.
use Rattle.std.proofs.Common.{◌≡◌, ℕ, Bool, true, List, [], ◌++◌, Option, Some, None, Result, Ok, Err, refl, sym, ap, ◌∙◌, subst}
use Rattle.std.proofs.lemmas.List.{append-nil}
use Rattle.fetch_replies.specs.declared.replies.reply.ReplyContext.{ReplyContext}
use Rattle.fetch_replies.specs.declared.replies.reply.ReplyKind.TheVariants as awaits
use Rattle.fetch_replies.specs.declared.replies.reply.ReplyError.{ReplyError}
use Rattle.fetch_replies.specs.declared.replies.reply.ReplyError.TheVariants as faults
use Rattle.fetch_replies.specs.declared.replies.reply.ParsedReply.{ParsedReply}
use Rattle.fetch_replies.specs.declared.replies.reply.ParsedReply.TheVariants as told
use Rattle.fetch_lines.specs.declared.error.WireError.{WireError}
use Rattle.fetch_lines.specs.declared.greetings.handshake.Handshake.{Handshake}
use Rattle.fetch_lines.specs.declared.lines.line.Line.{Line}
use Rattle.fetch_replies.specs.declared.replies.parser.Part.TheVariants as parts
use Rattle.fetch_replies.specs.declared.replies.parser.ReplyParser.{ReplyParser}
use Rattle.fetch_replies.specs.declared.replies.parser.ReplyParser.TheVariants as reading
use Rattle.fetch_lines.specs.declared.requests.records.FetchReply.{FetchReply}
use Rattle.fetch_lines.specs.declared.requests.records.Request.{Request}
use Rattle.fetch_lines.specs.declared.listings.reference.Ref.{Ref}
use Rattle.fetch_replies.specs.Awaited.{told_at, told_from, step_of}
use Rattle.fetch_lines.specs.FetchRecords.{no_reply}
use Rattle.fetch_replies.specs.Intakes.{told_with}
use Rattle.fetch_lines.specs.RequestLines.{request_lines}
use Rattle.fetch_wire.specs.SessionStates.{SessionState, fed, requested, asked_by, after_told, read_one, rests, asks, error_of}
use Rattle.fetch_replies.specs.StepLaws.{IsSettled, with_more, read_by-more}
use Rattle.fetch_lines.specs.Written.{lines_text}
use Rattle.fetch_wire.proofs.Conversing.{fed_is}
use Rattle.fetch_conversation.specs.Conversation.{Conversation, ends, sent_in, answer_in, ends_in, awaits_more, after_reply, beside}
use Rattle.fetch_conversation.specs.Conversation as tree
use Rattle.fetch_conversation.specs.Conversing.{found_in}
use Rattle.fetch_conversation.specs.Drives.{IsWaiting}
use Rattle.fetch_conversation.specs.declared.fetch.Error.{Error}
use Rattle.fetch_conversation.specs.declared.fetch.Error.TheVariants as errors
use Rattle.fetch_conversation.proofs.AwaitedTold.{TellsReply, reply_tells}
use Rattle.fetch_conversation.proofs.Tied.{answer_of, answer_by, at_rest, rests_by, fails_by, IsTied}

-- a session that awaits the reply, and this came of it
abbrev pub reply_state : SessionState → ℕ → ReplyContext → List ℕ → SessionState
reply_state s bound asked bytes = record s { intake = record { bound = bound; place = 0; pending = bytes; reading = Some (reading.Reply asked parts.Beginning no_reply) } }

-- after a reply nothing is asked
asks_nothing : (s : SessionState) (found : Result (ParsedReply × List ℕ) ReplyError) → told_with s.intake [] ≡ Some found → TellsReply found → read_one rests (after_told asks s (Some found)) ≡ after_told rests s (Some found)
asks_nothing s (Ok (told.Greeting h, rest)) is tells = absurd tells
asks_nothing s (Ok (told.Advertisement h refs, rest)) is tells = absurd tells
asks_nothing s (Ok (told.Listing refs, rest)) is tells = absurd tells
asks_nothing s (Ok (told.Reply reply, rest)) is tells = refl
asks_nothing s (Err (faults.Short place)) is tells = ap (after_told rests s) is
asks_nothing s (Err (faults.Broken place)) is tells = refl
asks_nothing s (Err faults.TooLong) is tells = refl
asks_nothing s (Err (faults.Said text)) is tells = refl

reply_told : (bound : ℕ) (asked : ReplyContext) (bytes : List ℕ) → TellsReply (told_from bound (reading.Reply asked parts.Beginning no_reply) 0 bytes)
reply_told bound asked bytes = reply_tells bound asked bytes

more_bytes : (bound : ℕ) (asked : ReplyContext) (pending others : List ℕ) (found : Result (ParsedReply × List ℕ) ReplyError) → told_from bound (reading.Reply asked parts.Beginning no_reply) 0 (pending ++ []) ≡ found → IsSettled found
    → told_from bound (reading.Reply asked parts.Beginning no_reply) 0 ((pending ++ others) ++ []) ≡ with_more found others
more_bytes bound asked pending others found is settled =
    let r : ReplyParser = reading.Reply asked parts.Beginning no_reply in
    let bytes : told_from bound r 0 pending ≡ found = ap (told_from bound r 0) (sym (append-nil pending)) ∙ is in
    ap (told_from bound r 0) (append-nil (pending ++ others)) ∙ read_by-more step_of bound 0 r pending others (λ p e. settled p (sym bytes ∙ e)) ∙ ap (λ (f : Result (ParsedReply × List ℕ) ReplyError). with_more f others) bytes

then_told : (s : SessionState) (bound : ℕ) (asked : ReplyContext) (pending others : List ℕ) (found : Result (ParsedReply × List ℕ) ReplyError) → told_from bound (reading.Reply asked parts.Beginning no_reply) 0 (pending ++ []) ≡ found → IsSettled found
    → after_told rests (reply_state s bound asked (pending ++ others)) (Some (with_more found others)) ≡ read_one rests (reply_state s bound asked (pending ++ others))
then_told s bound asked pending others found is settled =
    sym (ap (λ (f : Result (ParsedReply × List ℕ) ReplyError). after_told rests (reply_state s bound asked (pending ++ others)) (Some f)) (more_bytes bound asked pending others found is settled))

pieces_by : (s : SessionState) (bound : ℕ) (asked : ReplyContext) (pending others : List ℕ) (found : Result (ParsedReply × List ℕ) ReplyError) → s.trouble ≡ None → told_from bound (reading.Reply asked parts.Beginning no_reply) 0 (pending ++ []) ≡ found → TellsReply found
    → fed (after_told rests (reply_state s bound asked pending) (Some found)) others ≡ read_one rests (reply_state s bound asked (pending ++ others))
pieces_by s bound asked pending others (Ok (told.Greeting h, left)) well is tells = absurd tells
pieces_by s bound asked pending others (Ok (told.Advertisement h refs, left)) well is tells = absurd tells
pieces_by s bound asked pending others (Ok (told.Listing refs, left)) well is tells = absurd tells
pieces_by s bound asked pending others (Ok (told.Reply reply, left)) well is tells =
    at_rest (after_told rests (reply_state s bound asked pending) (Some (Ok (told.Reply reply, left)))) others well refl ∙ then_told s bound asked pending others (Ok (told.Reply reply, left)) is (λ p e. cc)
pieces_by s bound asked pending others (Err (faults.Short place)) well is tells =
    let now : SessionState = reply_state s bound asked (pending ++ others) in
    fed_is (reply_state s bound asked pending) others s.trouble well
    ∙ asks_nothing now (told_from bound (reading.Reply asked parts.Beginning no_reply) 0 ((pending ++ others) ++ [])) refl (reply_told bound asked ((pending ++ others) ++ []))
pieces_by s bound asked pending others (Err (faults.Broken place)) well is tells = then_told s bound asked pending others (Err (faults.Broken place)) is (λ p e. cc)
pieces_by s bound asked pending others (Err faults.TooLong) well is tells = then_told s bound asked pending others (Err faults.TooLong) is (λ p e. cc)
pieces_by s bound asked pending others (Err (faults.Said text)) well is tells = then_told s bound asked pending others (Err (faults.Said text)) is (λ p e. cc)

-- what is to be sent of a request, before its reply is read
abbrev pub asking_state : SessionState → Request → SessionState
asking_state s r = record s { outgoing = lines_text (request_lines r); reply = None }

pub fed_requested : (s : SessionState) (r : Request) (read_pack : Bool) (stream : List ℕ) → s.trouble ≡ None
    → fed (requested s r read_pack) stream ≡ read_one rests (reply_state (asking_state s r) s.intake.bound (asked_by s r read_pack) (s.intake.pending ++ stream))
fed_requested s r read_pack stream well =
    let bound : ℕ = s.intake.bound in
    let asked : ReplyContext = asked_by s r read_pack in
    pieces_by (asking_state s r) bound asked s.intake.pending stream (told_from bound (reading.Reply asked parts.Beginning no_reply) 0 (s.intake.pending ++ [])) well refl (reply_told bound asked (s.intake.pending ++ []))

-- it read all that came
pub requested_read : (s : SessionState) (r : Request) (read_pack : Bool) → s.trouble ≡ None → fed (requested s r read_pack) [] ≡ requested s r read_pack
requested_read s r read_pack well =
    fed_requested s r read_pack [] well ∙ ap (λ (l : List ℕ). read_one rests (reply_state (asking_state s r) s.intake.bound (asked_by s r read_pack) l)) (append-nil s.intake.pending)

-- ---- the question

abbrev pub finding : {X : Type 0} → (FetchReply → Result X Error) → Option Handshake → Option (List Ref) → Option FetchReply → Result X Error
finding f h refs reply = found_in f reply

record Shows {X : Type 0} (f : FetchReply → Result X Error) (next : ParsedReply → Conversation X Error) (bound : ℕ) (s : SessionState) (lines : List Line) (answer : Result (X × List ℕ) Error) (more : Bool) : Type 0 where
  sent : lines_text lines ≡ s.outgoing
  answered : answer ≡ answer_of errors.Fetch (finding f) s
  bounded : s.intake.bound ≡ bound
  awaited : IsWaiting s → more ≡ true

shows_as : {X : Type 0} (f : FetchReply → Result X Error) (next : ParsedReply → Conversation X Error) (bound : ℕ) (lines : List Line) (answer : Result (X × List ℕ) Error) (more : Bool) (s t : SessionState) → t ≡ s → Shows f next bound s lines answer more → Shows f next bound t lines answer more
shows_as f next bound lines answer more s t is h = subst (λ (x : SessionState). Shows f next bound x lines answer more) (sym is) h

sent_lines : (lines : List Line) (out : List ℕ) → lines_text lines ≡ out → lines_text (lines ++ []) ≡ out
sent_lines lines out is = ap lines_text (append-nil lines) ∙ is

by_reply : {X : Type 0} (f : FetchReply → Result X Error) (next : ParsedReply → Conversation X Error) (s : SessionState) (bound : ℕ) (asked : ReplyContext) (lines : List Line) (bytes : List ℕ) (found : Result (ParsedReply × List ℕ) ReplyError) → ((reply : FetchReply) → next (told.Reply reply) ≡ ends (f reply)) → s.trouble ≡ None
    → lines_text lines ≡ s.outgoing → TellsReply found → told_with (reply_state s bound asked bytes).intake [] ≡ Some found
    → Shows f next bound (after_told rests (reply_state s bound asked bytes) (Some found)) (lines ++ after_reply (λ _. []) (λ t left. sent_in bound (next t) left) found)
    (after_reply (λ fault. Err (errors.Fetch (error_of bound fault))) (λ t left. answer_in bound (next t) left) found) (ends_in (λ t left. awaits_more bound (next t) left) found)
unfolding sent_in answer_in awaits_more
by_reply f next s bound asked lines bytes (Ok (told.Greeting h, left)) nexts well out tells is = absurd tells
by_reply f next s bound asked lines bytes (Ok (told.Advertisement h refs, left)) nexts well out tells is = absurd tells
by_reply f next s bound asked lines bytes (Ok (told.Listing refs, left)) nexts well out tells is = absurd tells
by_reply {X} f next s bound asked lines bytes (Ok (told.Reply reply, left)) nexts well out tells is =
    record {
      sent = ap (λ (c : Conversation X Error). lines_text (lines ++ sent_in bound c left)) (nexts reply) ∙ sent_lines lines s.outgoing out;
      answered = ap (λ (c : Conversation X Error). answer_in bound c left) (nexts reply) ∙ sym (ap (λ (t : Option WireError). answer_by errors.Fetch bound left (f reply) t None) well);
      bounded = refl;
      awaited = λ w. rests_by _ _ refl w;
    }
by_reply f next s bound asked lines bytes (Err (faults.Short place)) nexts well out tells is = record {
  sent = sent_lines lines s.outgoing out;
  answered = sym (ap (λ (t : Option WireError). answer_by errors.Fetch bound bytes (found_in f s.reply) t (told_with (reply_state s bound asked bytes).intake [])) well ∙ ap (answer_by errors.Fetch bound bytes (found_in f s.reply) None) is);
  bounded = refl;
  awaited = λ _. refl;
}
by_reply f next s bound asked lines bytes (Err (faults.Broken place)) nexts well out tells is = record { sent = sent_lines lines s.outgoing out; answered = refl; bounded = refl; awaited = λ w. fails_by _ _ _ refl w }
by_reply f next s bound asked lines bytes (Err faults.TooLong) nexts well out tells is = record { sent = sent_lines lines s.outgoing out; answered = refl; bounded = refl; awaited = λ w. fails_by _ _ _ refl w }
by_reply f next s bound asked lines bytes (Err (faults.Said text)) nexts well out tells is = record { sent = sent_lines lines s.outgoing out; answered = refl; bounded = refl; awaited = λ w. fails_by _ _ _ refl w }

-- the question
abbrev pub question : {X : Type 0} → (ParsedReply → Conversation X Error) → ℕ → List Line → ReplyContext → Conversation X Error
question next bound lines asked = tree.asks lines (awaits.Reply asked) (λ fault. errors.Fetch (error_of bound fault)) next

shows : {X : Type 0} (f : FetchReply → Result X Error) (next : ParsedReply → Conversation X Error) (s : SessionState) (r : Request) (read_pack : Bool) (lines : List Line) (stream : List ℕ) → ((reply : FetchReply) → next (told.Reply reply) ≡ ends (f reply)) → s.trouble ≡ None → lines_text lines ≡ lines_text (request_lines r)
    → Shows f next s.intake.bound (fed (requested s r read_pack) stream) (sent_in s.intake.bound (question next s.intake.bound lines (asked_by s r read_pack)) (s.intake.pending ++ stream))
    (answer_in s.intake.bound (question next s.intake.bound lines (asked_by s r read_pack)) (s.intake.pending ++ stream))
    (awaits_more s.intake.bound (question next s.intake.bound lines (asked_by s r read_pack)) (s.intake.pending ++ stream))
unfolding sent_in answer_in awaits_more
shows f next s r read_pack lines stream nexts well out =
    let bound : ℕ = s.intake.bound in
    let asked : ReplyContext = asked_by s r read_pack in
    let bytes : List ℕ = s.intake.pending ++ stream in
    let now : SessionState = reply_state (asking_state s r) bound asked bytes in
    let found : Result (ParsedReply × List ℕ) ReplyError = told_at bound (awaits.Reply asked) bytes in
    let is : told_with now.intake [] ≡ Some found = ap (λ (l : List ℕ). Some (told_from bound (reading.Reply asked parts.Beginning no_reply) 0 l)) (append-nil bytes) in
    shows_as f next bound _ _ _ _ (fed (requested s r read_pack) stream) (fed_requested s r read_pack stream well ∙ ap (after_told rests now) is)
    (by_reply f next (asking_state s r) bound asked lines bytes found nexts well out (reply_tells bound asked bytes) is)

pub tied : {X : Type 0} (f : FetchReply → Result X Error) (next : ParsedReply → Conversation X Error) (s : SessionState) (r : Request) (read_pack : Bool) (lines : List Line) → ((reply : FetchReply) → next (told.Reply reply) ≡ ends (f reply)) → s.trouble ≡ None → lines_text lines ≡ lines_text (request_lines r)
    → IsTied errors.Fetch (finding f) s.intake.bound (requested s r read_pack) (question next s.intake.bound lines (asked_by s r read_pack)) s.intake.pending
tied f next s r read_pack lines nexts well out = record {
  sent = λ stream. (shows f next s r read_pack lines stream nexts well out).sent;
  answered = λ stream. (shows f next s r read_pack lines stream nexts well out).answered;
  bounded = λ stream. (shows f next s r read_pack lines stream nexts well out).bounded;
  awaited = λ stream w. (shows f next s r read_pack lines stream nexts well out).awaited w;
}
