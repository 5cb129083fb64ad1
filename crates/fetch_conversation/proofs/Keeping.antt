-- What a session keeps that was driven to its end: greeting and references of an query, and the reply to a request.
use Rattle.std.proofs.Common.{◌≡◌, ℕ, Bool, true, false, not, List, [], ◌++◌, Option, Some, None, Result, Ok, Err, refl, sym, ap, ◌∙◌, arith}
use Rattle.std.specs.Prelude.{is_some}
use Rattle.fetch_base.specs.declared.id.ObjectId.{ObjectId}
use Rattle.fetch_replies.specs.declared.replies.reply.ReplyContext.{ReplyContext}
use Rattle.fetch_replies.specs.declared.replies.reply.ReplyKind.TheVariants as awaits
use Rattle.fetch_replies.specs.declared.replies.reply.ReplyError.{ReplyError}
use Rattle.fetch_replies.specs.declared.replies.reply.ReplyError.TheVariants as faults
use Rattle.fetch_replies.specs.declared.replies.reply.ParsedReply.{ParsedReply}
use Rattle.fetch_replies.specs.declared.replies.reply.ParsedReply.TheVariants as told
use Rattle.fetch_lines.specs.declared.greetings.handshake.Handshake.{Handshake}
use Rattle.fetch_lines.specs.declared.lines.line.Line.{Line}
use Rattle.fetch_replies.specs.declared.replies.parser.Part.TheVariants as parts
use Rattle.fetch_replies.specs.declared.replies.parser.ReplyParser.TheVariants as reading
use Rattle.fetch_wire.specs.declared.session.turn.Turn.TheVariants as turns
use Rattle.fetch_replies.specs.Awaited.{told_at, told_from}
use Rattle.fetch_lines.specs.FetchRecords.{no_reply}
use Rattle.fetch_lines.specs.Greetings.{offers}
use Rattle.fetch_replies.specs.Intakes.{ReplyBuffer, told_with, resting}
use Rattle.fetch_lines.specs.Requests.{listing_lines}
use Rattle.fetch_wire.specs.SessionStates.{SessionState, IsAlike, fed, opened, requested, turn_of, after_told, read_one, rests, asks, listing_by, listing_feature}
use Rattle.fetch_wire.specs.SessionStates as session
use Rattle.fetch_lines.specs.Talks.{Talk}
use Rattle.fetch_lines.specs.Written.{first_too_long}
use Rattle.fetch_wire.proofs.Lessening.{greeted_told}
use Rattle.fetch_wire.proofs.SessionAlike.{stays_alike}
use Rattle.fetch_wire.proofs.StepKeeps.{OfTold}
use Rattle.fetch_replies.proofs.Staying.{IsBefore}
use Rattle.fetch_conversation.specs.Conversing.{IsAsked}
use Rattle.fetch_conversation.specs.Drives.{Finishes, with_heard}
use Rattle.fetch_conversation.specs.Exchange.{FetchArgumentsValue}
use Rattle.fetch_conversation.specs.Listing.{IsOpened, first_of}
use Rattle.fetch_conversation.specs.ListStage.{LsRefsValue, prefixes_asked}
use Rattle.fetch_conversation.proofs.AwaitedTold.{TellsRefs, TellsReply, listing_tells, reply_tells}
use Rattle.fetch_conversation.proofs.Driven.{resting as well_at, same_trouble}
use Rattle.fetch_conversation.proofs.Replied.{fed_requested, asking_state, reply_state}
use Rattle.fetch_conversation.proofs.Tied.{not_some}

-- nothing is wrong, and nothing is awaited
pub record Rests (s : SessionState) : Type 0 where
  pub well : s.trouble ≡ None
  pub idle : is_some s.intake.reading ≡ false

rests_alike : (a b : SessionState) → IsAlike a b → Rests a → Rests b
rests_alike a b h r = record {
  well = sym (same_trouble a b h) ∙ r.well;
  idle = sym (ap (λ (i : ReplyBuffer). is_some i.reading) (h.intake.resting (not_some a.intake.reading r.idle))) ∙ r.idle;
}

rests_as : (a b : SessionState) → a ≡ b → Rests a → Rests b
rests_as a b is r = record { well = ap (λ (s : SessionState). s.trouble) (sym is) ∙ r.well; idle = ap (λ (s : SessionState). is_some s.intake.reading) (sym is) ∙ r.idle }

rested : (answers : Bool) (old new : Option Talk) (s now : SessionState) → (f : Finishes answers old new s now) → Rests (fed s f.went.said)
rested answers old new s now f =
    let w = well_at now f.idle in
    rests_alike (with_heard f.went.heard now) (fed s f.went.said) f.went.is (record { well = w.trouble; idle = w.awaited })

-- ---- the reply to a request

reply_by : (s : SessionState) (found : Result (ParsedReply × List ℕ) ReplyError) → TellsReply found → is_some s.intake.reading ≡ true → Rests (after_told rests s (Some found)) → is_some (after_told rests s (Some found)).reply ≡ true
reply_by s (Ok (told.Greeting h, left)) tells awaits_one r = absurd tells
reply_by s (Ok (told.Advertisement h refs, left)) tells awaits_one r = absurd tells
reply_by s (Ok (told.Listing refs, left)) tells awaits_one r = absurd tells
reply_by s (Ok (told.Reply reply, left)) tells awaits_one r = refl
reply_by s (Err (faults.Short place)) tells awaits_one r = absurd (let e : true ≡ false = sym awaits_one ∙ r.idle in cc)
reply_by s (Err (faults.Broken place)) tells awaits_one r = absurd (let e = r.well in cc)
reply_by s (Err faults.TooLong) tells awaits_one r = absurd (let e = r.well in cc)
reply_by s (Err (faults.Said text)) tells awaits_one r = absurd (let e = r.well in cc)

-- the reply is there
pub finished_reply : (answers : Bool) (old new : Option Talk) (t : FetchArgumentsValue) (haves : List ObjectId) (done : Bool) (before now last : SessionState) → turn_of before ≡ turns.Idle → IsAsked t haves done before now → Finishes answers old new now last
    → is_some last.reply ≡ true
finished_reply answers old new t haves done before now last idle a f =
    let said : List ℕ = f.went.said in
    let r : SessionState = requested before a.request (not t.dry_run) in
    let asked : ReplyContext = session.asked_by before a.request (not t.dry_run) in
    let bytes : List ℕ = before.intake.pending ++ said in
    let awaiting : SessionState = reply_state (asking_state before a.request) before.intake.bound asked bytes in
    let alike : IsAlike (fed now said) (fed r said) = stays_alike now r said a.is in
    let is : fed r said ≡ read_one rests awaiting = fed_requested before a.request (not t.dry_run) said (well_at before idle).trouble in
    let at_rest : Rests (read_one rests awaiting) = rests_as (fed r said) (read_one rests awaiting) is (rests_alike (fed now said) (fed r said) alike (rested answers old new now last f)) in
    ap (λ (s : SessionState). is_some s.reply) f.went.is.others ∙ ap (λ (s : SessionState). is_some s.reply) alike.others ∙ ap (λ (s : SessionState). is_some s.reply) is
    ∙ reply_by awaiting (told_from before.intake.bound (reading.Reply asked parts.Beginning no_reply) 0 (bytes ++ [])) (reply_tells before.intake.bound asked (bytes ++ [])) refl at_rest

-- ---- greeting and references

-- both are there
pub record IsListed (s : SessionState) : Type 0 where
  pub handshake : is_some s.handshake ≡ true
  pub refs : is_some s.refs ≡ true

listing_by_told : (s : SessionState) (found : Result (ParsedReply × List ℕ) ReplyError) → TellsRefs found → is_some s.handshake ≡ true → is_some s.intake.reading ≡ true → Rests (after_told rests s (Some found)) → IsListed (after_told rests s (Some found))
listing_by_told s (Ok (told.Greeting h, left)) tells greeted awaits_one r = absurd tells
listing_by_told s (Ok (told.Advertisement h refs, left)) tells greeted awaits_one r = absurd tells
listing_by_told s (Ok (told.Reply reply, left)) tells greeted awaits_one r = absurd tells
listing_by_told s (Ok (told.Listing refs, left)) tells greeted awaits_one r = record { handshake = greeted; refs = refl }
listing_by_told s (Err (faults.Short place)) tells greeted awaits_one r = absurd (let e : true ≡ false = sym awaits_one ∙ r.idle in cc)
listing_by_told s (Err (faults.Broken place)) tells greeted awaits_one r = absurd (let e = r.well in cc)
listing_by_told s (Err faults.TooLong) tells greeted awaits_one r = absurd (let e = r.well in cc)
listing_by_told s (Err (faults.Said text)) tells greeted awaits_one r = absurd (let e = r.well in cc)

offered_listing : (s : SessionState) (h : Handshake) (lines : List Line) (long : Option ℕ) (offered : Bool) → is_some s.handshake ≡ true → Rests (read_one rests (listing_by long offered h lines s)) → IsListed (read_one rests (listing_by long offered h lines s))
offered_listing s h lines (Some n) offered greeted r = absurd (let e = r.well in cc)
offered_listing s h lines None false greeted r = absurd (let e = r.well in cc)
offered_listing s h lines None true greeted r =
    let asked : SessionState = listing_by None true h lines s in
    listing_by_told asked (told_from s.intake.bound (reading.Listing h.object_hash []) 0 (s.intake.pending ++ [])) (listing_tells s.intake.bound h.object_hash (s.intake.pending ++ [])) greeted refl r

greeting_by_told : (s : SessionState) (found : Result (ParsedReply × List ℕ) ReplyError) → told_with s.intake [] ≡ Some found → OfTold (IsBefore 1) found → is_some s.intake.reading ≡ true → Rests (read_one rests (after_told asks s (Some found)))
    → IsListed (read_one rests (after_told asks s (Some found)))
greeting_by_told s (Ok (told.Greeting h, left)) is tells awaits_one r =
    let lines : List Line = listing_lines h s.agent s.prefixes in
    offered_listing (record s { intake = resting left s.intake; handshake = Some h }) h lines (first_too_long lines) (offers listing_feature h.capabilities) refl r
greeting_by_told s (Ok (told.Advertisement h refs, left)) is tells awaits_one r = record { handshake = refl; refs = refl }
greeting_by_told s (Ok (told.Listing refs, left)) is tells awaits_one r = absurd (let none : ◌≡◌ {A = ℕ} 1 0 = tells in omega arith)
greeting_by_told s (Ok (told.Reply reply, left)) is tells awaits_one r = absurd (let none : ◌≡◌ {A = ℕ} 1 0 = tells in omega arith)
greeting_by_told s (Err (faults.Short place)) is tells awaits_one r =
    absurd (let e : true ≡ false = sym awaits_one ∙ ap (λ (f : Option (Result (ParsedReply × List ℕ) ReplyError)). is_some (after_told rests s f).intake.reading) (sym is) ∙ r.idle in cc)
greeting_by_told s (Err (faults.Broken place)) is tells awaits_one r = absurd (let e = r.well in cc)
greeting_by_told s (Err faults.TooLong) is tells awaits_one r = absurd (let e = r.well in cc)
greeting_by_told s (Err (faults.Said text)) is tells awaits_one r = absurd (let e = r.well in cc)

-- greeting and references are there
pub finished_listed : (answers : Bool) (old new : Option Talk) (q : LsRefsValue) (s now : SessionState) → IsOpened q s → Finishes answers old new s now → IsListed now
finished_listed answers old new q s now h f =
    let said : List ℕ = f.went.said in
    let bound : ℕ = q.options.max_reply_bytes in
    let first : SessionState = opened bound q.agent (prefixes_asked q) (first_of q) in
    let greeting : SessionState = record first { intake = record { bound = bound; place = 0; pending = [] ++ said; reading = Some reading.Greeting } } in
    let found : Result (ParsedReply × List ℕ) ReplyError = told_at bound awaits.Greeting (said ++ []) in
    let is : fed s said ≡ read_one rests (after_told asks greeting (Some found)) = ap (λ (t : SessionState). fed t said) h.is in
    let all : IsListed (read_one rests (after_told asks greeting (Some found))) =
    greeting_by_told greeting found refl (greeted_told bound (said ++ [])) refl (rests_as (fed s said) (read_one rests (after_told asks greeting (Some found))) is (rested answers old new s now f)) in
    record {
      handshake = ap (λ (t : SessionState). is_some t.handshake) f.went.is.others ∙ ap (λ (t : SessionState). is_some t.handshake) is ∙ all.handshake;
      refs = ap (λ (t : SessionState). is_some t.refs) f.went.is.others ∙ ap (λ (t : SessionState). is_some t.refs) is ∙ all.refs;
    }
