-- A conversation that is a session's: both send the same, and end the same.
use Rattle.std.proofs.Common.{◌≡◌, ◌≢◌, ℕ, Bool, true, false, List, [], ◌++◌, Option, Some, None, Result, Ok, Err, refl, sym, ap, ◌∙◌, subst, append_assoc, inl, inr}
use Rattle.std.specs.Prelude.{is_some}
use Rattle.std.proofs.lemmas.List.{append-nil}
use Rattle.fetch_replies.specs.declared.replies.reply.ReplyError.{ReplyError}
use Rattle.fetch_replies.specs.declared.replies.reply.ReplyError.TheVariants as faults
use Rattle.fetch_replies.specs.declared.replies.reply.ParsedReply.{ParsedReply}
use Rattle.fetch_lines.specs.declared.error.WireError.{WireError}
use Rattle.fetch_lines.specs.declared.error.WireError.TheVariants as wire
use Rattle.fetch_lines.specs.declared.greetings.handshake.Handshake.{Handshake}
use Rattle.fetch_replies.specs.declared.replies.parser.ReplyParser.{ReplyParser}
use Rattle.fetch_lines.specs.declared.requests.records.FetchReply.{FetchReply}
use Rattle.fetch_lines.specs.declared.listings.reference.Ref.{Ref}
use Rattle.fetch_replies.specs.Intakes.{ReplyBuffer, told_with, taking}
use Rattle.fetch_replies.specs.Intakes as intakes
use Rattle.fetch_wire.specs.SessionStates.{SessionState, IsAlike, fed, error_of, after_told, read_one, rests, asks}
use Rattle.fetch_lines.specs.Talks.{Talk, Talks, Receive, Talks-none, Makes-none}
use Rattle.fetch_lines.specs.Written.{lines_text}
use Rattle.fetch_wire.proofs.Conversing.{fed_is}
use Rattle.fetch_wire.proofs.SessionAlike.{stays_alike}
use Rattle.fetch_wire.proofs.SessionPieces.{pieces, stuck}
use Rattle.fetch_conversation.specs.Conversation.{Conversation, sent_in, answer_in, awaits_more, IsDue, AllGave, IsAwaited, beside, Concludes, RefusesWith, IsRefusedBy, Breaks}
use Rattle.fetch_conversation.specs.Drives.{IsWaiting, IsItsTurn, IsFed, with_heard, Finishes, Refuses, Stops}
use Rattle.fetch_conversation.specs.declared.drive.DriveError.{DriveError}
use Rattle.fetch_conversation.specs.declared.drive.DriveError.TheVariants as stops
use Rattle.fetch_conversation.proofs.Due.{all_as}
use Rattle.fetch_conversation.proofs.Driven.{waits_alike, resting, end_is, trouble_at_end, same_outgoing}

-- what is found by what was told
abbrev pub Finding : (X E : Type 0) → Type 0
Finding X E = Option Handshake → Option (List Ref) → Option FetchReply → Result X E

-- How a session is answered to which nothing more comes: by its trouble, by the reply that isn't whole, or by what is found.
abbrev pub answer_by : {X E : Type 0} → (WireError → E) → ℕ → List ℕ → Result X E → Option WireError → Option (Result (ParsedReply × List ℕ) ReplyError) → Result (X × List ℕ) E
answer_by refused bound pending found (Some e) told = Err (refused e)
answer_by refused bound pending found None None = beside pending found
answer_by refused bound pending found None (Some (Ok x)) = beside x.1 found
answer_by refused bound pending found None (Some (Err fault)) = Err (refused (error_of bound fault))

abbrev pub answer_of : {X E : Type 0} → (WireError → E) → Finding X E → SessionState → Result (X × List ℕ) E
answer_of refused finding s = answer_by refused s.intake.bound s.intake.pending (finding s.handshake s.refs s.reply) s.trouble (told_with s.intake [])

-- Whatever the session is fed, the conversation sends the same to one who says that, and is answered the same.
pub record IsTied {X E : Type 0} (refused : WireError → E) (finding : Finding X E) (bound : ℕ) (s : SessionState) (c : Conversation X E) (pending : List ℕ) : Type 0 where
  pub sent : (stream : List ℕ) → lines_text (sent_in bound c (pending ++ stream)) ≡ (fed s stream).outgoing
  pub answered : (stream : List ℕ) → answer_in bound c (pending ++ stream) ≡ answer_of refused finding (fed s stream)
  pub bounded : (stream : List ℕ) → (fed s stream).intake.bound ≡ bound
  pub awaited : (stream : List ℕ) → IsWaiting (fed s stream) → awaits_more bound c (pending ++ stream) ≡ true

none_by : (i : ReplyBuffer) (reading : Option ReplyParser) → i.reading ≡ reading → told_with i [] ≡ None → i.reading ≡ None
none_by i None is none = is
none_by i (Some r) is none = absurd (cc)

pub not_awaiting : (i : ReplyBuffer) → told_with i [] ≡ None → i.reading ≡ None
not_awaiting i none = none_by i i.reading refl none

same_pending : {X E : Type 0} (refused : WireError → E) (bound : ℕ) (a b : List ℕ) (found : Result X E) (trouble : Option WireError) (told : Option (Result (ParsedReply × List ℕ) ReplyError)) → (told ≡ None → a ≡ b)
    → answer_by refused bound a found trouble told ≡ answer_by refused bound b found trouble told
same_pending refused bound a b found (Some e) told h = refl
same_pending refused bound a b found None None h = ap (λ (l : List ℕ). beside l found) (h refl)
same_pending refused bound a b found None (Some (Ok x)) h = refl
same_pending refused bound a b found None (Some (Err fault)) h = refl

alike_answers : {X E : Type 0} (refused : WireError → E) (finding : Finding X E) (s : SessionState) (i : ReplyBuffer) → intakes.IsAlike s.intake i → answer_of refused finding s ≡ answer_of refused finding (record s { intake = i })
alike_answers refused finding s i h =
    ap (λ (n : ℕ). answer_by refused n s.intake.pending (finding s.handshake s.refs s.reply) s.trouble (told_with s.intake [])) h.bound
    ∙ ap (answer_by refused i.bound s.intake.pending (finding s.handshake s.refs s.reply) s.trouble) (h.told [])
    ∙ same_pending refused i.bound s.intake.pending i.pending (finding s.handshake s.refs s.reply) s.trouble (told_with i []) (λ none. ap (λ (j : ReplyBuffer). j.pending) (h.resting (not_awaiting s.intake (h.told [] ∙ none))))

same_answers : {X E : Type 0} (refused : WireError → E) (finding : Finding X E) (a b : SessionState) → IsAlike a b → answer_of refused finding a ≡ answer_of refused finding b
same_answers refused finding a b h = alike_answers refused finding a b.intake h.intake ∙ ap (answer_of refused finding) h.others

-- a session that is alike is that of the same conversation
pub tied_alike : {X E : Type 0} (refused : WireError → E) (finding : Finding X E) (bound : ℕ) (a b : SessionState) (c : Conversation X E) (pending : List ℕ) → IsAlike a b → IsTied refused finding bound b c pending → IsTied refused finding bound a c pending
tied_alike refused finding bound a b c pending h tied = record {
  sent = λ stream. tied.sent stream ∙ sym (same_outgoing (fed a stream) (fed b stream) (stays_alike a b stream h));
  answered = λ stream. tied.answered stream ∙ sym (same_answers refused finding (fed a stream) (fed b stream) (stays_alike a b stream h));
  bounded = λ stream. (stays_alike a b stream h).intake.bound ∙ tied.bounded stream;
  awaited = λ stream w. tied.awaited stream (waits_alike (fed a stream) (fed b stream) (stays_alike a b stream h) w);
}

-- Where it was the session's turn to receive, a receive was due.
due_by : {X E : Type 0} (refused : WireError → E) (finding : Finding X E) (bound : ℕ) (s : SessionState) (c : Conversation X E) (pending : List ℕ) → IsTied refused finding bound s c pending → (r : Receive) → IsItsTurn s r → IsDue bound c pending r
due_by refused finding bound s c pending tied r h = record { heard = h.heard ∙ sym (tied.sent r.given); awaited = tied.awaited r.given h.waits }

abbrev awaited_by : {X E : Type 0} (refused : WireError → E) (finding : Finding X E) (bound : ℕ) (old new : Option Talk) (s : SessionState) (c : Conversation X E) (pending : List ℕ) → IsTied refused finding bound s c pending → IsFed old new s → IsAwaited bound old new pending c
awaited_by refused finding bound old new s c pending tied h = record {
  receives = h.receives;
  made = h.made;
  due = all_as (IsItsTurn s) (IsDue bound c pending) h.receives (due_by refused finding bound s c pending tied) h.turns;
  gave = h.gave;
}

-- no receive was made
abbrev pub awaited_first : {X E : Type 0} (bound : ℕ) (old : Option Talk) (pending : List ℕ) (c : Conversation X E) → IsAwaited bound old old pending c
awaited_first bound old pending c = record { receives = []; made = Makes-none old; due = tt; gave = tt }

-- ---- nothing is awaited, or something is wrong

not_short : (found : Option (Result (ParsedReply × List ℕ) ReplyError)) (place : ℕ) → found ≡ None → found ≡ Some (Err (faults.Short place)) → ⊥
not_short found place none short = absurd (cc)

pub rests_by : (s : SessionState) (more : Bool) → told_with s.intake [] ≡ None → IsWaiting s → more ≡ true
rests_by s more none w = absurd (not_short (told_with s.intake []) w.short.0 none w.short.1)

not_well : (trouble : Option WireError) (e : WireError) → trouble ≡ Some e → trouble ≡ None → ⊥
not_well trouble e some none = absurd (cc)

pub fails_by : (s : SessionState) (more : Bool) (e : WireError) → s.trouble ≡ Some e → IsWaiting s → more ≡ true
fails_by s more e is w = absurd (not_well s.trouble e is w.well)

-- ---- a session that is at rest

pub not_some : {A : Type 0} (x : Option A) → is_some x ≡ false → x ≡ None
not_some None is = refl
not_some (Some a) is = absurd (cc)

nothing_told : (i : ReplyBuffer) (more : List ℕ) → i.reading ≡ None → told_with i more ≡ None
nothing_told i more none = rw none refl

-- it takes bytes alone
pub at_rest : (s : SessionState) (others : List ℕ) → s.trouble ≡ None → s.intake.reading ≡ None → fed s others ≡ record s { intake = taking others s.intake }
at_rest s others well none =
    let t : SessionState = record s { intake = taking others s.intake } in
    fed_is s others s.trouble well ∙ ap (λ (f : Option (Result (ParsedReply × List ℕ) ReplyError)). read_one rests (after_told asks t f)) (nothing_told t.intake [] none) ∙ ap (after_told rests t) (nothing_told t.intake [] none)

-- which isn't read any more
record Rests (answers : Bool) (old new : Option Talk) (s now : SessionState) : Type 0 where
  heard : List ℕ
  said : List ℕ
  passed : Talks answers old new heard said
  fed_so : IsFed old new s
  gave : AllGave said fed_so.receives
  after : (more : List ℕ) → fed s (said ++ more) ≡ record now { outgoing = heard; intake = taking more now.intake }
  well : now.trouble ≡ None
  none : now.intake.reading ≡ None

rests_after : (answers : Bool) (old new : Option Talk) (s now : SessionState) → Finishes answers old new s now → Rests answers old new s now
rests_after answers old new s now h =
    let well = resting now h.idle in
    let g : SessionState = with_heard h.went.heard now in
    let none : now.intake.reading ≡ None = not_some now.intake.reading well.awaited in
    let same : g ≡ fed s h.went.said = ap (λ (i : ReplyBuffer). record g { intake = i }) (h.went.is.intake.resting none) ∙ h.went.is.others in
    let out : h.went.heard ++ now.outgoing ≡ h.went.heard = ap (λ (l : List ℕ). h.went.heard ++ l) well.sent ∙ append-nil h.went.heard in
    record {
      heard = h.went.heard;
      said = h.went.said;
      passed = h.went.passed;
      fed_so = h.went.awaited;
      gave = h.went.gave;
      after = λ more. sym (pieces s h.went.said more s.trouble refl) ∙ ap (λ (t : SessionState). fed t more) (sym same) ∙ at_rest g more well.trouble none
          ∙ ap (λ (l : List ℕ). record now { outgoing = l; intake = taking more now.intake }) out;
      well = well.trouble;
      none = none;
    }

found_by : {X E : Type 0} (refused : WireError → E) (bound : ℕ) (pending : List ℕ) (found : Result X E) (trouble : Option WireError) (told : Option (Result (ParsedReply × List ℕ) ReplyError)) → trouble ≡ None → told ≡ None
    → answer_by refused bound pending found trouble told ≡ beside pending found
found_by refused bound pending found trouble told well none = rw (well, none) refl

rest_answers : {X E : Type 0} (refused : WireError → E) (finding : Finding X E) (bound : ℕ) (s now : SessionState) (c : Conversation X E) (pending said heard more : List ℕ) → IsTied refused finding bound s c pending
    → fed s (said ++ more) ≡ record now { outgoing = heard; intake = taking more now.intake } → now.trouble ≡ None → now.intake.reading ≡ None
    → answer_in bound c (pending ++ (said ++ more)) ≡ beside (now.intake.pending ++ more) (finding now.handshake now.refs now.reply)
rest_answers refused finding bound s now c pending said heard more tied after well none =
    tied.answered (said ++ more) ∙ ap (answer_of refused finding) after
    ∙ found_by refused now.intake.bound (now.intake.pending ++ more) (finding now.handshake now.refs now.reply) now.trouble (told_with (taking more now.intake) []) well (nothing_told (taking more now.intake) [] none)

-- It was held to its end.
pub concluded : {X E : Type 0} (refused : WireError → E) (finding : Finding X E) (answers : Bool) (bound : ℕ) (old new : Option Talk) (s now : SessionState) (c : Conversation X E) (pending : List ℕ) (x : X)
    → IsTied refused finding bound s c pending → Finishes answers old new s now → finding now.handshake now.refs now.reply ≡ Ok x → Concludes answers bound old new pending c x now.intake.pending
concluded refused finding answers bound old new s now c pending x tied h found =
    let r = rests_after answers old new s now h in
    record {
      said = r.said;
      heard = r.heard;
      passed = r.passed;
      needed = awaited_by refused finding bound old new s c pending tied r.fed_so;
      gave = r.gave;
      asked = λ more. tied.sent (r.said ++ more) ∙ ap (λ (t : SessionState). t.outgoing) (r.after more);
      answered = λ more. rest_answers refused finding bound s now c pending r.said r.heard more tied (r.after more) r.well r.none ∙ ap (beside (now.intake.pending ++ more)) found;
    }

-- It was held to its end, which is a refusal.
pub refused_at_end : {X E : Type 0} (refused : WireError → E) (finding : Finding X E) (free stopped : E → Bool) (answers : Bool) (bound : ℕ) (old new : Option Talk) (s now : SessionState) (c : Conversation X E) (pending : List ℕ) (e : E)
    → IsTied refused finding bound s c pending → Finishes answers old new s now → stopped e ≡ false → (free e ≡ false → finding now.handshake now.refs now.reply ≡ Err e) → Breaks free stopped answers bound old new pending c e
refused_at_end refused finding free stopped answers bound old new s now c pending e tied h going found =
    let r = rests_after answers old new s now h in
    let front : lines_text (sent_in bound c (pending ++ (r.said ++ []))) ≡ r.heard = tied.sent (r.said ++ []) ∙ ap (λ (t : SessionState). t.outgoing) (r.after []) in
    record {
      said = r.said;
      heard = r.heard;
      passed = r.passed;
      needed = awaited_by refused finding bound old new s c pending tied r.fed_so;
      front = ([], ap (λ (l : List ℕ). lines_text (sent_in bound c (pending ++ l))) (sym (append-nil r.said)) ∙ front ∙ sym (append-nil r.heard));
      why = λ isnt. inl (λ more. subst (λ (l : List ℕ). RefusesWith bound c l r.heard e) (sym (append_assoc pending r.said more)) (record {
        answer = rest_answers refused finding bound s now c pending r.said r.heard more tied (r.after more) r.well r.none ∙ ap (beside (now.intake.pending ++ more)) (found isnt);
        asked = tied.sent (r.said ++ more) ∙ ap (λ (t : SessionState). t.outgoing) (r.after more);
      }));
      due = λ is. absurd (cc);
    }

-- ---- a session that was stopped

-- how a stop is told: a refusal as it is, unless memory ran out; a yes alone by an error that tells one
abbrev pub IsWord : {E : Type 0} → (E → Bool) → (E → Bool) → (WireError → E) → DriveError → E → Type 0
IsWord free stopped refused (stops.Refused w) e = (free e ≡ false → (w ≢ wire.NoMemory) × (e ≡ refused w)) × (stopped e ≡ false)
IsWord free stopped refused stops.Failed e = (free e ≡ true) × (stopped e ≡ false)
IsWord free stopped refused stops.Interrupted e = free e ≡ true

troubled : {X E : Type 0} (refused : WireError → E) (bound : ℕ) (pending : List ℕ) (found : Result X E) (w : WireError) (trouble : Option WireError) (told : Option (Result (ParsedReply × List ℕ) ReplyError)) → trouble ≡ Some w
    → answer_by refused bound pending found trouble told ≡ Err (refused w)
troubled refused bound pending found w trouble told is = rw is refl

short_by : {X E : Type 0} (refused : WireError → E) (bound : ℕ) (pending : List ℕ) (found : Result X E) (w : WireError) (trouble : Option WireError) (told : Option (Result (ParsedReply × List ℕ) ReplyError)) → trouble ≡ None → trouble_at_end bound trouble told ≡ Some w
    → answer_by refused bound pending found trouble told ≡ Err (refused w)
short_by refused bound pending found w (Some v) told none is = absurd (cc)
short_by refused bound pending found w None None none is = absurd (cc)
short_by refused bound pending found w None (Some (Ok x)) none is = absurd (cc)
short_by refused bound pending found w None (Some (Err fault)) none is = ap (λ (v : WireError). Err (refused v)) (cc)

refuses_by : {X E : Type 0} (refused : WireError → E) (finding : Finding X E) (bound : ℕ) (new : Option Talk) (s : SessionState) (c : Conversation X E) (pending said heard : List ℕ) (w : WireError) → IsTied refused finding bound s c pending
    → heard ≡ (fed s said).outgoing → Refuses new (fed s said) w → IsRefusedBy bound new c (pending ++ said) heard (refused w)
refuses_by refused finding bound new s c pending said heard w tied all (inl trouble) = inl (λ more.
    let f : SessionState = fed s said in
    let stays : fed s (said ++ more) ≡ f = sym (pieces s said more s.trouble refl) ∙ stuck f more w f.trouble trouble in
    subst (λ (l : List ℕ). RefusesWith bound c l heard (refused w)) (sym (append_assoc pending said more)) (record {
      answer = tied.answered (said ++ more) ∙ ap (answer_of refused finding) stays ∙ troubled refused f.intake.bound f.intake.pending (finding f.handshake f.refs f.reply) w f.trouble (told_with f.intake []) trouble;
      asked = tied.sent (said ++ more) ∙ ap (λ (t : SessionState). t.outgoing) stays ∙ sym all;
    }))
refuses_by refused finding bound new s c pending said heard w tied all (inr x) =
    let f : SessionState = fed s said in
    inr (
      x.0,
      record {
        answer = tied.answered said ∙ short_by refused f.intake.bound f.intake.pending (finding f.handshake f.refs f.reply) w f.trouble (told_with f.intake []) x.1 (sym (end_is f) ∙ x.2);
        asked = tied.sent said ∙ sym all;
      },
    )

stop_why : {X E : Type 0} (refused : WireError → E) (finding : Finding X E) (free stopped : E → Bool) (answers : Bool) (bound : ℕ) (old new : Option Talk) (s : SessionState) (c : Conversation X E) (pending : List ℕ) (stop : DriveError) (e : E) → IsTied refused finding bound s c pending
    → (h : Stops answers old new s stop) → IsWord free stopped refused stop e → free e ≡ false → IsRefusedBy bound new c (pending ++ h.said) h.heard e
stop_why refused finding free stopped answers bound old new s c pending (stops.Refused w) e tied h word isnt =
    let is = word.0 isnt in
    let x = h.why is.0 in
    subst (IsRefusedBy bound new c (pending ++ h.said) h.heard) (sym is.1) (refuses_by refused finding bound new s c pending h.said h.heard w tied x.0 x.1)
stop_why refused finding free stopped answers bound old new s c pending stops.Failed e tied h word isnt = let is = word.0 in absurd (cc)
stop_why refused finding free stopped answers bound old new s c pending stops.Interrupted e tied h word isnt = absurd (cc)

stop_due : {X E : Type 0} (refused : WireError → E) (finding : Finding X E) (free stopped : E → Bool) (answers : Bool) (bound : ℕ) (old new : Option Talk) (s : SessionState) (c : Conversation X E) (pending : List ℕ) (stop : DriveError) (e : E) → IsTied refused finding bound s c pending
    → (h : Stops answers old new s stop) → IsWord free stopped refused stop e → stopped e ≡ true → IsDue bound c pending (record { heard = h.heard; given = h.said })
stop_due refused finding free stopped answers bound old new s c pending (stops.Refused w) e tied h word is = let isnt = word.1 in absurd (cc)
stop_due refused finding free stopped answers bound old new s c pending stops.Failed e tied h word is = let isnt = word.1 in absurd (cc)
stop_due refused finding free stopped answers bound old new s c pending stops.Interrupted e tied h word is =
    let due = h.why in due_by refused finding bound s c pending tied (record { heard = h.heard; given = h.said }) (record { heard = due.0; waits = due.1 })

-- It broke off.
pub broken : {X E : Type 0} (refused : WireError → E) (finding : Finding X E) (free stopped : E → Bool) (answers : Bool) (bound : ℕ) (old new : Option Talk) (s : SessionState) (c : Conversation X E) (pending : List ℕ) (stop : DriveError) (e : E) → IsTied refused finding bound s c pending
    → Stops answers old new s stop → IsWord free stopped refused stop e → Breaks free stopped answers bound old new pending c e
broken refused finding free stopped answers bound old new s c pending stop e tied h word = record {
  said = h.said;
  heard = h.heard;
  passed = h.passed;
  needed = awaited_by refused finding bound old new s c pending tied h.awaited;
  front = (h.front.0, tied.sent h.said ∙ h.front.1);
  why = stop_why refused finding free stopped answers bound old new s c pending stop e tied h word;
  due = stop_due refused finding free stopped answers bound old new s c pending stop e tied h word;
}

-- ---- nothing was said

-- nothing was sent, and the refusal is a free one
pub broken_free : {X E : Type 0} (free stopped : E → Bool) (answers : Bool) (bound : ℕ) (old : Option Talk) (pending : List ℕ) (c : Conversation X E) (e : E) → free e ≡ true → stopped e ≡ false → Breaks free stopped answers bound old old pending c e
broken_free free stopped answers bound old pending c e is going = record {
  said = [];
  heard = [];
  passed = Talks-none answers old;
  needed = awaited_first bound old pending c;
  front = (lines_text (sent_in bound c (pending ++ [])), refl);
  why = λ isnt. absurd (cc);
  due = λ told. absurd (cc);
}

-- nothing was sent, and the conversation is a refusal
pub broken_first : {X E : Type 0} (free stopped : E → Bool) (answers : Bool) (bound : ℕ) (old : Option Talk) (pending : List ℕ) (c : Conversation X E) (e : E) → stopped e ≡ false → (free e ≡ false → (stream : List ℕ) → RefusesWith bound c stream [] e) → Breaks free stopped answers bound old old pending c e
broken_first free stopped answers bound old pending c e going is = record {
  said = [];
  heard = [];
  passed = Talks-none answers old;
  needed = awaited_first bound old pending c;
  front = (lines_text (sent_in bound c (pending ++ [])), refl);
  why = λ isnt. inl (λ more. is isnt ((pending ++ []) ++ more));
  due = λ told. absurd (cc);
}

-- nothing was sent, and the conversation is an answer
pub concluded_first : {X E : Type 0} (answers : Bool) (bound : ℕ) (old : Option Talk) (pending : List ℕ) (c : Conversation X E) (x : X) → ((stream : List ℕ) → answer_in bound c stream ≡ Ok (x, stream)) → ((stream : List ℕ) → lines_text (sent_in bound c stream) ≡ []) → Concludes answers bound old old pending c x pending
concluded_first answers bound old pending c x is nothing = record {
  said = [];
  heard = [];
  passed = Talks-none answers old;
  needed = awaited_first bound old pending c;
  gave = tt;
  asked = λ more. nothing (pending ++ more);
  answered = λ more. is (pending ++ more);
}
