-- A session goes on, step by step.
use Rattle.std.proofs.Common.{◌≡◌, ◌≢◌, ◌<◌, ℕ, Bool, true, false, List, [], ◌∷◌, ◌++◌, length, Option, Some, None, Result, Ok, Err, refl, sym, ap, ◌∙◌, subst, append_assoc, inl, inr}
use Rattle.std.specs.Prelude.{is_some, map, ◌⊎◌, ◌||◌, ◌==◌}
use Rattle.std.specs.List.{AllByRecursion}
use Rattle.std.proofs.lemmas.Bool.{eqb-true}
use Rattle.std.proofs.lemmas.List.{append-nil, nil_from_length}
use Rattle.fetch_replies.specs.declared.replies.reply.ReplyError.{ReplyError}
use Rattle.fetch_replies.specs.declared.replies.reply.ReplyError.TheVariants as faults
use Rattle.fetch_replies.specs.declared.replies.reply.ParsedReply.{ParsedReply}
use Rattle.fetch_replies.specs.declared.replies.reply.ParsedReply.TheVariants as told
use Rattle.fetch_lines.specs.declared.error.WireError.{WireError}
use Rattle.fetch_lines.specs.declared.error.WireError.TheVariants as wire
use Rattle.fetch_lines.specs.declared.greetings.handshake.Handshake.{Handshake}
use Rattle.fetch_lines.specs.declared.lines.line.Line.{Line}
use Rattle.fetch_wire.specs.declared.session.turn.Turn.TheVariants as turns
use Rattle.fetch_lines.specs.Greetings.{offers}
use Rattle.fetch_replies.specs.Intakes.{ReplyBuffer, told_with, taking}
use Rattle.fetch_replies.specs.Intakes as intakes
use Rattle.fetch_lines.specs.Requests.{listing_lines}
use Rattle.fetch_base.specs.Answers.{RefusesUnless}
use Rattle.fetch_wire.specs.SessionStates.{SessionState, IsAlike, fed, ended, after_end, error_of, refusal_of, if_told, is_all_sent, turn_of, turn_by, IsAwaiting, is_memory, after_told, rests, asks, listing_by, listing_feature}
use Rattle.fetch_lines.specs.Talks.{Talk, Talks, Receive, Makes, behind, at_once, IsDrained, IsFront, Talks-then, Talks-none, Talks-stay, Makes-none, Makes-then}
use Rattle.fetch_lines.specs.Written.{first_too_long}
use Rattle.fetch_wire.proofs.Conversing.{same, fed_is}
use Rattle.fetch_wire.proofs.SessionAlike.{stays_alike, alike_then}
use Rattle.fetch_wire.proofs.SessionPieces.{pieces, stuck}
use Rattle.fetch_conversation.specs.Drives.{IsDrivable, IsWaiting, IsItsTurn, IsFed, with_heard, GoesOn, Finishes, Refuses, Explains, Stops, IsUnsent, Takes, made_by}
use Rattle.fetch_conversation.specs.declared.drive.DriveError.{DriveError}
use Rattle.fetch_conversation.specs.declared.drive.DriveError.TheVariants as stops
use Rattle.fetch_conversation.specs.Conversation.{AllButLastGave, AllGave}
use Rattle.fetch_conversation.proofs.Due.{all_both, gave_then, all_gave_then}
use Rattle.fetch_conversation.proofs.Sending.{heard_stays}

-- ---- sessions that are alike

alike_heard : (heard : List ℕ) (a b : SessionState) → IsAlike a b → IsAlike (with_heard heard a) (with_heard heard b)
alike_heard heard a b h = record {
  intake = h.intake;
  others = ap (with_heard heard) h.others;
}

pub same_outgoing : (a b : SessionState) → IsAlike a b → a.outgoing ≡ b.outgoing
same_outgoing a b h = ap (λ (s : SessionState). s.outgoing) h.others

pub same_trouble : (a b : SessionState) → IsAlike a b → a.trouble ≡ b.trouble
same_trouble a b h = ap (λ (s : SessionState). s.trouble) h.others

same_refused : (a b : SessionState) → IsAlike a b → a.refused ≡ b.refused
same_refused a b h = ap (λ (s : SessionState). s.refused) h.others

-- the trouble at the end
abbrev pub trouble_at_end : ℕ → Option WireError → Option (Result (ParsedReply × List ℕ) ReplyError) → Option WireError
trouble_at_end bound (Some e) found = Some e
trouble_at_end bound None None = None
trouble_at_end bound None (Some (Ok x)) = None
trouble_at_end bound None (Some (Err fault)) = Some (error_of bound fault)

end_by : (s : SessionState) (trouble : Option WireError) (found : Option (Result (ParsedReply × List ℕ) ReplyError)) → s.trouble ≡ trouble → (after_end s trouble found).trouble ≡ trouble_at_end s.intake.bound trouble found
end_by s (Some e) found is = is
end_by s None None is = is
end_by s None (Some (Ok x)) is = is
end_by s None (Some (Err fault)) is = refl

pub end_is : (s : SessionState) → (ended s).trouble ≡ trouble_at_end s.intake.bound s.trouble (told_with s.intake [])
end_is s = end_by s s.trouble (told_with s.intake []) refl

same_end : (a b : SessionState) → IsAlike a b → (ended a).trouble ≡ (ended b).trouble
same_end a b h =
    end_is a ∙ ap (λ (n : ℕ). trouble_at_end n a.trouble (told_with a.intake [])) h.intake.bound
    ∙ ap (λ (t : Option WireError). trouble_at_end b.intake.bound t (told_with a.intake [])) (same_trouble a b h)
    ∙ ap (trouble_at_end b.intake.bound b.trouble) (h.intake.told []) ∙ sym (end_is b)

same_refusal : (now : Option Talk) (a b : SessionState) (e : WireError) → IsAlike a b → Refuses now a e → Refuses now b e
same_refusal now a b e h (inl is) = inl (sym (same_trouble a b h) ∙ is)
same_refusal now a b e h (inr x) = inr (x.0, sym (same_trouble a b h) ∙ x.1, sym (same_end a b h) ∙ x.2)

-- ---- what stays

pub told_refused : (s : SessionState) (found : Option (Result (ParsedReply × List ℕ) ReplyError)) → (after_told rests s found).refused ≡ s.refused
told_refused s None = refl
told_refused s (Some (Ok (told.Greeting h, rest))) = refl
told_refused s (Some (Ok (told.Advertisement h refs, rest))) = refl
told_refused s (Some (Ok (told.Listing refs, rest))) = refl
told_refused s (Some (Ok (told.Reply reply, rest))) = refl
told_refused s (Some (Err (faults.Short place))) = refl
told_refused s (Some (Err (faults.Broken place))) = refl
told_refused s (Some (Err faults.TooLong)) = refl
told_refused s (Some (Err (faults.Said text))) = refl

listing_refused : (s : SessionState) (h : Handshake) (lines : List Line) (long : Option ℕ) (offered : Bool) → (listing_by long offered h lines s).refused ≡ s.refused
listing_refused s h lines (Some n) offered = refl
listing_refused s h lines None false = refl
listing_refused s h lines None true = refl

asked_refused : (s : SessionState) (found : Option (Result (ParsedReply × List ℕ) ReplyError)) → (after_told asks s found).refused ≡ s.refused
asked_refused s None = refl
asked_refused s (Some (Ok (told.Greeting h, rest))) =
    let lines = listing_lines h s.agent s.prefixes in
    listing_refused (record s { intake = intakes.resting rest s.intake; handshake = Some h }) h lines (first_too_long lines) (offers listing_feature h.capabilities)
asked_refused s (Some (Ok (told.Advertisement h refs, rest))) = refl
asked_refused s (Some (Ok (told.Listing refs, rest))) = refl
asked_refused s (Some (Ok (told.Reply reply, rest))) = refl
asked_refused s (Some (Err (faults.Short place))) = refl
asked_refused s (Some (Err (faults.Broken place))) = refl
asked_refused s (Some (Err faults.TooLong)) = refl
asked_refused s (Some (Err (faults.Said text))) = refl

refused_by : (s : SessionState) (piece : List ℕ) (trouble : Option WireError) → s.trouble ≡ trouble → (fed s piece).refused ≡ s.refused
refused_by s piece (Some e) is = ap (λ (t : SessionState). t.refused) (stuck s piece e s.trouble is)
refused_by s piece None well =
    let taken = record s { intake = taking piece s.intake } in
    let found = told_with taken.intake [] in
    let asked = after_told asks taken found in
    ap (λ (t : SessionState). t.refused) (fed_is s piece s.trouble well) ∙ told_refused asked (told_with asked.intake []) ∙ asked_refused taken found

-- whether a refusal was answered
pub fed_refused : (s : SessionState) (piece : List ℕ) → (fed s piece).refused ≡ s.refused
fed_refused s piece = refused_by s piece s.trouble refl

pub taken_refused : (s now : SessionState) (piece : List ℕ) → IsAlike now (fed s piece) → now.refused ≡ s.refused
taken_refused s now piece h = same_refused now (fed s piece) h ∙ fed_refused s piece

-- ---- what is awaited

pub waits_alike : (a b : SessionState) → IsAlike a b → IsWaiting a → IsWaiting b
waits_alike a b h w = record { well = sym (same_trouble a b h) ∙ w.well; short = (w.short.0, sym (h.intake.told []) ∙ w.short.1) }

-- what is to be sent doesn't matter
waits_behind : (heard : List ℕ) (a b : SessionState) → IsAlike (with_heard heard a) b → IsWaiting a → IsWaiting b
waits_behind heard a b h w = waits_alike (with_heard heard a) b h (record { well = w.well; short = w.short })

-- ---- receives

-- none was made
abbrev fed_none : (old : Option Talk) (s : SessionState) → IsFed old old s
fed_none old s = record { receives = []; made = Makes-none old; turns = tt; gave = tt }

-- these more were made
abbrev fed_then : (answers : Bool) (old mid new : Option Talk) (s : SessionState) (heard said : List ℕ) (receives : List Receive) → Talks answers old mid heard said → (h : IsFed old mid s) → AllGave said h.receives → Makes mid new receives
    → AllByRecursion (IsItsTurn s) (map (behind heard said) receives) → AllButLastGave receives → IsFed old new s
fed_then answers old mid new s heard said receives talk h all made turns gave = record {
  receives = h.receives ++ map (behind heard said) receives;
  made = Makes-then answers old mid new heard said h.receives receives talk h.made made;
  turns = all_both (IsItsTurn s) h.receives (map (behind heard said) receives) h.turns turns;
  gave = gave_then heard said h.receives receives h.gave all gave;
}

-- none more
abbrev fed_still : (answers : Bool) (old mid new : Option Talk) (s now : SessionState) → GoesOn answers old mid s now → Makes mid new [] → IsFed old new s
fed_still answers old mid new s now h made = fed_then answers old mid new s h.heard h.said [] h.passed h.awaited h.gave made tt tt

-- one more, where all was sent and a reply is awaited
abbrev fed_more : (answers : Bool) (old mid new : Option Talk) (s now : SessionState) → GoesOn answers old mid s now → now.outgoing ≡ [] → IsWaiting now → Makes mid new (at_once ∷ []) → IsFed old new s
fed_more answers old mid new s now h sent waits made =
    let heard : h.heard ++ [] ≡ (fed s h.said).outgoing = ap (λ (l : List ℕ). h.heard ++ l) (sym sent) ∙ same_outgoing (with_heard h.heard now) (fed s h.said) h.is in
    let turn : IsItsTurn s (behind h.heard h.said at_once) = subst (λ (l : List ℕ). IsItsTurn s (record { heard = h.heard ++ []; given = l })) (sym (append-nil h.said)) (record { heard = heard; waits = waits_behind h.heard now (fed s h.said) h.is waits }) in
    fed_then answers old mid new s h.heard h.said (at_once ∷ []) h.passed h.awaited h.gave made (turn, tt) tt

-- and it gave these bytes
gave_one : (answers : Bool) (old mid : Option Talk) (s now : SessionState) (piece : List ℕ) → (h : GoesOn answers old mid s now) → 0 < length piece → AllGave (h.said ++ piece) (h.awaited.receives ++ map (behind h.heard h.said) (at_once ∷ []))
gave_one answers old mid s now piece h some =
    all_gave_then h.heard h.said piece h.awaited.receives (at_once ∷ []) h.gave (some, tt)

-- ---- steps

pub goes_none : (answers : Bool) (old : Option Talk) (s : SessionState) → IsDrivable s → GoesOn answers old old s s
goes_none answers old s h = record {
  heard = [];
  said = [];
  passed = Talks-none answers old;
  awaited = fed_none old s;
  gave = tt;
  is = h.read;
}

-- what was to be sent was sent
pub goes_sent : (answers : Bool) (old mid new : Option Talk) (s now : SessionState) → GoesOn answers old mid s now → Talks answers mid new now.outgoing [] → Makes mid new [] → GoesOn answers old new s (record now { outgoing = [] })
goes_sent answers old mid new s now h talk made = record {
  heard = h.heard ++ now.outgoing;
  said = h.said;
  passed = subst (Talks answers old new (h.heard ++ now.outgoing)) (append-nil h.said) (Talks-then answers old mid new h.heard h.said now.outgoing [] h.passed talk);
  awaited = fed_still answers old mid new s now h made;
  gave = all_both (λ (r : Receive). length r.given < length h.said) h.awaited.receives [] h.gave tt;
  is = subst (λ (l : List ℕ). IsAlike (record now { outgoing = l }) (fed s h.said)) (sym (append-nil (h.heard ++ now.outgoing))) h.is;
}

heard_fed : (s now next : SessionState) (heard said piece : List ℕ) → IsAlike (with_heard heard now) (fed s said) → IsAlike next (fed now piece) → IsAlike (with_heard heard next) (fed s (said ++ piece))
heard_fed s now next heard said piece h is =
    let first : IsAlike (with_heard heard next) (fed (with_heard heard now) piece) = subst (λ (x : SessionState). IsAlike (with_heard heard next) x) (sym (heard_stays now heard piece)) (alike_heard heard next (fed now piece) is) in
    let second : IsAlike (fed (with_heard heard now) piece) (fed (fed s said) piece) = stays_alike (with_heard heard now) (fed s said) piece h in
    subst (λ (x : SessionState). IsAlike (with_heard heard next) x) (pieces s said piece s.trouble refl) (alike_then (with_heard heard next) (fed (with_heard heard now) piece) (fed (fed s said) piece) first second)

-- a piece was fed
goes_fed : (answers : Bool) (old mid new : Option Talk) (s now next : SessionState) (piece : List ℕ) → (h : GoesOn answers old mid s now) → (awaited : IsFed old new s) → AllGave (h.said ++ piece) awaited.receives → Talks false mid new [] piece → IsAlike next (fed now piece)
    → GoesOn answers old new s next
goes_fed answers old mid new s now next piece h awaited gave talk is = record {
  heard = h.heard;
  said = h.said ++ piece;
  passed = subst (λ (l : List ℕ). Talks answers old new l (h.said ++ piece)) (append-nil h.heard) (Talks-then answers old mid new h.heard h.said [] piece h.passed (Talks-stay answers mid new [] piece talk));
  awaited = awaited;
  gave = gave;
  is = heard_fed s now next h.heard h.said piece h.is is;
}

-- ---- stops

unsent_explains : (now : Option Talk) (heard : List ℕ) (s : SessionState) (e : DriveError) → IsUnsent e → Explains now heard s e
unsent_explains now heard s (stops.Refused w) is = λ isnt. absurd (isnt is)
unsent_explains now heard s stops.Failed is = tt
unsent_explains now heard s stops.Interrupted is = absurd is

-- a prefix of what was to be sent was heard
pub stops_sending : (answers : Bool) (old mid new : Option Talk) (s now : SessionState) (front : List ℕ) (e : DriveError) → GoesOn answers old mid s now → IsFront front now.outgoing → Talks answers mid new front [] → Makes mid new [] → IsUnsent e → Stops answers old new s e
stops_sending answers old mid new s now front e h is talk made free = record {
  heard = h.heard ++ front;
  said = h.said;
  passed = subst (Talks answers old new (h.heard ++ front)) (append-nil h.said) (Talks-then answers old mid new h.heard h.said front [] h.passed talk);
  awaited = fed_still answers old mid new s now h made;
  front = (is.0, sym (same_outgoing (with_heard h.heard now) (fed s h.said) h.is) ∙ ap (λ (l : List ℕ). h.heard ++ l) is.1 ∙ sym (append_assoc h.heard front is.0));
  why = unsent_explains new (h.heard ++ front) (fed s h.said) e free;
}

behind_refuses : (now : Option Talk) (heard : List ℕ) (a : SessionState) (e : WireError) → Refuses now a e → Refuses now (with_heard heard a) e
behind_refuses now heard a e (inl is) = inl is
behind_refuses now heard a e (inr x) = inr (x.0, x.1, end_is (with_heard heard a) ∙ sym (end_is a) ∙ x.2)

explains_behind : (now : Option Talk) (heard : List ℕ) (a b : SessionState) (e : DriveError) → IsAlike (with_heard heard a) b → Explains now [] a e → Explains now heard b e
explains_behind now heard a b (stops.Refused w) h why = λ isnt.
    let x = why isnt in
    (sym (append-nil heard) ∙ ap (λ (l : List ℕ). heard ++ l) x.0 ∙ same_outgoing (with_heard heard a) b h, same_refusal now (with_heard heard a) b w h (behind_refuses now heard a w x.1))
explains_behind now heard a b stops.Failed h why = tt
explains_behind now heard a b stops.Interrupted h why = (sym (append-nil heard) ∙ ap (λ (l : List ℕ). heard ++ l) why.0 ∙ same_outgoing (with_heard heard a) b h, waits_behind heard a b h why.1)

stops_at : (answers : Bool) (old new : Option Talk) (s a : SessionState) (heard said : List ℕ) (e : DriveError) → Talks answers old new heard said → IsFed old new s → IsAlike (with_heard heard a) (fed s said) → Explains new [] a e → Stops answers old new s e
stops_at answers old new s a heard said e talk awaited h why = record {
  heard = heard;
  said = said;
  passed = talk;
  awaited = awaited;
  front = (a.outgoing, sym (same_outgoing (with_heard heard a) (fed s said) h));
  why = explains_behind new heard a (fed s said) e h why;
}

stops_said : (answers : Bool) (old mid new : Option Talk) (s now : SessionState) (piece : List ℕ) (e : DriveError) → GoesOn answers old mid s now → IsFed old new s → Talks false mid new [] piece → (Explains new [] (fed now piece) e ⊎ ((piece ≡ []) × Explains new [] now e)) → Stops answers old new s e
stops_said answers old mid new s now piece e h awaited talk (inl why) =
    let passed : Talks answers old new h.heard (h.said ++ piece) = subst (λ (l : List ℕ). Talks answers old new l (h.said ++ piece)) (append-nil h.heard) (Talks-then answers old mid new h.heard h.said [] piece h.passed (Talks-stay answers mid new [] piece talk)) in
    stops_at answers old new s (fed now piece) h.heard (h.said ++ piece) e passed awaited (heard_fed s now (fed now piece) h.heard h.said piece h.is (same (fed now piece))) why
stops_said answers old mid new s now piece e h awaited talk (inr x) =
    let passed : Talks answers old new (h.heard ++ []) (h.said ++ piece) = Talks-then answers old mid new h.heard h.said [] piece h.passed (Talks-stay answers mid new [] piece talk) in
    let same_said : h.said ++ piece ≡ h.said = ap (λ (l : List ℕ). h.said ++ l) x.0 ∙ append-nil h.said in
    stops_at answers old new s now h.heard h.said e (subst (λ (l : List ℕ). Talks answers old new l h.said) (append-nil h.heard) (subst (Talks answers old new (h.heard ++ [])) same_said passed)) awaited h.is x.1

-- what came is refused, or a receive is
stops_receiving : (T : Type 0) (answers : Bool) (old mid new : Option Talk) (s now next : SessionState) (e : DriveError) → GoesOn answers old mid s now → IsFed old new s → Takes {T = T} mid new now next (Err e) → Stops answers old new s e
stops_receiving T answers old mid new s now next e h awaited x = stops_said answers old mid new s now x.0 e h awaited x.1 x.2

-- ---- turns

no_bytes : (bytes : List ℕ) → length bytes == 0 ≡ true → bytes ≡ []
no_bytes bytes is = nil_from_length bytes (eqb-true (length bytes) 0 is)

-- a refusal that is answered, where none was answered before
record Stands (s : SessionState) (e : WireError) : Type 0 where
  sent : s.outgoing ≡ []
  trouble : s.trouble ≡ Some e

stands_by : (s : SessionState) (e : WireError) (refused all_sent : Bool) → s.refused ≡ refused → is_all_sent s ≡ all_sent → refused ≡ false → if_told (refused || all_sent) s.trouble ≡ Some e → Stands s e
stands_by s e true all_sent is sent isnt told = absurd (cc)
stands_by s e false false is sent isnt told = absurd (cc)
stands_by s e false true is sent isnt told = record { sent = no_bytes s.outgoing sent; trouble = told }

stands : (s : SessionState) (e : WireError) → s.refused ≡ false → refusal_of s ≡ Some e → Stands s e
stands s e isnt told = stands_by s e s.refused (is_all_sent s) refl refl isnt told

failed_by : (refusal : Option WireError) (all_sent awaits : Bool) → turn_by refusal all_sent awaits ≡ turns.Failed → (e : WireError) × (refusal ≡ Some e)
failed_by (Some e) all_sent awaits is = (e, refl)
failed_by None false awaits is = absurd (cc)
failed_by None true true is = absurd (cc)
failed_by None true false is = absurd (cc)

-- what holds where bytes are awaited, or nothing is
pub record IsWell (s : SessionState) (awaits : Bool) : Type 0 where
  pub sent : s.outgoing ≡ []
  pub trouble : s.trouble ≡ None
  pub awaited : is_some s.intake.reading ≡ awaits

told_true : (refused : Bool) (trouble : Option WireError) → if_told (refused || true) trouble ≡ trouble
told_true true trouble = refl
told_true false trouble = refl

well_by : (s : SessionState) (refusal : Option WireError) (all_sent awaits : Bool) → refusal_of s ≡ refusal → is_all_sent s ≡ all_sent → is_some s.intake.reading ≡ awaits
    → ((turn_by refusal all_sent awaits ≡ turns.Receive) → IsWell s true) × ((turn_by refusal all_sent awaits ≡ turns.Idle) → IsWell s false)
well_by s (Some e) all_sent awaits is sent reads = (λ t. absurd (cc), λ t. absurd (cc))
well_by s None false awaits is sent reads = (λ t. absurd (cc), λ t. absurd (cc))
well_by s None true true is sent reads = (λ t. record { sent = no_bytes s.outgoing sent; trouble = sym (told_true s.refused s.trouble) ∙ ap (λ (b : Bool). if_told (s.refused || b) s.trouble) (sym sent) ∙ is; awaited = reads }, λ t. absurd (cc))
well_by s None true false is sent reads = (λ t. absurd (cc), λ t. record { sent = no_bytes s.outgoing sent; trouble = sym (told_true s.refused s.trouble) ∙ ap (λ (b : Bool). if_told (s.refused || b) s.trouble) (sym sent) ∙ is; awaited = reads })

pub receiving : (s : SessionState) → turn_of s ≡ turns.Receive → IsWell s true
receiving s is = (well_by s (refusal_of s) (is_all_sent s) (is_some s.intake.reading) refl refl refl).0 is

-- a reply is awaited that isn't whole yet
waiting : (s : SessionState) → turn_of s ≡ turns.Receive → IsAwaiting s → IsWaiting s
waiting s turn short = record { well = (receiving s turn).trouble; short = short }

-- a piece was received in its turn
pub goes_received : (answers : Bool) (old mid new : Option Talk) (s now next : SessionState) → GoesOn answers old mid s now → turn_of now ≡ turns.Receive → IsAwaiting now → Takes {T = Unit {0}} mid new now next (Ok tt) → Makes mid new (at_once ∷ []) → GoesOn answers old new s next
goes_received answers old mid new s now next h turn short took made =
    goes_fed answers old mid new s now next took.0 h (fed_more answers old mid new s now h (receiving now turn).sent (waiting now turn short) made) (gave_one answers old mid s now took.0 h took.1) took.2 took.3

fed_by_stop : (T : Type 0) (answers : Bool) (old mid new : Option Talk) (s now : SessionState) (e : DriveError) → GoesOn answers old mid s now → turn_of now ≡ turns.Receive → IsAwaiting now → Makes mid new (made_by {T = T} (Err e)) → IsFed old new s
fed_by_stop T answers old mid new s now (stops.Refused e) h turn short made = fed_more answers old mid new s now h (receiving now turn).sent (waiting now turn short) made
fed_by_stop T answers old mid new s now stops.Failed h turn short made = fed_more answers old mid new s now h (receiving now turn).sent (waiting now turn short) made
fed_by_stop T answers old mid new s now stops.Interrupted h turn short made = fed_still answers old mid new s now h made

-- what came is refused, or the receive is, or the interrupt says yes before it
pub stops_in_turn : (T : Type 0) (answers : Bool) (old mid new : Option Talk) (s now next : SessionState) (e : DriveError) → GoesOn answers old mid s now → turn_of now ≡ turns.Receive → IsAwaiting now → Takes {T = T} mid new now next (Err e) → Makes mid new (made_by {T = T} (Err e))
    → Stops answers old new s e
stops_in_turn T answers old mid new s now next e h turn short took made = stops_receiving T answers old mid new s now next e h (fed_by_stop T answers old mid new s now e h turn short made) took

pub resting : (s : SessionState) → turn_of s ≡ turns.Idle → IsWell s false
resting s is = (well_by s (refusal_of s) (is_all_sent s) (is_some s.intake.reading) refl refl refl).1 is

-- something is to be sent
sends_some : (refusal : Option WireError) (outgoing : List ℕ) (awaits : Bool) → turn_by refusal (length outgoing == 0) awaits ≡ turns.Send → outgoing ≡ [] → ⊥
sends_some (Some e) outgoing awaits is none = absurd (cc)
sends_some None outgoing true is none = absurd (let told = rw none at is in cc)
sends_some None outgoing false is none = absurd (let told = rw none at is in cc)

pub sending_some : (s : SessionState) → turn_of s ≡ turns.Send → s.outgoing ≢ []
sending_some s turn = sends_some (refusal_of s) s.outgoing (is_some s.intake.reading) turn

stays_troubled : (s : SessionState) (e : WireError) (trouble : Option WireError) (found : Option (Result (ParsedReply × List ℕ) ReplyError)) → s.trouble ≡ trouble → trouble ≡ Some e → (after_end s trouble found).trouble ≢ None
stays_troubled s e (Some f) found is some = λ none. absurd (cc)
stays_troubled s e None found is some = absurd (cc)

told_trouble : (b : Bool) (trouble : Option WireError) (e : WireError) → if_told b trouble ≡ Some e → trouble ≡ Some e
told_trouble true trouble e is = is
told_trouble false trouble e is = absurd (cc)

-- a refusal stands at the end
pub failed_end : (s : SessionState) → turn_of s ≡ turns.Failed → (ended s).trouble ≢ None
failed_end s turn =
    let failed = failed_by (refusal_of s) (is_all_sent s) (is_some s.intake.reading) turn in
    stays_troubled s failed.0 s.trouble (told_with s.intake []) refl (told_trouble (s.refused || is_all_sent s) s.trouble failed.0 failed.1)

-- ---- what a call answers

-- an error but out of memory is the refusal
refuses_with : (refusal : Option WireError) (f : WireError) → RefusesUnless {X = Unit {0}} is_memory refusal (Err f) → f ≢ wire.NoMemory → refusal ≡ Some f
refuses_with refusal (wire.Malformed place) h other = h
refuses_with refusal (wire.ServerError text) h other = h
refuses_with refusal (wire.ReplyTooLong bound) h other = h
refuses_with refusal (wire.LineTooLong n) h other = h
refuses_with refusal (wire.MissingFeature name) h other = h
refuses_with refusal (wire.BadParameter text place) h other = h
refuses_with refusal wire.NoMemory h other = absurd (other refl)

-- a yes before a receive
pub takes_yes : (now : Option Talk) (s : SessionState) → turn_of s ≡ turns.Receive → IsAwaiting s → Explains now [] s stops.Interrupted
takes_yes now s turn short = (sym (receiving s turn).sent, waiting s turn short)

unrefused_by : (refusal : Option WireError) (all_sent awaits : Bool) → turn_by refusal all_sent awaits ≡ turns.Receive → refusal ≡ None
unrefused_by None all_sent awaits is = refl
unrefused_by (Some e) all_sent awaits is = absurd (cc)

-- a session refuses once what came was refused
pub fed_troubled : (s now : SessionState) (f : WireError) → turn_of s ≡ turns.Receive → (refusal_of s ≡ None → refusal_of now ≡ Some f) → now.trouble ≢ None
fed_troubled s now f turn stands =
    let some = told_trouble (now.refused || is_all_sent now) now.trouble f (stands (unrefused_by (refusal_of s) (is_all_sent s) (is_some s.intake.reading) turn)) in
    λ none. absurd (cc)

-- what came was refused
pub takes_refusal : (now : Option Talk) (s : SessionState) (piece : List ℕ) (f : WireError) → s.refused ≡ false → RefusesUnless {X = Unit {0}} is_memory (refusal_of (fed s piece)) (Err f) → Explains now [] (fed s piece) (stops.Refused f)
takes_refusal now s piece f isnt h = λ other.
    let x = stands (fed s piece) f (fed_refused s piece ∙ isnt) (refuses_with (refusal_of (fed s piece)) f h other) in
    (sym x.sent, inl x.trouble)

end_at : (s : SessionState) (place : ℕ) (trouble : Option WireError) (found : Option (Result (ParsedReply × List ℕ) ReplyError)) → trouble ≡ None → found ≡ Some (Err (faults.Short place))
    → (refusal_of (after_end s trouble found) ≡ Some (wire.Malformed place)) × ((after_end s trouble found).trouble ≡ Some (wire.Malformed place))
end_at s place trouble found none is = rw (none, is) (refl, refl)

refuses_f : (e f : WireError) (refusal : Option WireError) → refusal ≡ Some e → RefusesUnless {X = Unit {0}} is_memory refusal (Err f) → f ≢ wire.NoMemory → f ≡ e
refuses_f e f refusal is h isnt = let told = refuses_with refusal f h isnt in cc

-- the peer's bytes end in a reply
pub takes_end : (now : Option Talk) (s : SessionState) (f : WireError) → turn_of s ≡ turns.Receive → IsAwaiting s → IsDrained now → RefusesUnless {X = Unit {0}} is_memory (refusal_of (ended s)) (Err f) → Explains now [] s (stops.Refused f)
takes_end now s f turn short drained h = λ other.
    let well = receiving s turn in
    let end = end_at s short.0 s.trouble (told_with s.intake []) well.trouble short.1 in
    let is = refuses_f (wire.Malformed short.0) f (refusal_of (ended s)) end.0 h other in
    (sym well.sent, inr (drained, well.trouble, end.1 ∙ ap (λ (e : WireError). Some e) (sym is)))

-- and once the end was told
pub end_troubled : (s now : SessionState) → turn_of s ≡ turns.Receive → IsAwaiting s → now ≡ ended s → now.trouble ≢ None
end_troubled s now turn short is =
    let some = (end_at s short.0 s.trouble (told_with s.intake []) (receiving s turn).trouble short.1).1 in
    let same = ap (λ (t : SessionState). t.trouble) is in
    λ none. absurd (cc)

no_answer : (e : WireError) (refusal : Option WireError) → refusal ≡ Some e → refusal ≡ None → ⊥
no_answer e refusal is none = absurd (cc)

-- which is a refusal
pub end_refuses : (s : SessionState) → turn_of s ≡ turns.Receive → IsAwaiting s → RefusesUnless {X = Unit {0}} is_memory (refusal_of (ended s)) (Ok tt) → ⊥
end_refuses s turn short h =
    let well = receiving s turn in
    let end = end_at s short.0 s.trouble (told_with s.intake []) well.trouble short.1 in
    no_answer (wire.Malformed short.0) (refusal_of (ended s)) end.0 h

stuck_end : (s : SessionState) (e : WireError) (trouble : Option WireError) (found : Option (Result (ParsedReply × List ℕ) ReplyError)) → trouble ≡ Some e → s.trouble ≡ Some e → refusal_of (after_end s trouble found) ≡ Some e
stuck_end s e trouble found is also = rw is also

-- a refusal stands, and the peer heard all
pub refused_stands : (now : Option Talk) (s : SessionState) (f : WireError) → s.refused ≡ false → turn_of s ≡ turns.Failed → RefusesUnless {X = Unit {0}} is_memory (refusal_of (ended s)) (Err f) → Explains now [] s (stops.Refused f)
refused_stands now s f isnt turn h = λ other.
    let failed = failed_by (refusal_of s) (is_all_sent s) (is_some s.intake.reading) turn in
    let x = stands s failed.0 isnt failed.1 in
    let is = refuses_f failed.0 f (refusal_of (ended s)) (stuck_end s failed.0 s.trouble (told_with s.intake []) x.trouble x.trouble) h other in
    (sym x.sent, inl (x.trouble ∙ ap (λ (e : WireError). Some e) (sym is)))

pub refused_answers : (s : SessionState) → s.refused ≡ false → turn_of s ≡ turns.Failed → RefusesUnless {X = Unit {0}} is_memory (refusal_of (ended s)) (Ok tt) → ⊥
refused_answers s isnt turn h =
    let failed = failed_by (refusal_of s) (is_all_sent s) (is_some s.intake.reading) turn in
    let x = stands s failed.0 isnt failed.1 in
    no_answer failed.0 (refusal_of (ended s)) (stuck_end s failed.0 s.trouble (told_with s.intake []) x.trouble x.trouble) h

-- a refusal that stood
pub stops_refused : (answers : Bool) (old new : Option Talk) (s now : SessionState) (f : WireError) → GoesOn answers old new s now → now.refused ≡ false → turn_of now ≡ turns.Failed → RefusesUnless {X = Unit {0}} is_memory (refusal_of (ended now)) (Err f) → Stops answers old new s (stops.Refused f)
stops_refused answers old new s now f h isnt turn answer = stops_at answers old new s now h.heard h.said (stops.Refused f) h.passed h.awaited h.is (refused_stands new now f isnt turn answer)

-- no refusal was answered
pub finished_unrefused : (answers : Bool) (old new : Option Talk) (s now : SessionState) → s.refused ≡ false → Finishes answers old new s now → now.refused ≡ false
finished_unrefused answers old new s now isnt h = same_refused (with_heard h.went.heard now) (fed s h.went.said) h.went.is ∙ fed_refused s h.went.said ∙ isnt
