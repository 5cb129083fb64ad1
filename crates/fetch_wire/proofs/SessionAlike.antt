-- Sessions that are alike stay alike.
use Rattle.std.proofs.Common.{◌≡◌, ℕ, Bool, true, false, List, [], ◌++◌, Option, Some, None, Result, Ok, Err, refl, sym, ap, ◌∙◌, subst, append_assoc, length-append, arith}
use Rattle.std.specs.Prelude.{is_some}
use Rattle.fetch_replies.specs.declared.replies.reply.ReplyError.{ReplyError}
use Rattle.fetch_replies.specs.declared.replies.reply.ReplyError.TheVariants as faults
use Rattle.fetch_replies.specs.declared.replies.reply.ParsedReply.{ParsedReply}
use Rattle.fetch_lines.specs.declared.error.WireError.{WireError}
use Rattle.fetch_lines.specs.declared.error.WireError.TheVariants as errors
use Rattle.fetch_replies.specs.declared.replies.parser.ReplyParser.{ReplyParser}
use Rattle.fetch_lines.specs.declared.requests.records.Request.{Request}
use Rattle.fetch_wire.specs.declared.session.turn.Turn.TheVariants as turns
use Rattle.fetch_replies.specs.Awaited.{told_from}
use Rattle.fetch_replies.specs.Intakes.{ReplyBuffer, told_with, taking}
use Rattle.fetch_replies.specs.Intakes as intakes
use Rattle.fetch_wire.specs.SessionStates.{SessionState, IsAlike, after_told, after_end, error_of, read_one, rests, asks, keeps, fed, ended, requested, is_all_sent, refusal_of, turn_by, turn_of}
use Rattle.fetch_wire.proofs.Conversing.{same, fed_is}
use Rattle.fetch_wire.proofs.SessionPieces.{stuck}

alike_by : (x y : SessionState) → x ≡ y → IsAlike x y
alike_by x y e = subst (IsAlike x) e (same x)

taking_by : (bound place : ℕ) (pending piece more : List ℕ) (r : Option ReplyParser)
    → told_with (record { bound = bound; place = place; pending = pending ++ piece; reading = r }) more ≡ told_with (record { bound = bound; place = place; pending = pending; reading = r }) (piece ++ more)
taking_by bound place pending piece more None = refl
taking_by bound place pending piece more (Some r) = ap (λ (l : List ℕ). Some (told_from bound r place l)) (append_assoc pending piece more)

-- both take the same bytes
taking_alike : (i j : ReplyBuffer) (piece : List ℕ) → intakes.IsAlike i j → intakes.IsAlike (taking piece i) (taking piece j)
taking_alike i j piece h = record {
  bound = h.bound;
  told = λ more. taking_by i.bound i.place i.pending piece more i.reading ∙ h.told (piece ++ more) ∙ sym (taking_by j.bound j.place j.pending piece more j.reading);
  room = omega (arith, h.room, length-append i.pending piece, length-append j.pending piece);
  behind = h.behind;
  resting = λ none. ap (taking piece) (h.resting none);
}

-- what is left after a reply
abbrev left_at : SessionState → ℕ → List ℕ → SessionState
left_at s bound bytes = record s { intake = record { bound = bound; place = 0; pending = bytes; reading = None } }

stay_by : (s : SessionState) (i j : ReplyBuffer) (found : Option (Result (ParsedReply × List ℕ) ReplyError)) → intakes.IsAlike i j → told_with i [] ≡ found → told_with j [] ≡ found
    → after_told rests (record s { intake = i }) found ≡ record s { intake = i } → after_told rests (record s { intake = j }) found ≡ record s { intake = j }
    → IsAlike (read_one rests (record s { intake = i })) (read_one rests (record s { intake = j }))
stay_by s i j found h is also first second =
    subst (λ (x : SessionState). IsAlike x (read_one rests (record s { intake = j }))) (sym (ap (after_told rests (record s { intake = i })) is ∙ first))
    (subst (λ (y : SessionState). IsAlike (record s { intake = i }) y) (sym (ap (after_told rests (record s { intake = j })) also ∙ second)) (record { intake = h; others = refl }))

read_alike : (s : SessionState) (i j : ReplyBuffer) (found : Option (Result (ParsedReply × List ℕ) ReplyError)) → intakes.IsAlike i j → told_with i [] ≡ found → told_with j [] ≡ found
    → IsAlike (read_one rests (after_told asks (record s { intake = i }) found)) (read_one rests (after_told asks (record s { intake = j }) found))
read_alike s i j None h is also = stay_by s i j None h is also refl refl
read_alike s i j (Some (Ok x)) h is also = alike_by _ _ (ap (λ (n : ℕ). read_one rests (asks x.0 (keeps x.0 (left_at s n x.1)))) h.bound)
read_alike s i j (Some (Err (faults.Short place))) h is also = stay_by s i j (Some (Err (faults.Short place))) h is also refl refl
read_alike s i j (Some (Err (faults.Broken place))) h is also = alike_by _ _ (ap (λ (n : ℕ). record (left_at s n []) { trouble = Some (errors.Malformed place) }) h.bound)
read_alike s i j (Some (Err faults.TooLong)) h is also = alike_by _ _ (ap (λ (n : ℕ). record (left_at s n []) { trouble = Some (errors.ReplyTooLong n) }) h.bound)
read_alike s i j (Some (Err (faults.Said text))) h is also = alike_by _ _ (ap (λ (n : ℕ). record (left_at s n []) { trouble = Some (errors.ServerError text) }) h.bound)

fed_alike : (s : SessionState) (j : ReplyBuffer) (piece : List ℕ) (trouble : Option WireError) → s.trouble ≡ trouble → intakes.IsAlike s.intake j → IsAlike (fed s piece) (fed (record s { intake = j }) piece)
fed_alike s j piece (Some e) is h =
    subst (λ (x : SessionState). IsAlike x (fed (record s { intake = j }) piece)) (sym (stuck s piece e s.trouble is))
    (subst (λ (y : SessionState). IsAlike s y) (sym (stuck (record s { intake = j }) piece e s.trouble is)) (record { intake = h; others = refl }))
fed_alike s j piece None well h =
    let t = taking_alike s.intake j piece h in
    let read = read_alike s (taking piece s.intake) (taking piece j) (told_with (taking piece j) []) t (t.told []) refl in
    subst (λ (x : SessionState). IsAlike x (fed (record s { intake = j }) piece)) (ap (λ (f : Option (Result (ParsedReply × List ℕ) ReplyError)). read_one rests (after_told asks (record s { intake = taking piece s.intake }) f)) (sym (t.told [])) ∙ sym (fed_is s piece s.trouble well))
    (subst (λ (y : SessionState). IsAlike (read_one rests (after_told asks (record s { intake = taking piece s.intake }) (told_with (taking piece j) []))) y) (sym (fed_is (record s { intake = j }) piece s.trouble well)) read)

pub stays_alike : (a b : SessionState) (piece : List ℕ) → IsAlike a b → IsAlike (fed a piece) (fed b piece)
stays_alike a b piece h = subst (λ (x : SessionState). IsAlike (fed a piece) (fed x piece)) h.others (fed_alike a b.intake piece a.trouble refl h.intake)

-- ---- the end of a peer's bytes

end_alike : (s : SessionState) (j : ReplyBuffer) (trouble : Option WireError) (found : Option (Result (ParsedReply × List ℕ) ReplyError)) → intakes.IsAlike s.intake j
    → IsAlike (after_end s trouble found) (after_end (record s { intake = j }) trouble found)
end_alike s j (Some e) found h = record { intake = h; others = refl }
end_alike s j None None h = record { intake = h; others = refl }
end_alike s j None (Some (Ok x)) h = record { intake = h; others = refl }
end_alike s j None (Some (Err fault)) h = alike_by _ _ (ap (λ (n : ℕ). record (left_at s n []) { trouble = Some (error_of n fault); refused = true }) h.bound)

pub ends_alike : (a b : SessionState) → IsAlike a b → IsAlike (ended a) (ended b)
ends_alike a b h =
    subst (λ (x : SessionState). IsAlike (ended a) (ended x)) h.others
    (subst (λ (f : Option (Result (ParsedReply × List ℕ) ReplyError)). IsAlike (after_end a a.trouble f) (after_end (record a { intake = b.intake }) a.trouble (told_with b.intake []))) (sym (h.intake.told []))
    (end_alike a b.intake a.trouble (told_with b.intake []) h.intake))

-- ---- whose turn it is

-- sessions that are alike and await nothing are one
pub rests_same : (a b : SessionState) → IsAlike a b → a.intake.reading ≡ None → a ≡ b
rests_same a b h none = ap (λ (i : ReplyBuffer). record a { intake = i }) (h.intake.resting none) ∙ h.others

awaits_by : (i j : ReplyBuffer) (r t : Option ReplyParser) → i.reading ≡ r → j.reading ≡ t → told_with i [] ≡ told_with j [] → is_some r ≡ is_some t
awaits_by i j None None is also told = refl
awaits_by i j (Some r) (Some t) is also told = refl
awaits_by i j None (Some t) is also told = absurd (let e = rw (is, also) at told in cc)
awaits_by i j (Some r) None is also told = absurd (let e = rw (is, also) at told in cc)

-- both await a reply, or none
pub awaits_alike : (i j : ReplyBuffer) → intakes.IsAlike i j → is_some i.reading ≡ is_some j.reading
awaits_alike i j h = awaits_by i j i.reading j.reading refl refl (h.told [])

pub same_turn : (a b : SessionState) → IsAlike a b → turn_of a ≡ turn_of b
same_turn a b h = ap (turn_by (refusal_of a) (is_all_sent a)) (awaits_alike a.intake b.intake h.intake) ∙ ap turn_of h.others

none_awaited : (refusal : Option WireError) (sent : Bool) (r : Option ReplyParser) → turn_by refusal sent (is_some r) ≡ turns.Idle → r ≡ None
none_awaited (Some e) sent r is = cc
none_awaited None false r is = cc
none_awaited None true None is = refl
none_awaited None true (Some r) is = cc

-- whose turn is nobody's awaits nothing
pub idle_rests : (s : SessionState) → turn_of s ≡ turns.Idle → s.intake.reading ≡ None
idle_rests s idle = none_awaited (refusal_of s) (is_all_sent s) s.intake.reading idle

pub requests_alike : (a b : SessionState) (r : Request) (read_pack : Bool) → IsAlike a b → turn_of a ≡ turns.Idle → IsAlike (requested a r read_pack) (requested b r read_pack)
requests_alike a b r read_pack h idle = alike_by _ _ (ap (λ (s : SessionState). requested s r read_pack) (rests_same a b h (idle_rests a idle)))

-- ---- alike in turn

-- none is awaited where nothing is told
none_told : (i : ReplyBuffer) (r : Option ReplyParser) → i.reading ≡ r → told_with i [] ≡ None → r ≡ None
none_told i None is told = refl
none_told i (Some r) is told = absurd (let e = rw is at told in cc)

intake_back : (i j : ReplyBuffer) → intakes.IsAlike i j → intakes.IsAlike j i
intake_back i j h = record {
  bound = sym h.bound;
  told = λ more. sym (h.told more);
  room = sym h.room;
  behind = sym h.behind;
  resting = λ none. sym (h.resting (none_told i i.reading refl (h.told [] ∙ (rw none refl))));
}

intake_then : (i j k : ReplyBuffer) → intakes.IsAlike i j → intakes.IsAlike j k → intakes.IsAlike i k
intake_then i j k h g = record {
  bound = h.bound ∙ g.bound;
  told = λ more. h.told more ∙ g.told more;
  room = h.room ∙ g.room;
  behind = h.behind ∙ g.behind;
  resting = λ none. h.resting none ∙ g.resting (subst (λ (x : ReplyBuffer). x.reading ≡ None) (h.resting none) none);
}

pub alike_back : (a b : SessionState) → IsAlike a b → IsAlike b a
alike_back a b h = record { intake = intake_back a.intake b.intake h.intake; others = sym (ap (λ (x : SessionState). record x { intake = a.intake }) h.others) }

pub alike_then : (a b c : SessionState) → IsAlike a b → IsAlike b c → IsAlike a c
alike_then a b c h g = record {
  intake = intake_then a.intake b.intake c.intake h.intake g.intake;
  others = ap (λ (x : SessionState). record x { intake = c.intake }) h.others ∙ g.others;
}
