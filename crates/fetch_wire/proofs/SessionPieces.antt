-- A session that is fed in pieces is the one that is fed at once.
use Rattle.std.proofs.Common.{◌≡◌, ◌≢◌, ℕ, suc, zero, ◌+◌, Bool, true, false, List, [], ◌∷◌, ◌++◌, length, Option, Some, None, Result, Ok, Err, refl, sym, ap, ◌∙◌, subst, append_assoc}
use Rattle.std.specs.Prelude.{⊤, if◌then◌else◌}
use Rattle.std.specs.Option.{option_and_then}
use Rattle.std.proofs.lemmas.List.{append-nil}
use Rattle.fetch_base.specs.declared.id.Kind.{Kind}
use Rattle.fetch_replies.specs.declared.replies.reply.ReplyError.{ReplyError}
use Rattle.fetch_replies.specs.declared.replies.reply.ReplyError.TheVariants as faults
use Rattle.fetch_replies.specs.declared.replies.reply.ParsedReply.{ParsedReply}
use Rattle.fetch_replies.specs.declared.replies.reply.ParsedReply.TheVariants as told
use Rattle.fetch_lines.specs.declared.error.WireError.{WireError}
use Rattle.fetch_lines.specs.declared.greetings.handshake.Handshake.{Handshake}
use Rattle.fetch_lines.specs.declared.lines.line.Line.{Line}
use Rattle.fetch_lines.specs.declared.lines.line.Line.TheVariants as lines
use Rattle.fetch_replies.specs.declared.replies.parser.ReplyParser.{ReplyParser}
use Rattle.fetch_replies.specs.declared.replies.parser.ReplyParser.TheVariants as reading
use Rattle.fetch_lines.specs.declared.listings.reference.Ref.{Ref}
use Rattle.fetch_lines.specs.declared.lines.section.LineError.{LineError}
use Rattle.fetch_replies.specs.Awaited.{step_of, told_from, at_listed}
use Rattle.fetch_replies.specs.Intakes.{ReplyBuffer, told_with, resting, taking}
use Rattle.fetch_lines.specs.Greetings.{offers}
use Rattle.fetch_lines.specs.Lines.{line_at, line_len}
use Rattle.fetch_replies.specs.Listings.{if_new, ref_in}
use Rattle.fetch_lines.specs.Requests.{listing_lines}
use Rattle.fetch_wire.specs.SessionStates.{SessionState, after_told, read_one, read_on, rests, asks, listing_by, listing_feature, fed, fed_by}
use Rattle.fetch_replies.specs.StepLaws.{IsSettled, with_more, read_by-more}
use Rattle.fetch_replies.specs.Stepping.{Step, goes, ends, breaks, says, or_breaks, after_step, after_line, read_within}
use Rattle.fetch_replies.specs.Steps.{by_line, error_text}
use Rattle.fetch_lines.specs.Texts.{without_lf, is_error}
use Rattle.fetch_lines.specs.Written.{lines_text, first_too_long}
use Rattle.fetch_wire.proofs.Conversing.{fed_is}

-- ---- a listing tells no greeting

abbrev IsNoGreeting : Result (ParsedReply × List ℕ) ReplyError → Type 0
IsNoGreeting (Err fault) = ⊤
IsNoGreeting (Ok (told.Greeting h, rest)) = ⊥
IsNoGreeting (Ok (told.Advertisement h refs, rest)) = ⊤
IsNoGreeting (Ok (told.Listing refs, rest)) = ⊤
IsNoGreeting (Ok (told.Reply reply, rest)) = ⊤

abbrev IsListing : ReplyParser → Type 0
IsListing reading.Greeting = ⊥
IsListing (reading.Capabilities cs) = ⊥
IsListing reading.Version = ⊥
IsListing (reading.Advertisement h listed next) = ⊥
IsListing (reading.Listing kind listed) = ⊤
IsListing (reading.Reply asked part reply) = ⊥

-- a step of a listing
abbrev Lists : Step ReplyParser ParsedReply → Type 0
Lists (goes r) = IsListing r
Lists (ends t) = (rest : List ℕ) → IsNoGreeting (Ok (t, rest))
Lists breaks = ⊤
Lists (says text) = ⊤

lists_new : (kind : Kind) (before : List Ref) (found : Option Ref) → Lists (or_breaks found (λ r. goes (reading.Listing kind (before ++ r ∷ []))))
lists_new kind before None = tt
lists_new kind before (Some r) = tt

lists_if : (b : Bool) (text : List ℕ) (step : Step ReplyParser ParsedReply) → Lists step → Lists (if b then says text else step)
lists_if true text step h = tt
lists_if false text step h = h

lists_line : (kind : Kind) (before : List Ref) (line : Line) → Lists (by_line (ends (told.Listing before)) breaks (at_listed kind before) line)
lists_line kind before (lines.Payload payload) =
    lists_if (is_error payload) (error_text payload) (at_listed kind before (without_lf payload)) (lists_new kind before (option_and_then (if_new before) (ref_in kind (without_lf payload))))
lists_line kind before lines.Flush = λ rest. tt
lists_line kind before lines.Delim = tt
lists_line kind before lines.End = tt

after_lists : (place : ℕ) (rest : List ℕ) (f : ReplyParser → Result (ParsedReply × List ℕ) ReplyError) (step : Step ReplyParser ParsedReply) → ((r : ReplyParser) → IsListing r → IsNoGreeting (f r)) → Lists step → IsNoGreeting (after_step place rest f step)
after_lists place rest f (goes r) h l = h r l
after_lists place rest f (ends t) h l = l rest
after_lists place rest f breaks h l = tt
after_lists place rest f (says text) h l = tt

listing_line : (n bound place : ℕ) (kind : Kind) (before : List Ref) (found : Result (Line × List ℕ) LineError) → ((r : ReplyParser) (p : ℕ) (bytes : List ℕ) → IsListing r → IsNoGreeting (read_within n step_of bound r p bytes))
    → IsNoGreeting (after_line found (λ line rest. after_step place rest (λ t. read_within n step_of bound t (place + line_len line) rest) (by_line (ends (told.Listing before)) breaks (at_listed kind before) line)))
listing_line n bound place kind before (Err t) again = tt
listing_line n bound place kind before (Ok x) again =
    after_lists place x.1 (λ t. read_within n step_of bound t (place + line_len x.0) x.1) (by_line (ends (told.Listing before)) breaks (at_listed kind before) x.0) (λ r l. again r (place + line_len x.0) x.1 l) (lists_line kind before x.0)

listing_within : (n bound : ℕ) (r : ReplyParser) (place : ℕ) (bytes : List ℕ) → IsListing r → IsNoGreeting (read_within n step_of bound r place bytes)
unfolding read_within step_of
listing_within zero bound r place bytes l = tt
listing_within (suc n) bound (reading.Listing kind before) place bytes l = listing_line n bound place kind before (line_at bound place bytes) (λ r p rest h. listing_within n bound r p rest h)
listing_within (suc n) bound reading.Greeting place bytes l = absurd l
listing_within (suc n) bound (reading.Capabilities cs) place bytes l = absurd l
listing_within (suc n) bound reading.Version place bytes l = absurd l
listing_within (suc n) bound (reading.Advertisement h listed next) place bytes l = absurd l
listing_within (suc n) bound (reading.Reply asked part reply) place bytes l = absurd l

no_greeting : (bound : ℕ) (kind : Kind) (bytes : List ℕ) → IsNoGreeting (told_from bound (reading.Listing kind []) 0 bytes)
no_greeting bound kind bytes = listing_within (suc (length bytes)) bound (reading.Listing kind []) 0 bytes tt

-- so after a listing nothing is asked
asks_nothing : (s : SessionState) (found : Result (ParsedReply × List ℕ) ReplyError) → told_with s.intake [] ≡ Some found → IsNoGreeting found → read_one rests (after_told asks s (Some found)) ≡ after_told rests s (Some found)
asks_nothing s (Ok (told.Greeting h, rest)) is none = absurd none
asks_nothing s (Ok (told.Advertisement h refs, rest)) is none = refl
asks_nothing s (Ok (told.Listing refs, rest)) is none = refl
asks_nothing s (Ok (told.Reply reply, rest)) is none = refl
asks_nothing s (Err (faults.Short place)) is none = ap (after_told rests s) is
asks_nothing s (Err (faults.Broken place)) is none = refl
asks_nothing s (Err faults.TooLong) is none = refl
asks_nothing s (Err (faults.Said text)) is none = refl

-- ---- more bytes

more_bytes : (bound place : ℕ) (r : ReplyParser) (pending piece others : List ℕ) → IsSettled (told_from bound r place ((pending ++ piece) ++ []))
    → told_from bound r place ((pending ++ (piece ++ others)) ++ []) ≡ with_more (told_from bound r place ((pending ++ piece) ++ [])) others
more_bytes bound place r pending piece others settled =
    let first : (pending ++ piece) ++ [] ≡ pending ++ piece = append-nil (pending ++ piece) in
    let longer : (pending ++ (piece ++ others)) ++ [] ≡ (pending ++ piece) ++ others = append-nil (pending ++ (piece ++ others)) ∙ sym (append_assoc pending piece others) in
    ap (told_from bound r place) longer ∙ read_by-more step_of bound place r (pending ++ piece) others (subst (λ (l : List ℕ). IsSettled (told_from bound r place l)) first settled)
    ∙ ap (λ (l : List ℕ). with_more (told_from bound r place l) others) (sym first)

abbrev more_of : Option (Result (ParsedReply × List ℕ) ReplyError) → List ℕ → Option (Result (ParsedReply × List ℕ) ReplyError)
more_of None others = None
more_of (Some found) others = Some (with_more found others)

-- what settled bytes tell stays
told_more : (bound place : ℕ) (r : Option ReplyParser) (pending piece others : List ℕ) (found : Option (Result (ParsedReply × List ℕ) ReplyError))
    → told_with (record { bound = bound; place = place; pending = pending ++ piece; reading = r }) [] ≡ found → ((p : ℕ) → found ≢ Some (Err (faults.Short p)))
    → told_with (record { bound = bound; place = place; pending = pending ++ (piece ++ others); reading = r }) [] ≡ more_of found others
told_more bound place None pending piece others found is settled = subst (λ (f : Option (Result (ParsedReply × List ℕ) ReplyError)). None ≡ more_of f others) is refl
told_more bound place (Some r) pending piece others found is settled =
    ap (λ (f : Result (ParsedReply × List ℕ) ReplyError). Some f) (more_bytes bound place r pending piece others (λ p e. settled p (sym is ∙ ap (λ (f : Result (ParsedReply × List ℕ) ReplyError). Some f) e)))
    ∙ ap (λ (f : Option (Result (ParsedReply × List ℕ) ReplyError)). more_of f others) is

nothing_told : (i : ReplyBuffer) → i.reading ≡ None → told_with i [] ≡ None
nothing_told i none = rw none refl

-- ---- the session

-- with these bytes after what it took
abbrev with_taken : SessionState → List ℕ → SessionState
with_taken s piece = record s { intake = taking piece s.intake }

same_bytes : (s : SessionState) (piece others : List ℕ) → with_taken (with_taken s piece) others ≡ with_taken s (piece ++ others)
same_bytes s piece others = ap (λ (l : List ℕ). record s { intake = record s.intake { pending = l } }) (append_assoc s.intake.pending piece others)

-- a session that awaits nothing takes bytes alone
at_rest : (s : SessionState) (others : List ℕ) → s.trouble ≡ None → s.intake.reading ≡ None → fed s others ≡ with_taken s others
at_rest s others well none =
    fed_is s others s.trouble well ∙ ap (λ (f : Option (Result (ParsedReply × List ℕ) ReplyError)). read_one rests (after_told asks (with_taken s others) f)) (nothing_told (with_taken s others).intake none)
    ∙ ap (after_told rests (with_taken s others)) (nothing_told (with_taken s others).intake none)

-- a session that awaits the references, and took these bytes of them
abbrev at_listing : SessionState → ℕ → Kind → List ℕ → SessionState
at_listing s bound kind bytes = record s { intake = record { bound = bound; place = 0; pending = bytes; reading = Some (reading.Listing kind []) } }

listing_more : (bound : ℕ) (kind : Kind) (rest others : List ℕ) (found : Result (ParsedReply × List ℕ) ReplyError) → told_from bound (reading.Listing kind []) 0 (rest ++ []) ≡ found → IsSettled found
    → told_from bound (reading.Listing kind []) 0 ((rest ++ others) ++ []) ≡ with_more found others
listing_more bound kind rest others found is settled =
    more_bytes bound 0 (reading.Listing kind []) [] rest others (λ p e. settled p (sym is ∙ e)) ∙ ap (λ (f : Result (ParsedReply × List ℕ) ReplyError). with_more f others) is

then_listed : (s : SessionState) (bound : ℕ) (kind : Kind) (rest others : List ℕ) (found : Result (ParsedReply × List ℕ) ReplyError) → told_from bound (reading.Listing kind []) 0 (rest ++ []) ≡ found → IsSettled found
    → after_told rests (at_listing s bound kind (rest ++ others)) (Some (with_more found others)) ≡ read_one rests (at_listing s bound kind (rest ++ others))
then_listed s bound kind rest others found is settled =
    sym (ap (λ (f : Result (ParsedReply × List ℕ) ReplyError). after_told rests (at_listing s bound kind (rest ++ others)) (Some f)) (listing_more bound kind rest others found is settled))

listed_pieces : (s : SessionState) (bound : ℕ) (kind : Kind) (rest others : List ℕ) (found : Result (ParsedReply × List ℕ) ReplyError) → s.trouble ≡ None → told_from bound (reading.Listing kind []) 0 (rest ++ []) ≡ found
    → fed (after_told rests (at_listing s bound kind rest) (Some found)) others ≡ read_one rests (at_listing s bound kind (rest ++ others))
listed_pieces s bound kind rest others (Ok (told.Greeting h, left)) well is =
    at_rest (after_told rests (at_listing s bound kind rest) (Some (Ok (told.Greeting h, left)))) others well refl ∙ then_listed s bound kind rest others (Ok (told.Greeting h, left)) is (λ p e. cc)
listed_pieces s bound kind rest others (Ok (told.Advertisement h refs, left)) well is =
    at_rest (after_told rests (at_listing s bound kind rest) (Some (Ok (told.Advertisement h refs, left)))) others well refl ∙ then_listed s bound kind rest others (Ok (told.Advertisement h refs, left)) is (λ p e. cc)
listed_pieces s bound kind rest others (Ok (told.Listing refs, left)) well is =
    at_rest (after_told rests (at_listing s bound kind rest) (Some (Ok (told.Listing refs, left)))) others well refl ∙ then_listed s bound kind rest others (Ok (told.Listing refs, left)) is (λ p e. cc)
listed_pieces s bound kind rest others (Ok (told.Reply reply, left)) well is =
    at_rest (after_told rests (at_listing s bound kind rest) (Some (Ok (told.Reply reply, left)))) others well refl ∙ then_listed s bound kind rest others (Ok (told.Reply reply, left)) is (λ p e. cc)
listed_pieces s bound kind rest others (Err (faults.Short place)) well is =
    let now = at_listing s bound kind (rest ++ others) in
    fed_is (at_listing s bound kind rest) others s.trouble well ∙ asks_nothing now (told_from bound (reading.Listing kind []) 0 ((rest ++ others) ++ [])) refl (no_greeting bound kind ((rest ++ others) ++ []))
listed_pieces s bound kind rest others (Err (faults.Broken place)) well is = then_listed s bound kind rest others (Err (faults.Broken place)) is (λ p e. cc)
listed_pieces s bound kind rest others (Err faults.TooLong) well is = then_listed s bound kind rest others (Err faults.TooLong) is (λ p e. cc)
listed_pieces s bound kind rest others (Err (faults.Said text)) well is = then_listed s bound kind rest others (Err (faults.Said text)) is (λ p e. cc)

asked_pieces : (s : SessionState) (h : Handshake) (lines : List Line) (rest others : List ℕ) (long : Option ℕ) (offered : Bool) → s.trouble ≡ None
    → fed (read_one rests (listing_by long offered h lines (record s { intake = resting rest s.intake }))) others ≡ read_one rests (listing_by long offered h lines (record s { intake = resting (rest ++ others) s.intake }))
asked_pieces s h lines rest others (Some n) offered well = refl
asked_pieces s h lines rest others None false well = refl
asked_pieces s h lines rest others None true well =
    listed_pieces (record s { outgoing = s.outgoing ++ lines_text lines }) s.intake.bound h.object_hash rest others (told_from s.intake.bound (reading.Listing h.object_hash []) 0 (rest ++ [])) well refl

-- what is told once all bytes came
then_told : (s : SessionState) (piece others : List ℕ) (found : Option (Result (ParsedReply × List ℕ) ReplyError)) → told_with (taking piece s.intake) [] ≡ found → ((p : ℕ) → found ≢ Some (Err (faults.Short p)))
    → read_one rests (after_told asks (with_taken s (piece ++ others)) (more_of found others)) ≡ read_on (with_taken s (piece ++ others))
then_told s piece others found is settled =
    sym (ap (λ (f : Option (Result (ParsedReply × List ℕ) ReplyError)). read_one rests (after_told asks (with_taken s (piece ++ others)) f)) (told_more s.intake.bound s.intake.place s.intake.reading s.intake.pending piece others found is settled))

-- nothing is whole yet
then_short : (s : SessionState) (piece others : List ℕ) (found : Option (Result (ParsedReply × List ℕ) ReplyError)) → s.trouble ≡ None → told_with (taking piece s.intake) [] ≡ found → after_told rests (with_taken s piece) found ≡ with_taken s piece
    → fed (read_one rests (with_taken s piece)) others ≡ read_on (with_taken s (piece ++ others))
then_short s piece others found well is same =
    ap (λ (t : SessionState). fed t others) (ap (after_told rests (with_taken s piece)) is ∙ same) ∙ fed_is (with_taken s piece) others s.trouble well ∙ ap read_on (same_bytes s piece others)

pieces_by : (s : SessionState) (piece others : List ℕ) (found : Option (Result (ParsedReply × List ℕ) ReplyError)) → s.trouble ≡ None → told_with (taking piece s.intake) [] ≡ found
    → fed (read_one rests (after_told asks (with_taken s piece) found)) others ≡ read_on (with_taken s (piece ++ others))
pieces_by s piece others None well is = then_short s piece others None well is refl
pieces_by s piece others (Some (Err (faults.Short place))) well is = then_short s piece others (Some (Err (faults.Short place))) well is refl
pieces_by s piece others (Some (Err (faults.Broken place))) well is = then_told s piece others (Some (Err (faults.Broken place))) is (λ p e. cc)
pieces_by s piece others (Some (Err faults.TooLong)) well is = then_told s piece others (Some (Err faults.TooLong)) is (λ p e. cc)
pieces_by s piece others (Some (Err (faults.Said text))) well is = then_told s piece others (Some (Err (faults.Said text))) is (λ p e. cc)
pieces_by s piece others (Some (Ok (told.Greeting h, rest))) well is =
    let asked = listing_lines h s.agent s.prefixes in
    asked_pieces (record s { handshake = Some h }) h asked rest others (first_too_long asked) (offers listing_feature h.capabilities) well ∙ then_told s piece others (Some (Ok (told.Greeting h, rest))) is (λ p e. cc)
pieces_by s piece others (Some (Ok (told.Advertisement h refs, rest))) well is =
    at_rest (after_told asks (with_taken s piece) (Some (Ok (told.Advertisement h refs, rest)))) others well refl ∙ then_told s piece others (Some (Ok (told.Advertisement h refs, rest))) is (λ p e. cc)
pieces_by s piece others (Some (Ok (told.Listing refs, rest))) well is =
    at_rest (after_told asks (with_taken s piece) (Some (Ok (told.Listing refs, rest)))) others well refl ∙ then_told s piece others (Some (Ok (told.Listing refs, rest))) is (λ p e. cc)
pieces_by s piece others (Some (Ok (told.Reply reply, rest))) well is =
    at_rest (after_told asks (with_taken s piece) (Some (Ok (told.Reply reply, rest)))) others well refl ∙ then_told s piece others (Some (Ok (told.Reply reply, rest))) is (λ p e. cc)

pub stuck : (s : SessionState) (piece : List ℕ) (e : WireError) (trouble : Option WireError) → trouble ≡ Some e → fed_by trouble s piece ≡ s
stuck s piece e (Some f) is = refl
stuck s piece e None is = absurd (cc)

pub pieces : (s : SessionState) (piece others : List ℕ) (trouble : Option WireError) → s.trouble ≡ trouble → fed (fed s piece) others ≡ fed s (piece ++ others)
pieces s piece others None well =
    ap (λ (t : SessionState). fed t others) (fed_is s piece s.trouble well) ∙ pieces_by s piece others (told_with (taking piece s.intake) []) well refl ∙ sym (fed_is s (piece ++ others) s.trouble well)
pieces s piece others (Some e) is =
    ap (λ (t : SessionState). fed t others) (stuck s piece e s.trouble is) ∙ stuck s others e s.trouble is ∙ sym (stuck s (piece ++ others) e s.trouble is)
