-- What may still come of a peer lessens with each byte that a session is fed.
use Rattle.std.proofs.Common.{◌≡◌, ℕ, zero, suc, ◌+◌, ◌*◌, ◌-◌, ◌<◌, ◌≤◌, Bool, true, false, List, [], ◌∷◌, ◌++◌, length, Option, Some, None, Result, Ok, Err, refl, sym, ap, ◌∙◌, subst, arith, length-append}
use Rattle.std.specs.Prelude.{max, nat_lt, if◌then◌else◌}
use Rattle.std.proofs.lemmas.Bool.Decides.{nat_tests}
use Rattle.std.proofs.lemmas.List.{append-nil}
use Rattle.fetch_lines.specs.declared.greetings.handshake.Handshake.{Handshake}
use Rattle.fetch_lines.specs.declared.lines.line.Line.{Line}
use Rattle.fetch_lines.specs.declared.lines.section.LineError.{LineError}
use Rattle.fetch_lines.specs.declared.lines.section.LineError.TheVariants as lines
use Rattle.fetch_replies.specs.declared.replies.reply.ReplyKind.TheVariants as awaits
use Rattle.fetch_replies.specs.declared.replies.reply.ReplyError.{ReplyError}
use Rattle.fetch_replies.specs.declared.replies.reply.ReplyError.TheVariants as faults
use Rattle.fetch_replies.specs.declared.replies.reply.ParsedReply.{ParsedReply}
use Rattle.fetch_replies.specs.declared.replies.reply.ParsedReply.TheVariants as told
use Rattle.fetch_replies.specs.declared.replies.parser.ReplyParser.{ReplyParser}
use Rattle.fetch_replies.specs.declared.replies.parser.ReplyParser.TheVariants as reading
use Rattle.fetch_replies.specs.Awaited.{replies_behind, step_of, told_at, told_from}
use Rattle.fetch_lines.specs.Feeding.{room_at}
use Rattle.fetch_lines.specs.Greetings.{offers}
use Rattle.fetch_replies.specs.Intakes.{ReplyBuffer, room_in, told_with, taking, resting}
use Rattle.fetch_replies.specs.Intakes as intakes
use Rattle.fetch_lines.specs.LineLaws.{line_at-is, line_at-len, least}
use Rattle.fetch_lines.specs.Lines.{number_in, is_no_line, line_counted, announced, line_at, line_len}
use Rattle.fetch_lines.specs.Requests.{listing_lines}
use Rattle.fetch_wire.specs.SessionStates.{SessionState, IsAlike, IsAwaiting, after_told, read_one, rests, asks, listing_by, listing_feature, fed}
use Rattle.fetch_replies.specs.Stepping.{Step, goes, ends, breaks, says, after_step, after_line, read_within}
use Rattle.fetch_lines.specs.Written.{first_too_long}
use Rattle.fetch_wire.proofs.Conversing.{fed_is}
use Rattle.fetch_wire.proofs.StepKeeps.{OfStep, OfTold, within-keeps}
use Rattle.fetch_replies.proofs.Staying.{IsBefore, Stays, stays}

-- ---- a reply that isn't whole is within its bound, but for the beginning of a line

long_line : (bound place p count : ℕ) (rest : List ℕ) → place + max count 4 ≤ bound → line_counted count place rest ≡ Err (lines.Short p) → length rest + 4 ≤ (bound - place) + 3
long_line bound place p zero rest fits is = absurd (cc)
long_line bound place p (suc zero) rest fits is = absurd (cc)
long_line bound place p (suc (suc zero)) rest fits is = absurd (cc)
long_line bound place p (suc (suc (suc zero))) rest fits is = absurd (cc)
long_line bound place p (suc (suc (suc (suc n)))) rest fits is = by (nat_lt (length rest) n) refl is
  where
    by : (short : Bool) → nat_lt (length rest) n ≡ short → line_counted (suc (suc (suc (suc n)))) place rest ≡ Err (lines.Short p) → length rest + 4 ≤ (bound - place) + 3
    by true lt is = let less : length rest < n = grind (arith, nat_tests) in omega arith
    by false ge is = absurd (let e = rw ge at is in cc)

tested_line : (bound place p count : ℕ) (no long : Bool) (rest : List ℕ) → is_no_line count ≡ no → nat_lt bound (place + max count 4) ≡ long
    → (if no then Err (lines.Broken place) else (if long then Err lines.TooLong else line_counted count place rest)) ≡ Err (lines.Short p) → length rest + 4 ≤ (bound - place) + 3
tested_line bound place p count true long rest none far is = absurd (cc)
tested_line bound place p count false true rest none far is = absurd (cc)
tested_line bound place p count false false rest none far is = long_line bound place p count rest (grind (arith, nat_tests)) is

announced_line : (bound place p : ℕ) (count : Option ℕ) (rest : List ℕ) → announced bound place count rest ≡ Err (lines.Short p) → length rest + 4 ≤ (bound - place) + 3
unfolding announced
announced_line bound place p None rest is = absurd (cc)
announced_line bound place p (Some count) rest is = tested_line bound place p count (is_no_line count) (nat_lt bound (place + max count 4)) rest refl refl is

short_line : (bound place p : ℕ) (bytes : List ℕ) → line_at bound place bytes ≡ Err (lines.Short p) → length bytes ≤ (bound - place) + 3
unfolding line_at
short_line bound place p [] is = omega arith
short_line bound place p (a ∷ []) is = omega arith
short_line bound place p (a ∷ b ∷ []) is = omega arith
short_line bound place p (a ∷ b ∷ c ∷ []) is = omega arith
short_line bound place p (a ∷ b ∷ c ∷ d ∷ rest) is = let h = announced_line bound place p (number_in (a ∷ b ∷ c ∷ d ∷ [])) rest is in omega arith

short_step : {S T : Type 0} (n bound place p : ℕ) (rest : List ℕ) (f : S → Result (T × List ℕ) ReplyError) (step : Step S T)
    → ((t : S) → f t ≡ Err (faults.Short p) → length rest ≤ n) → after_step place rest f step ≡ Err (faults.Short p) → length rest ≤ n
short_step n bound place p rest f (goes t) again is = again t is
short_step n bound place p rest f (ends t) again is = absurd (cc)
short_step n bound place p rest f breaks again is = absurd (cc)
short_step n bound place p rest f (says text) again is = absurd (cc)

short_behind : {S T : Type 0} (step : S → Line → Step S T) (m n bound place p : ℕ) (s : S) (bytes : List ℕ) (found : Result (Line × List ℕ) LineError) → line_at bound place bytes ≡ found → length bytes ≤ n
    → ((t : S) (q : ℕ) (rest : List ℕ) → length rest + 4 ≤ n → read_within m step bound t q rest ≡ Err (faults.Short p) → length rest ≤ (bound - q) + 3)
    → after_line found (λ line rest. after_step place rest (λ t. read_within m step bound t (place + line_len line) rest) (step s line)) ≡ Err (faults.Short p) → length bytes ≤ (bound - place) + 3
short_behind step m n bound place p s bytes (Err (lines.Short q)) at few again is = short_line bound place q bytes at
short_behind step m n bound place p s bytes (Err (lines.Broken q)) at few again is = absurd (cc)
short_behind step m n bound place p s bytes (Err lines.TooLong) at few again is = absurd (cc)
short_behind step m n bound place p s bytes (Ok x) at few again is =
    let len = line_at-len bound place bytes x.1 x.0 at in
    let within = (line_at-is bound place bytes x.1 x.0 at).within in
    let more : length x.1 ≤ (bound - (place + line_len x.0)) + 3 =
    short_step ((bound - (place + line_len x.0)) + 3) bound place p x.1 (λ t. read_within m step bound t (place + line_len x.0) x.1) (step s x.0)
    (λ t told. again t (place + line_len x.0) x.1 (omega (arith, len, few, least x.0)) told) is in
    omega (arith, len, within, more)

short_within : {S T : Type 0} (step : S → Line → Step S T) (n bound place p : ℕ) (s : S) (bytes : List ℕ) → length bytes ≤ n → read_within (suc n) step bound s place bytes ≡ Err (faults.Short p) → length bytes ≤ (bound - place) + 3
unfolding read_within
short_within step zero bound place p s bytes few is = omega (arith, few)
short_within step (suc n) bound place p s bytes few is =
    short_behind step (suc n) (suc n) bound place p s bytes (line_at bound place bytes) refl few (λ t q rest less told. short_within step n bound q p t rest (omega (arith, less)) told) is

-- where a reply is short, something may still come
pub short_room : (bound place p : ℕ) (r : ReplyParser) (bytes : List ℕ) → told_from bound r place bytes ≡ Err (faults.Short p) → 0 < room_at bound place bytes
short_room bound place p r bytes is = let h = short_within step_of (length bytes) bound place p r bytes (omega arith) is in omega (arith, h)

-- ---- a greeting is told where the listing comes behind

of_step : (n : ℕ) (step : Step ReplyParser ParsedReply) → Stays n step → OfStep (λ r. replies_behind r ≡ n) (IsBefore n) step
of_step n (goes r) h = h
of_step n (ends t) h = h
of_step n breaks h = tt
of_step n (says text) h = tt

keeps_behind : (n : ℕ) (r : ReplyParser) (line : Line) → replies_behind r ≡ n → OfStep (λ t. replies_behind t ≡ n) (IsBefore n) (step_of r line)
keeps_behind n r line is = of_step n (step_of r line) (subst (λ m. Stays m (step_of r line)) is (stays r line))

greeting_by : (n : ℕ) (h : Handshake) (rest : List ℕ) (found : Result (ParsedReply × List ℕ) ReplyError) → found ≡ Ok (told.Greeting h, rest) → OfTold (IsBefore n) found → n ≡ 1
greeting_by n h rest found is of = rw is at of

greeting_behind : (bound place : ℕ) (r : ReplyParser) (bytes rest : List ℕ) (h : Handshake) → told_from bound r place bytes ≡ Ok (told.Greeting h, rest) → replies_behind r ≡ 1
greeting_behind bound place r bytes rest h is =
    greeting_by (replies_behind r) h rest (told_from bound r place bytes) is
    (within-keeps (λ t. replies_behind t ≡ replies_behind r) (IsBefore (replies_behind r)) step_of (suc (length bytes)) bound place r bytes (keeps_behind (replies_behind r)) refl)

-- what is told of a greeting, of either version
pub greeted_told : (bound : ℕ) (bytes : List ℕ) → OfTold (IsBefore 1) (told_at bound awaits.Greeting bytes)
greeted_told bound bytes = within-keeps (λ t. replies_behind t ≡ 1) (IsBefore 1) step_of (suc (length bytes)) bound 0 reading.Greeting bytes (keeps_behind 1) refl

-- ---- how much may still come

abbrev pub most_by : Option ReplyParser → ℕ → ℕ → ℕ
most_by None bound room = 0
most_by (Some r) bound room = replies_behind r * (bound + 4) + room

-- of the awaited reply, and of those behind it
abbrev pub most_left : ReplyBuffer → ℕ
most_left i = most_by i.reading i.bound (room_in i)

same_most : (i j : ReplyBuffer) (r t : Option ReplyParser) → i.reading ≡ r → j.reading ≡ t → intakes.IsAlike i j → most_by r i.bound (room_in i) ≡ most_by t j.bound (room_in j)
same_most i j None None is also h = refl
same_most i j (Some r) (Some t) is also h =
    let b : replies_behind r ≡ replies_behind t = rw (is, also) at h.behind in
    ap (λ (n : ℕ). n * (i.bound + 4) + room_in i) b ∙ ap (λ (n : ℕ). replies_behind t * (n + 4) + room_in i) h.bound ∙ ap (λ (n : ℕ). replies_behind t * (j.bound + 4) + n) h.room
same_most i j None (Some t) is also h = absurd (let told = h.told [] in let e = rw (is, also) at told in cc)
same_most i j (Some r) None is also h = absurd (let told = h.told [] in let e = rw (is, also) at told in cc)

pub same_left : (a b : SessionState) → IsAlike a b → most_left a.intake ≡ most_left b.intake
same_left a b h = same_most a.intake b.intake a.intake.reading b.intake.reading refl refl h.intake

-- nothing more than this may come
abbrev Within : ℕ → SessionState → Type 0
Within n s = most_left s.intake < n

rests_within : (n : ℕ) (s : SessionState) (found : Option (Result (ParsedReply × List ℕ) ReplyError)) → 0 < n → Within n s → Within n (after_told rests s found)
rests_within n s None some h = h
rests_within n s (Some (Ok (told.Greeting g, rest))) some h = some
rests_within n s (Some (Ok (told.Advertisement g refs, rest))) some h = some
rests_within n s (Some (Ok (told.Listing refs, rest))) some h = some
rests_within n s (Some (Ok (told.Reply reply, rest))) some h = some
rests_within n s (Some (Err (faults.Short place))) some h = h
rests_within n s (Some (Err (faults.Broken place))) some h = some
rests_within n s (Some (Err faults.TooLong)) some h = some
rests_within n s (Some (Err (faults.Said text))) some h = some

listing_within : (n : ℕ) (s : SessionState) (h : Handshake) (asked : List Line) (long : Option ℕ) (offered : Bool) (rest : List ℕ) → s.intake.bound + 4 < n → Within n (listing_by long offered h asked (record s { intake = resting rest s.intake }))
listing_within n s h asked (Some m) offered rest room = omega (arith, room)
listing_within n s h asked None false rest room = omega (arith, room)
listing_within n s h asked None true rest room = omega (arith, room)

-- a session that awaits a reply, with these bytes behind what it took
abbrev with_bytes : SessionState → ReplyParser → List ℕ → SessionState
with_bytes s r bytes = record s { intake = record { bound = s.intake.bound; place = s.intake.place; pending = bytes; reading = Some r } }

asks_within : (s : SessionState) (r : ReplyParser) (bytes piece : List ℕ) (found : Result (ParsedReply × List ℕ) ReplyError) → told_from s.intake.bound r s.intake.place ((bytes ++ piece) ++ []) ≡ found → 0 < length piece → 0 < room_at s.intake.bound s.intake.place bytes
    → Within (replies_behind r * (s.intake.bound + 4) + room_at s.intake.bound s.intake.place bytes) (after_told asks (with_bytes s r (bytes ++ piece)) (Some found))
asks_within s r bytes piece (Ok (told.Greeting h, rest)) is some room =
    let one = greeting_behind s.intake.bound s.intake.place r ((bytes ++ piece) ++ []) rest h is in
    let asked = listing_lines h s.agent s.prefixes in
    listing_within _ (record (with_bytes s r (bytes ++ piece)) { handshake = Some h }) h asked (first_too_long asked) (offers listing_feature h.capabilities) rest (rw one (omega (arith, room)))
asks_within s r bytes piece (Ok (told.Advertisement h refs, rest)) is some room = omega (arith, room)
asks_within s r bytes piece (Ok (told.Listing refs, rest)) is some room = omega (arith, room)
asks_within s r bytes piece (Ok (told.Reply reply, rest)) is some room = omega (arith, room)
asks_within s r bytes piece (Err (faults.Short place)) is some room = omega (arith, room, some, length-append bytes piece)
asks_within s r bytes piece (Err (faults.Broken place)) is some room = omega (arith, room)
asks_within s r bytes piece (Err faults.TooLong) is some room = omega (arith, room)
asks_within s r bytes piece (Err (faults.Said text)) is some room = omega (arith, room)

less_by : (s : SessionState) (r : Option ReplyParser) (place : ℕ) (piece : List ℕ) → s.intake.reading ≡ r → s.trouble ≡ None → told_with s.intake [] ≡ Some (Err (faults.Short place)) → 0 < length piece → most_left (fed s piece).intake < most_by r s.intake.bound (room_in s.intake)
less_by s None place piece is well short some = absurd (let e = rw is at short in cc)
less_by s (Some r) place piece is well short some =
    let taken : SessionState = record s { intake = taking piece s.intake } in
    let same : taken ≡ with_bytes s r (s.intake.pending ++ piece) = ap (λ (x : Option ReplyParser). record s { intake = record { bound = s.intake.bound; place = s.intake.place; pending = s.intake.pending ++ piece; reading = x } }) is in
    let told : told_from s.intake.bound r s.intake.place (s.intake.pending ++ []) ≡ Err (faults.Short place) = (let e = rw is at short in cc) in
    let room : 0 < room_at s.intake.bound s.intake.place s.intake.pending = short_room s.intake.bound s.intake.place place r s.intake.pending (ap (told_from s.intake.bound r s.intake.place) (sym (append-nil s.intake.pending)) ∙ told) in
    let now : SessionState = with_bytes s r (s.intake.pending ++ piece) in
    let first = asks_within s r s.intake.pending piece (told_from s.intake.bound r s.intake.place ((s.intake.pending ++ piece) ++ [])) refl some room in
    let asked : SessionState = read_one asks now in
    let second = rests_within (replies_behind r * (s.intake.bound + 4) + room_in s.intake) asked (told_with asked.intake []) (omega (arith, room)) first in
    subst (λ (t : SessionState). most_left t.intake < replies_behind r * (s.intake.bound + 4) + room_in s.intake) (sym (fed_is s piece s.trouble well ∙ ap (λ (t : SessionState). read_one rests (read_one asks t)) same)) second

-- with each byte less may come
pub fed_less : (s : SessionState) (piece : List ℕ) → s.trouble ≡ None → IsAwaiting s → 0 < length piece → most_left (fed s piece).intake < most_left s.intake
fed_less s piece well short some = less_by s s.intake.reading short.0 piece refl well short.1 some
