-- A reply tells what is awaited: a listing the references, and the reply to a request that reply.
use Rattle.std.proofs.Common.{ℕ, suc, zero, ◌+◌, Bool, true, false, List, [], ◌∷◌, ◌++◌, length, Option, Some, None, Result, Ok, Err}
use Rattle.std.specs.Prelude.{⊤, if◌then◌else◌, ◌==◌}
use Rattle.std.specs.Option.{option_and_then}
use Rattle.fetch_base.specs.declared.id.Kind.{Kind}
use Rattle.fetch_base.specs.declared.id.ObjectId.{ObjectId}
use Rattle.fetch_replies.specs.declared.replies.reply.ReplyContext.{ReplyContext}
use Rattle.fetch_replies.specs.declared.replies.reply.ReplyKind.TheVariants as awaits
use Rattle.fetch_replies.specs.declared.replies.reply.ReplyError.{ReplyError}
use Rattle.fetch_replies.specs.declared.replies.reply.ParsedReply.{ParsedReply}
use Rattle.fetch_replies.specs.declared.replies.reply.ParsedReply.TheVariants as told
use Rattle.fetch_lines.specs.declared.lines.line.Line.{Line}
use Rattle.fetch_lines.specs.declared.lines.line.Line.TheVariants as lines
use Rattle.fetch_replies.specs.declared.replies.parser.Part.{Part}
use Rattle.fetch_replies.specs.declared.replies.parser.Part.TheVariants as parts
use Rattle.fetch_replies.specs.declared.replies.parser.ReplyParser.{ReplyParser}
use Rattle.fetch_replies.specs.declared.replies.parser.ReplyParser.TheVariants as reading
use Rattle.fetch_lines.specs.declared.requests.records.FetchReply.{FetchReply}
use Rattle.fetch_lines.specs.declared.listings.reference.Ref.{Ref}
use Rattle.fetch_lines.specs.declared.lines.section.LineError.{LineError}
use Rattle.fetch_replies.specs.Awaited.{step_of, told_at, at_listed}
use Rattle.fetch_lines.specs.KnownIds.{each_once}
use Rattle.fetch_replies.specs.FetchReplies.{at_packfile, at_rest, at_beginning, at_acknowledgment, behind_ready, at_change, at_band, by_band, acknowledged_in, shallow_in, unshallow_in, is_acknowledgments, is_nak, is_ready, reply_step, with_bytes}
use Rattle.fetch_lines.specs.FetchRecords.{no_reply}
use Rattle.fetch_lines.specs.Lines.{line_at, line_len}
use Rattle.fetch_replies.specs.Listings.{if_new, ref_in}
use Rattle.fetch_replies.specs.FetchReplies.{is_packfile, is_shallow_info}
use Rattle.fetch_replies.specs.Stepping.{Step, goes, ends, breaks, says, or_breaks, after_step, after_line, read_within}
use Rattle.fetch_replies.specs.Steps.{by_line, error_text}
use Rattle.fetch_lines.specs.Texts.{without_lf, is_error}

-- a reading of the one, with what it tells, or of the other
pub data Awaited : Type 0 where
  lists : Awaited
  replies : Awaited

abbrev pub Reads : Awaited → ReplyParser → Type 0
Reads a reading.Greeting = ⊥
Reads a (reading.Capabilities cs) = ⊥
Reads a reading.Version = ⊥
Reads a (reading.Advertisement h listed next) = ⊥
Reads lists (reading.Listing kind listed) = ⊤
Reads replies (reading.Listing kind listed) = ⊥
Reads lists (reading.Reply asked part reply) = ⊥
Reads replies (reading.Reply asked part reply) = ⊤

abbrev pub Tells : Awaited → ParsedReply → Type 0
Tells a (told.Greeting h) = ⊥
Tells a (told.Advertisement h refs) = ⊥
Tells lists (told.Listing refs) = ⊤
Tells replies (told.Listing refs) = ⊥
Tells lists (told.Reply reply) = ⊥
Tells replies (told.Reply reply) = ⊤

abbrev pub TellsAt : Awaited → Result (ParsedReply × List ℕ) ReplyError → Type 0
TellsAt a (Err fault) = ⊤
TellsAt a (Ok x) = Tells a x.0

abbrev Does : Awaited → Step ReplyParser ParsedReply → Type 0
Does a (goes r) = Reads a r
Does a (ends t) = Tells a t
Does a breaks = ⊤
Does a (says text) = ⊤

does_if : (a : Awaited) (b : Bool) (x y : Step ReplyParser ParsedReply) → Does a x → Does a y → Does a (if b then x else y)
does_if a true x y h k = h
does_if a false x y h k = k

does_or : {X : Type 0} (a : Awaited) (found : Option X) (f : X → Step ReplyParser ParsedReply) → ((x : X) → Does a (f x)) → Does a (or_breaks found f)
does_or a None f h = tt
does_or a (Some x) f h = h x

does_line : (a : Awaited) (flush delim : Step ReplyParser ParsedReply) (text : List ℕ → Step ReplyParser ParsedReply) (line : Line) → Does a flush → Does a delim → ((t : List ℕ) → Does a (text t)) → Does a (by_line flush delim text line)
does_line a flush delim text (lines.Payload payload) f d t = does_if a (is_error payload) (says (error_text payload)) (text (without_lf payload)) tt (t (without_lf payload))
does_line a flush delim text lines.Flush f d t = f
does_line a flush delim text lines.Delim f d t = d
does_line a flush delim text lines.End f d t = tt

-- ---- the reply to a request

packfile : (asked : ReplyContext) (reply : FetchReply) (text : List ℕ) → Does replies (at_packfile asked reply text)
packfile asked reply text =
    does_if replies (is_packfile text) (if asked.read_pack then goes (reading.Reply asked parts.Bands (record reply { pack = Some [] })) else ends (told.Reply reply)) breaks
    (does_if replies asked.read_pack (goes (reading.Reply asked parts.Bands (record reply { pack = Some [] }))) (ends (told.Reply reply)) tt tt) tt

rest : (asked : ReplyContext) (reply : FetchReply) (text : List ℕ) → Does replies (at_rest asked reply text)
rest asked reply text = does_if replies (is_shallow_info text) (goes (reading.Reply asked parts.ShallowInfo reply)) (at_packfile asked reply text) tt (packfile asked reply text)

beginning : (asked : ReplyContext) (reply : FetchReply) (text : List ℕ) → Does replies (at_beginning asked reply text)
beginning asked reply text =
    let first : Step ReplyParser ParsedReply = goes (reading.Reply asked parts.Acknowledgments reply) in
    does_if replies asked.done (at_rest asked reply text) (if is_acknowledgments text then first else breaks) (rest asked reply text)
    (does_if replies (is_acknowledgments text) first breaks tt tt)

acknowledgment : (asked : ReplyContext) (reply : FetchReply) (text : List ℕ) → Does replies (at_acknowledgment asked reply text)
acknowledgment asked reply text =
    let again : Step ReplyParser ParsedReply = goes (reading.Reply asked parts.Acknowledgments reply) in
    let ready : Step ReplyParser ParsedReply = goes (reading.Reply asked parts.Ready reply) in
    let f : ObjectId → Step ReplyParser ParsedReply = λ id. goes (reading.Reply asked parts.Acknowledgments (record reply { acknowledged = reply.acknowledged ++ id ∷ [] })) in
    does_if replies (is_nak text) again (if is_ready text then ready else or_breaks (acknowledged_in asked text) f) tt
    (does_if replies (is_ready text) ready (or_breaks (acknowledged_in asked text) f) tt (does_or replies (acknowledged_in asked text) f (λ id. tt)))

ready_line : (asked : ReplyContext) (reply : FetchReply) (line : Line) → Does replies (behind_ready asked reply line)
ready_line asked reply (lines.Payload payload) = tt
ready_line asked reply lines.Flush = tt
ready_line asked reply lines.Delim = tt
ready_line asked reply lines.End = tt

change : (asked : ReplyContext) (reply : FetchReply) (shallow unshallow : Option ObjectId) → Does replies (at_change asked reply shallow unshallow)
change asked reply (Some id) unshallow = tt
change asked reply None (Some id) = tt
change asked reply None None = tt

band_by : (asked : ReplyContext) (reply : FetchReply) (band : ℕ) (bytes : List ℕ) → Does replies (by_band asked reply band bytes)
band_by asked reply band bytes =
    let pack : Step ReplyParser ParsedReply = goes (reading.Reply asked parts.Bands (record reply { pack = with_bytes reply.pack bytes })) in
    let progress : Step ReplyParser ParsedReply = goes (reading.Reply asked parts.Bands (record reply { progress = reply.progress ++ bytes ∷ [] })) in
    let other : Step ReplyParser ParsedReply = if band == 3 then says bytes else breaks in
    does_if replies (band == 1) pack (if band == 2 then progress else other) tt
    (does_if replies (band == 2) progress other tt (does_if replies (band == 3) (says bytes) breaks tt tt))

band_line : (asked : ReplyContext) (reply : FetchReply) (line : Line) → Does replies (at_band asked reply line)
band_line asked reply (lines.Payload (band ∷ bytes)) = band_by asked reply band bytes
band_line asked reply (lines.Payload []) = tt
band_line asked reply lines.Flush = tt
band_line asked reply lines.Delim = tt
band_line asked reply lines.End = tt

reply_line : (asked : ReplyContext) (part : Part) (reply : FetchReply) (line : Line) → Does replies (reply_step asked part reply line)
reply_line asked parts.Beginning reply line = does_line replies breaks breaks (at_beginning asked reply) line tt tt (beginning asked reply)
reply_line asked parts.Acknowledgments reply line = does_line replies (ends (told.Reply (record reply { acknowledged = each_once reply.acknowledged; last = false }))) breaks (at_acknowledgment asked reply) line tt tt (acknowledgment asked reply)
reply_line asked parts.Ready reply line = ready_line asked reply line
reply_line asked parts.Rest reply line = does_line replies breaks breaks (at_rest asked reply) line tt tt (rest asked reply)
reply_line asked parts.ShallowInfo reply line =
    does_line replies breaks (goes (reading.Reply asked parts.Packfile reply)) (λ text. at_change asked reply (shallow_in asked.kind text) (unshallow_in asked.kind text)) line tt tt
    (λ text. change asked reply (shallow_in asked.kind text) (unshallow_in asked.kind text))
reply_line asked parts.Packfile reply line = does_line replies breaks breaks (at_packfile asked reply) line tt tt (packfile asked reply)
reply_line asked parts.Bands reply line = band_line asked reply line

listing_line : (kind : Kind) (before : List Ref) (line : Line) → Does lists (by_line (ends (told.Listing before)) breaks (at_listed kind before) line)
listing_line kind before line =
    does_line lists (ends (told.Listing before)) breaks (at_listed kind before) line tt tt
    (λ text. does_or lists (option_and_then (if_new before) (ref_in kind text)) (λ r. goes (reading.Listing kind (before ++ r ∷ []))) (λ r. tt))

-- ---- a whole reply

step_does : (a : Awaited) (r : ReplyParser) (line : Line) → Reads a r → Does a (step_of r line)
unfolding step_of
step_does a reading.Greeting line h = absurd h
step_does a (reading.Capabilities cs) line h = absurd h
step_does a reading.Version line h = absurd h
step_does a (reading.Advertisement hs listed next) line h = absurd h
step_does lists (reading.Listing kind before) line h = listing_line kind before line
step_does replies (reading.Listing kind before) line h = absurd h
step_does lists (reading.Reply asked part reply) line h = absurd h
step_does replies (reading.Reply asked part reply) line h = reply_line asked part reply line

after_does : (a : Awaited) (place : ℕ) (rest : List ℕ) (f : ReplyParser → Result (ParsedReply × List ℕ) ReplyError) (step : Step ReplyParser ParsedReply) → ((r : ReplyParser) → Reads a r → TellsAt a (f r)) → Does a step → TellsAt a (after_step place rest f step)
after_does a place rest f (goes r) h d = h r d
after_does a place rest f (ends t) h d = d
after_does a place rest f breaks h d = tt
after_does a place rest f (says text) h d = tt

line_does : (a : Awaited) (n bound place : ℕ) (r : ReplyParser) (found : Result (Line × List ℕ) LineError) → Reads a r → ((r : ReplyParser) (p : ℕ) (bytes : List ℕ) → Reads a r → TellsAt a (read_within n step_of bound r p bytes))
    → TellsAt a (after_line found (λ line rest. after_step place rest (λ t. read_within n step_of bound t (place + line_len line) rest) (step_of r line)))
line_does a n bound place r (Err t) h again = tt
line_does a n bound place r (Ok x) h again =
    after_does a place x.1 (λ t. read_within n step_of bound t (place + line_len x.0) x.1) (step_of r x.0) (λ t l. again t (place + line_len x.0) x.1 l) (step_does a r x.0 h)

within_does : (a : Awaited) (n bound : ℕ) (r : ReplyParser) (place : ℕ) (bytes : List ℕ) → Reads a r → TellsAt a (read_within n step_of bound r place bytes)
unfolding read_within
within_does a zero bound r place bytes h = tt
within_does a (suc n) bound r place bytes h = line_does a n bound place r (line_at bound place bytes) h (λ t p rest k. within_does a n bound t p rest k)

-- a listing tells the references
abbrev pub TellsRefs : Result (ParsedReply × List ℕ) ReplyError → Type 0
TellsRefs found = TellsAt lists found

pub listing_tells : (bound : ℕ) (kind : Kind) (bytes : List ℕ) → TellsRefs (told_at bound (awaits.Listing kind) bytes)
listing_tells bound kind bytes = within_does lists (suc (length bytes)) bound (reading.Listing kind []) 0 bytes tt

-- the reply to a request tells that reply
abbrev pub TellsReply : Result (ParsedReply × List ℕ) ReplyError → Type 0
TellsReply found = TellsAt replies found

pub reply_tells : (bound : ℕ) (asked : ReplyContext) (bytes : List ℕ) → TellsReply (told_at bound (awaits.Reply asked) bytes)
reply_tells bound asked bytes = within_does replies (suc (length bytes)) bound (reading.Reply asked parts.Beginning no_reply) 0 bytes tt
