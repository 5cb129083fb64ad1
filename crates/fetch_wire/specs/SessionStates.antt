-- A session: what it sends, what it takes in, and what it was told.
use Rattle.std.specs.Prelude.{◌≡◌, ◌⊎◌, ℕ, Bool, true, false, List, [], ◌∷◌, ◌++◌, Option, Some, None, Result, Ok, Err, codes, is_some}
use Rattle.std.specs.Prelude.{length, ◌==◌, ◌||◌, ⊤}
use Rattle.std.specs.Option.{option_and_then}
use Rattle.fetch_base.specs.declared.id.Kind.{Kind}
use Rattle.fetch_base.specs.declared.id.Kind.TheVariants.{Sha1}
use Rattle.fetch_replies.specs.declared.replies.reply.ReplyContext.{ReplyContext}
use Rattle.fetch_replies.specs.declared.replies.reply.ReplyKind.TheVariants as awaits
use Rattle.fetch_replies.specs.declared.replies.reply.ReplyError.{ReplyError}
use Rattle.fetch_replies.specs.declared.replies.reply.ReplyError.TheVariants as faults
use Rattle.fetch_replies.specs.declared.replies.reply.ParsedReply.{ParsedReply}
use Rattle.fetch_replies.specs.declared.replies.reply.ParsedReply.TheVariants as told
use Rattle.fetch_lines.specs.declared.error.WireError.{WireError}
use Rattle.fetch_lines.specs.declared.error.WireError.TheVariants as errors
use Rattle.fetch_lines.specs.declared.greetings.handshake.Handshake.{Handshake}
use Rattle.fetch_replies.specs.declared.replies.reply_buffer.FoundReply.{FoundReply}
use Rattle.fetch_replies.specs.declared.replies.reply_buffer.FoundReply.TheVariants as found
use Rattle.fetch_lines.specs.declared.lines.line.Line.{Line}
use Rattle.fetch_lines.specs.declared.requests.records.FetchReply.{FetchReply}
use Rattle.fetch_lines.specs.declared.requests.records.Request.{Request}
use Rattle.fetch_lines.specs.declared.listings.reference.Ref.{Ref}
use Rattle.fetch_replies.specs.declared.replies.parser.ReplyParser.{ReplyParser}
use Rattle.fetch_wire.specs.declared.session.turn.Turn.{Turn}
use Rattle.fetch_wire.specs.declared.session.turn.Turn.TheVariants as turns
use Rattle.fetch_replies.specs.Awaited.{start_of, progress_in}
use Rattle.fetch_lines.specs.Greetings.{offers}
use Rattle.fetch_replies.specs.Intakes.{ReplyBuffer, told_with, resting, awaiting, taking}
use Rattle.fetch_replies.specs.Intakes as intakes
use Rattle.fetch_lines.specs.RequestLines.{request_lines}
use Rattle.fetch_lines.specs.Requests.{listing_lines}
use Rattle.fetch_lines.specs.Written.{lines_text, first_too_long}

-- A session: what its listing request is made of, what is to be sent, and what came and wasn't read yet, with the reply
-- that is awaited. The records are those of the replies that were read whole. `trouble` is why it can't go on, and
-- `refused` whether it is answered though something is still to be sent.
pub record SessionState : Type 0 where
  pub agent : List ℕ
  pub prefixes : List (List ℕ)
  pub outgoing : List ℕ
  pub intake : ReplyBuffer
  pub handshake : Option Handshake
  pub refs : Option (List Ref)
  pub reply : Option FetchReply
  pub trouble : Option WireError
  pub refused : Bool

-- a session whose first line is to be sent, and which awaits the greeting
abbrev pub opened : ℕ → List ℕ → List (List ℕ) → Line → SessionState
opened bound agent prefixes first = record {
  agent = agent;
  prefixes = prefixes;
  outgoing = lines_text (first ∷ []);
  intake = record { bound = bound; place = 0; pending = []; reading = Some (start_of awaits.Greeting) };
  handshake = None;
  refs = None;
  reply = None;
  trouble = None;
  refused = false;
}

-- what a fault of a reply is to a caller. A reply that is short at its end isn't whole.
abbrev pub error_of : ℕ → ReplyError → WireError
error_of bound (faults.Short place) = errors.Malformed place
error_of bound (faults.Broken place) = errors.Malformed place
error_of bound faults.TooLong = errors.ReplyTooLong bound
error_of bound (faults.Said text) = errors.ServerError text

-- it can't go on, and what it didn't read is forgotten
abbrev pub failing : WireError → SessionState → SessionState
failing e s = record s { intake = resting [] s.intake; trouble = Some e }

-- ---- what a whole reply does

-- what it told is kept
abbrev pub keeps : ParsedReply → SessionState → SessionState
keeps (told.Greeting h) s = record s { handshake = Some h }
keeps (told.Advertisement h refs) s = record s { handshake = Some h; refs = Some refs }
keeps (told.Listing refs) s = record s { refs = Some refs }
keeps (told.Reply reply) s = record s { reply = Some reply }

-- the capability that lists references
unfoldable pub listing_feature : List ℕ
listing_feature = codes "ls-refs"

-- these lines are sent, and the references awaited
abbrev pub listing_by : Option ℕ → Bool → Handshake → List Line → SessionState → SessionState
listing_by (Some n) offered h lines s = failing (errors.LineTooLong n) s
listing_by None false h lines s = failing (errors.MissingFeature listing_feature) s
listing_by None true h lines s = record s {
  intake = awaiting (awaits.Listing h.object_hash) s.intake;
  outgoing = s.outgoing
      ++ lines_text lines;
}

-- The references are asked for. A line of that request that is too long comes first, and then a server that doesn't list.
abbrev pub asks_listing : Handshake → SessionState → SessionState
asks_listing h s =
    let lines = listing_lines h s.agent s.prefixes in
    listing_by (first_too_long lines) (offers listing_feature h.capabilities) h lines s

-- after a greeting of version 2 the references are asked for
abbrev pub asks : ParsedReply → SessionState → SessionState
asks (told.Greeting h) s = asks_listing h s
asks (told.Advertisement h refs) s = s
asks (told.Listing refs) s = s
asks (told.Reply reply) s = s

-- nothing is asked for
abbrev pub rests : ParsedReply → SessionState → SessionState
rests t s = s

-- the texts of the server's progress in the last reply, where it was read whole or is awaited
abbrev pub progress_by : Option FetchReply → Option ReplyParser → Option (List (List ℕ))
progress_by (Some reply) reading = Some reply.progress
progress_by None reading = option_and_then progress_in reading

-- those texts in a session
abbrev pub progress_of : SessionState → Option (List (List ℕ))
progress_of s = progress_by s.reply s.intake.reading

-- ---- reading

-- by what the awaited reply tells, and what is asked then
abbrev pub after_told : (ParsedReply → SessionState → SessionState) → SessionState → Option (Result (ParsedReply × List ℕ) ReplyError)
    → SessionState
after_told asking s None = s
after_told asking s (Some (Ok x)) = asking x.0 (keeps x.0 (record s { intake = resting x.1 s.intake }))
after_told asking s (Some (Err (faults.Short place))) = s
after_told asking s (Some (Err (faults.Broken place))) = failing (errors.Malformed place) s
after_told asking s (Some (Err faults.TooLong)) = failing (errors.ReplyTooLong s.intake.bound) s
after_told asking s (Some (Err (faults.Said text))) = failing (errors.ServerError text) s

-- The awaited reply is read, where it is whole or can't be.
abbrev pub read_one : (ParsedReply → SessionState → SessionState) → SessionState → SessionState
read_one asking s = after_told asking s (told_with s.intake [])

-- Reads on as far as replies are whole: after a greeting the listing, and after each other reply none is awaited.
abbrev pub read_on : SessionState → SessionState
read_on s = read_one rests (read_one asks s)

-- a session that is fed a piece, unless it refuses
abbrev pub fed_by : Option WireError → SessionState → List ℕ → SessionState
fed_by (Some e) s piece = s
fed_by None s piece = read_on (record s { intake = taking piece s.intake })

-- More bytes came. After a trouble none is read.
abbrev pub fed : SessionState → List ℕ → SessionState
fed s piece = fed_by s.trouble s piece

-- The same but for how much of the awaited reply was read: whatever comes next, both are told the same.
pub record IsAlike (a b : SessionState) : Type 0 where
  pub intake : intakes.IsAlike a.intake b.intake
  pub others : record a { intake = b.intake } ≡ b

-- the same but for what came and wasn't read yet
pub record IsKept (before now : SessionState) : Type 0 where
  pub bound : now.intake.bound ≡ before.intake.bound
  pub others : record now { intake = before.intake } ≡ before

-- it goes on no more, for want of memory
abbrev pub lost : SessionState → SessionState
lost s = record (failing errors.NoMemory s) { refused = true }

-- Memory ran out while a piece was taken: what was told before it is kept, or what was told with it.
abbrev pub IsLost : SessionState → List ℕ → SessionState → Type 0
IsLost s piece now = (now ≡ lost s) ⊎ (now ≡ lost (fed s piece))

-- ---- what is answered

-- nothing is to be sent
abbrev pub is_all_sent : SessionState → Bool
is_all_sent s = length s.outgoing == 0

-- a trouble, once all is sent
abbrev pub if_told : Bool → Option WireError → Option WireError
if_told true trouble = trouble
if_told false trouble = None

-- The trouble that a call answers: one that a call answered before, or one that stands where all is sent. A trouble
-- found in bytes fed ahead waits until then.
abbrev pub refusal_of : SessionState → Option WireError
refusal_of s = if_told (s.refused || is_all_sent s) s.trouble

-- whose turn it is
abbrev pub turn_by : Option WireError → Bool → Bool → Turn
turn_by (Some e) all_sent awaits = turns.Failed
turn_by None false awaits = turns.Send
turn_by None true true = turns.Receive
turn_by None true false = turns.Idle

-- whose turn it is: a refusal comes first, then what is to be sent, and then a reply that is awaited
abbrev pub turn_of : SessionState → Turn
turn_of s = turn_by (refusal_of s) (is_all_sent s) (is_some s.intake.reading)

-- What was fed after the replies read is a proper prefix of the awaited one, and no digits in it pass the bound.
abbrev pub IsAwaiting : SessionState → Type 0
IsAwaiting s = (place : ℕ) × (told_with s.intake [] ≡ Some (Err (faults.Short place)))

-- out of memory
abbrev pub is_memory : WireError → Bool
is_memory errors.NoMemory = true
is_memory _ = false

-- ---- calls

-- a session after the peer's bytes ended
abbrev pub after_end : SessionState → Option WireError → Option (Result (ParsedReply × List ℕ) ReplyError) → SessionState
after_end s (Some e) found = record s { refused = true }
after_end s None None = s
after_end s None (Some (Ok x)) = s
after_end s None (Some (Err fault)) = record (failing (error_of s.intake.bound fault) s) { refused = true }

-- The peer's bytes end: a reply that is awaited isn't whole.
abbrev pub ended : SessionState → SessionState
ended s = after_end s s.trouble (told_with s.intake [])

-- the hash of a greeting, SHA-1 before it was read
abbrev pub kind_of : Option Handshake → Kind
kind_of None = Sha1
kind_of (Some h) = h.object_hash

-- what the reply to a request depends on
abbrev pub asked_by : SessionState → Request → Bool → ReplyContext
asked_by s r read_pack = record { kind = kind_of s.handshake; haves = r.haves; done = r.done; read_pack = read_pack }

-- The request's lines are to be sent, and its reply is awaited. What was fed ahead may be that reply.
abbrev pub requested : SessionState → Request → Bool → SessionState
requested s r read_pack =
    read_one rests (record s {
      intake = awaiting (awaits.Reply (asked_by s r read_pack)) s.intake;
      outgoing = lines_text (request_lines r);
      reply = None;
    })

-- ---- how the code goes

-- what is found of the awaited reply is kept
abbrev pub stored : FoundReply → SessionState → SessionState
stored found.Nothing s = s
stored (found.Whole t) s = keeps t s
stored (found.Refused fault) s = record s { trouble = Some (error_of s.intake.bound fault) }

-- and after a greeting the references are asked for
abbrev pub Takes : FoundReply → SessionState → SessionState → Type 0
Takes found.Nothing s now = now ≡ s
Takes (found.Whole (told.Greeting h)) s now = IsAlike now (read_one rests (asks_listing h (keeps (told.Greeting h) s)))
Takes (found.Whole (told.Advertisement h refs)) s now = now ≡ keeps (told.Advertisement h refs) s
Takes (found.Whole (told.Listing refs)) s now = now ≡ keeps (told.Listing refs) s
Takes (found.Whole (told.Reply reply)) s now = now ≡ keeps (told.Reply reply) s
Takes (found.Refused fault) s now = now ≡ stored (found.Refused fault) s

-- why the references can't be asked for
abbrev pub TellsUnlisted : Option ℕ → Bool → WireError → Type 0
TellsUnlisted long offered errors.NoMemory = ⊤
TellsUnlisted long offered (errors.LineTooLong n) = long ≡ Some n
TellsUnlisted long offered (errors.MissingFeature name) = (long ≡ None) × (offered ≡ false) × (name ≡ listing_feature)
TellsUnlisted long offered (errors.Malformed place) = ⊥
TellsUnlisted long offered (errors.ServerError text) = ⊥
TellsUnlisted long offered (errors.ReplyTooLong bound) = ⊥
TellsUnlisted long offered (errors.BadParameter text place) = ⊥
