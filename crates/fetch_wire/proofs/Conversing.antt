-- A session takes bytes, and reads on.
use Rattle.std.proofs.Common.{◌≡◌, ℕ, Bool, true, false, List, [], ◌++◌, Option, Some, None, Result, Ok, Err, refl, sym, ap, ◌∙◌, subst}
use Rattle.fetch_replies.specs.declared.replies.reply.ReplyContext.{ReplyContext}
use Rattle.fetch_replies.specs.declared.replies.reply.ReplyKind.TheVariants as awaits
use Rattle.fetch_replies.specs.declared.replies.reply.ReplyError.{ReplyError}
use Rattle.fetch_replies.specs.declared.replies.reply.ReplyError.TheVariants as faults
use Rattle.fetch_replies.specs.declared.replies.reply.ParsedReply.{ParsedReply}
use Rattle.fetch_replies.specs.declared.replies.reply.ParsedReply.TheVariants as told
use Rattle.fetch_lines.specs.declared.error.WireError.{WireError}
use Rattle.fetch_lines.specs.declared.error.WireError.TheVariants as errors
use Rattle.fetch_lines.specs.declared.greetings.handshake.Handshake.{Handshake}
use Rattle.fetch_replies.specs.declared.replies.reply_buffer.FoundReply.{FoundReply}
use Rattle.fetch_lines.specs.declared.requests.records.Request.{Request}
use Rattle.fetch_lines.specs.Greetings.{offers}
use Rattle.fetch_replies.specs.Intakes.{ReplyBuffer, told_with, awaiting, taking, Finds, ReadsOn}
use Rattle.fetch_lines.specs.RequestLines.{request_lines}
use Rattle.fetch_lines.specs.Requests.{listing_lines}
use Rattle.fetch_wire.specs.SessionStates.{SessionState, IsAlike, IsKept, lost, stored, Takes, after_told, read_one, rests, asks, asks_listing, keeps, listing_feature, fed, fed_by, read_on, requested, asked_by, refusal_of, if_told}
use Rattle.fetch_lines.specs.Written.{lines_text, first_too_long}

pub same : (s : SessionState) → IsAlike s s
same s = record { intake = record { bound = refl; told = λ more. refl; room = refl; behind = refl; resting = λ e. refl }; others = refl }

-- what was found of the awaited reply was kept
pub stored_is : (s : SessionState) (i before : ReplyBuffer) (what : FoundReply) (found : Option (Result (ParsedReply × List ℕ) ReplyError)) → Finds before found i what
    → IsAlike (stored what (record s { intake = i })) (after_told rests (record s { intake = before }) found)
stored_is s i before what None h = rw (h.0, h.1) (same (record s { intake = before }))
stored_is s i before what (Some (Ok x)) h = rw (h.0, h.1) (same _)
stored_is s i before what (Some (Err (faults.Short place))) h = rw h.1 (record { intake = h.0; others = refl })
stored_is s i before what (Some (Err (faults.Broken place))) h = rw (h.0, h.1) (same _)
stored_is s i before what (Some (Err faults.TooLong)) h = rw (h.0, h.1) (same _)
stored_is s i before what (Some (Err (faults.Said text))) h = rw (h.0, h.1) (same _)

-- the references were asked for
pub listed_is : (s : SessionState) (h : Handshake) (text : List ℕ) (i : ReplyBuffer) (what : FoundReply) → first_too_long (listing_lines h s.agent s.prefixes) ≡ None → offers listing_feature h.capabilities ≡ true
    → text ≡ lines_text (listing_lines h s.agent s.prefixes) → ReadsOn (awaiting (awaits.Listing h.object_hash) s.intake) i what
    → IsAlike (stored what (record s { intake = i; outgoing = s.outgoing ++ text; handshake = Some h })) (read_one rests (asks_listing h (keeps (told.Greeting h) s)))
listed_is s h text i what fits offered is reads =
    rw (fits, offered, is) (stored_is (record s { outgoing = s.outgoing ++ lines_text (listing_lines h s.agent s.prefixes); handshake = Some h }) i (awaiting (awaits.Listing h.object_hash) s.intake) what (told_with (awaiting (awaits.Listing h.object_hash) s.intake) []) reads)

-- a request was made
pub requested_is : (s : SessionState) (r : Request) (read_pack : Bool) (text : List ℕ) (asked : ReplyContext) (i : ReplyBuffer) (what : FoundReply) → text ≡ lines_text (request_lines r) → asked ≡ asked_by s r read_pack
    → ReadsOn (awaiting (awaits.Reply asked) s.intake) i what → IsAlike (stored what (record s { intake = i; outgoing = text; reply = None })) (requested s r read_pack)
requested_is s r read_pack text asked i what is same_asked reads =
    rw (is, ← same_asked) (stored_is (record s { outgoing = lines_text (request_lines r); reply = None }) i (awaiting (awaits.Reply asked) s.intake) what (told_with (awaiting (awaits.Reply asked) s.intake) []) reads)

taken_by : (s : SessionState) (before i : ReplyBuffer) (what : FoundReply) (now : SessionState) (found : Option (Result (ParsedReply × List ℕ) ReplyError)) → told_with before [] ≡ found → Finds before found i what → Takes what (record s { intake = i }) now
    → IsAlike now (read_one rests (after_told asks (record s { intake = before }) found))
taken_by s before i what now None is h takes = rw (rw (h.0, h.1) at takes, is) (same (record s { intake = before }))
taken_by s before i what now (Some (Ok (told.Greeting greeting, rest))) is h takes = rw (h.0, h.1) at takes
taken_by s before i what now (Some (Ok (told.Advertisement greeting refs, rest))) is h takes = rw (rw (h.0, h.1) at takes) (same _)
taken_by s before i what now (Some (Ok (told.Listing refs, rest))) is h takes = rw (rw (h.0, h.1) at takes) (same _)
taken_by s before i what now (Some (Ok (told.Reply reply, rest))) is h takes = rw (rw (h.0, h.1) at takes) (same _)
taken_by s before i what now (Some (Err (faults.Short place))) is h takes = rw (rw h.1 at takes, is) (record { intake = h.0; others = refl })
taken_by s before i what now (Some (Err (faults.Broken place))) is h takes = rw (rw (h.0, h.1) at takes) (same _)
taken_by s before i what now (Some (Err faults.TooLong)) is h takes = rw (rw (h.0, h.1) at takes) (same _)
taken_by s before i what now (Some (Err (faults.Said text))) is h takes = rw (rw (h.0, h.1) at takes) (same _)

pub fed_is : (s : SessionState) (piece : List ℕ) (trouble : Option WireError) → trouble ≡ None → fed_by trouble s piece ≡ read_on (record s { intake = taking piece s.intake })
fed_is s piece None h = refl
fed_is s piece (Some e) h = absurd (cc)

none_told : (b : Bool) → if_told b None ≡ None
none_told true = refl
none_told false = refl

-- after a trouble none is read
pub unread : (s : SessionState) (piece : List ℕ) → (refusal_of s ≡ None → ⊥) → IsAlike s (fed s piece)
unread s piece refuses = by_trouble s.trouble refl
  where
    by_trouble : (trouble : Option WireError) → s.trouble ≡ trouble → IsAlike s (fed_by trouble s piece)
    by_trouble None is = absurd (refuses (ap (if_told _) is ∙ none_told _))
    by_trouble (Some e) is = same s

-- bytes were taken
pub taken_is : (s : SessionState) (piece : List ℕ) (i : ReplyBuffer) (what : FoundReply) (now : SessionState) → s.trouble ≡ None → ReadsOn (taking piece s.intake) i what → Takes what (record s { intake = i }) now → IsAlike now (fed s piece)
taken_is s piece i what now well reads takes =
    subst (IsAlike now) (sym (fed_is s piece s.trouble well)) (taken_by s (taking piece s.intake) i what now (told_with (taking piece s.intake) []) refl reads takes)

lost_by : (a b : SessionState) → a.intake.bound ≡ b.intake.bound → record a { intake = b.intake } ≡ b → lost a ≡ lost b
lost_by a b bound others =
    ap (λ (n : ℕ). record a { intake = record { bound = n; place = 0; pending = []; reading = None }; trouble = Some errors.NoMemory; refused = true }) bound
    ∙ ap (λ (s : SessionState). record s { intake = record { bound = b.intake.bound; place = 0; pending = []; reading = None }; trouble = Some errors.NoMemory; refused = true }) others

-- what is lost is all that wasn't told
pub lost_kept : (s now : SessionState) → IsKept s now → lost now ≡ lost s
lost_kept s now h = lost_by now s h.bound h.others

pub lost_alike : (a b : SessionState) → IsAlike a b → lost a ≡ lost b
lost_alike a b h = lost_by a b h.intake.bound h.others

pub same_refusal : (a b : SessionState) → IsAlike a b → refusal_of a ≡ refusal_of b
same_refusal a b h = ap refusal_of h.others
