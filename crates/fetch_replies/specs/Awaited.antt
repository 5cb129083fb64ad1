-- Each reply that can be awaited, read line by line: what a line does to what was told so far.
use Rattle.std.specs.Prelude.{ℕ, List, [], ◌∷◌, ◌++◌, Option, Some, None, Result, if◌then◌else◌}
use Rattle.std.specs.Option.{option_and_then}
use Rattle.fetch_base.specs.declared.id.Kind.{Kind}
use Rattle.fetch_replies.specs.declared.replies.reply.ReplyKind.{ReplyKind}
use Rattle.fetch_replies.specs.declared.replies.reply.ReplyKind.TheVariants.{Greeting, Listing, Reply}
use Rattle.fetch_replies.specs.declared.replies.reply.ReplyError.{ReplyError}
use Rattle.fetch_replies.specs.declared.replies.reply.ParsedReply.{ParsedReply}
use Rattle.fetch_replies.specs.declared.replies.reply.ParsedReply.TheVariants as told
use Rattle.fetch_lines.specs.declared.greetings.handshake.Capability.{Capability}
use Rattle.fetch_lines.specs.declared.lines.line.Line.{Line}
use Rattle.fetch_replies.specs.declared.replies.parser.Part.TheVariants as parts
use Rattle.fetch_replies.specs.declared.replies.parser.ReplyParser.{ReplyParser}
use Rattle.fetch_replies.specs.declared.replies.parser.ReplyParser.TheVariants as reading
use Rattle.fetch_lines.specs.declared.listings.reference.Ref.{Ref}
use Rattle.fetch_replies.specs.Advertisements.{is_version_1, at_first, at_advertised}
use Rattle.fetch_lines.specs.FetchRecords.{no_reply}
use Rattle.fetch_replies.specs.FetchReplies.{reply_step}
use Rattle.fetch_lines.specs.Greetings.{is_version_2, if_known, capability_in, handshake_of}
use Rattle.fetch_replies.specs.Listings.{if_new, ref_in}
use Rattle.fetch_replies.specs.Stepping.{Step, goes, ends, breaks, or_breaks, read_by}
use Rattle.fetch_replies.specs.Steps.{by_line, by_text}

-- the first line of a greeting: `version 2`, `version 1`, or the first reference
abbrev pub at_greeting : List ℕ → Step ReplyParser ParsedReply
at_greeting text =
    if is_version_2 text then goes (reading.Capabilities []) else (
    if is_version_1 text then goes reading.Version else or_breaks (at_first text) (λ s. goes s))

-- the reading after a line of a greeting
abbrev pub at_capability : List Capability → List ℕ → Step ReplyParser ParsedReply
at_capability before text = or_breaks (option_and_then if_known (capability_in text)) (λ c. goes (reading.Capabilities (before ++ c ∷ [])))

-- the reading after a line of a listing
abbrev pub at_listed : Kind → List Ref → List ℕ → Step ReplyParser ParsedReply
at_listed kind before text = or_breaks (option_and_then (if_new before) (ref_in kind text))
    (λ r. goes (reading.Listing kind (before ++ r ∷ [])))

-- what is told before the first line of a reply that is awaited
abbrev pub start_of : ReplyKind → ReplyParser
start_of Greeting = reading.Greeting
start_of (Listing kind) = reading.Listing kind []
start_of (Reply asked) = reading.Reply asked parts.Beginning no_reply

-- the texts of the server's progress that were told so far, where a reply to a fetch request is read
abbrev pub progress_in : ReplyParser → Option (List (List ℕ))
progress_in reading.Greeting = None
progress_in (reading.Capabilities before) = None
progress_in reading.Version = None
progress_in (reading.Advertisement handshake before next) = None
progress_in (reading.Listing kind before) = None
progress_in (reading.Reply asked part reply) = Some reply.progress

-- how many replies come behind this one without another request: after a greeting the listing
abbrev pub replies_behind : ReplyParser → ℕ
replies_behind reading.Greeting = 1
replies_behind (reading.Capabilities before) = 1
replies_behind reading.Version = 1
replies_behind (reading.Advertisement handshake before next) = 1
replies_behind (reading.Listing kind before) = 0
replies_behind (reading.Reply asked part reply) = 0

-- the next line, where this was told before it
unfoldable pub step_of : ReplyParser → Line → Step ReplyParser ParsedReply
step_of reading.Greeting line = by_text at_greeting line
step_of (reading.Capabilities before) line = by_line (ends (told.Greeting (handshake_of before))) breaks (at_capability before) line
step_of reading.Version line = by_text (λ text. or_breaks (at_first text) (λ s. goes s)) line
step_of (reading.Advertisement handshake before next) line =
    by_line (ends (told.Advertisement handshake before)) breaks (at_advertised handshake before next) line
step_of (reading.Listing kind before) line = by_line (ends (told.Listing before)) breaks (at_listed kind before) line
step_of (reading.Reply asked part reply) line = reply_step asked part reply line

-- What bytes tell, read on from what was told before this place, and what follows.
abbrev pub told_from : ℕ → ReplyParser → ℕ → List ℕ → Result (ParsedReply × List ℕ) ReplyError
told_from bound reading place bytes = read_by step_of bound reading place bytes

-- What bytes tell of the reply that is awaited, of bounded length, and what follows the reply; or else the first
-- trouble: they end within it, a line breaks the grammar, its digits pass the bound, or the server says that it fails.
abbrev pub told_at : ℕ → ReplyKind → List ℕ → Result (ParsedReply × List ℕ) ReplyError
told_at bound awaited bytes = told_from bound (start_of awaited) 0 bytes
