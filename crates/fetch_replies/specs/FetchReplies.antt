-- What a server answers to a fetch request, line by line.
use Rattle.std.specs.Prelude.{ℕ, Bool, false, List, [], ◌∷◌, ◌++◌, Option, Some, None, ◌==◌, if◌then◌else◌, codes}
use Rattle.std.specs.Option.{option_and_then}
use Rattle.std.specs.Str.{bytes_eq}
use Rattle.fetch_base.specs.Scan.{after}
use Rattle.fetch_base.specs.Id.{id_in_hex}
use Rattle.fetch_base.specs.declared.id.Kind.{Kind}
use Rattle.fetch_base.specs.declared.id.ObjectId.{ObjectId}
use Rattle.fetch_replies.specs.declared.replies.reply.ReplyContext.{ReplyContext}
use Rattle.fetch_replies.specs.declared.replies.reply.ParsedReply.{ParsedReply}
use Rattle.fetch_replies.specs.declared.replies.reply.ParsedReply.TheVariants as told
use Rattle.fetch_lines.specs.declared.lines.line.Line.{Line}
use Rattle.fetch_lines.specs.declared.lines.line.Line.TheVariants.{Payload, Flush, Delim, End}
use Rattle.fetch_replies.specs.declared.replies.parser.Part.{Part}
use Rattle.fetch_replies.specs.declared.replies.parser.Part.TheVariants.{Beginning, Acknowledgments, Ready, Rest, ShallowInfo, Packfile}
use Rattle.fetch_replies.specs.declared.replies.parser.Part.TheVariants.{Bands}
use Rattle.fetch_replies.specs.declared.replies.parser.ReplyParser.{ReplyParser}
use Rattle.fetch_replies.specs.declared.replies.parser.ReplyParser.TheVariants as reading
use Rattle.fetch_lines.specs.declared.requests.records.FetchReply.{FetchReply}
use Rattle.fetch_lines.specs.KnownIds.{has_id, each_once}
use Rattle.fetch_replies.specs.Stepping.{Step, goes, ends, breaks, says, or_breaks}
use Rattle.fetch_replies.specs.Steps.{by_line, by_text}

-- whether a text begins the acknowledgments
unfoldable pub is_acknowledgments : List ℕ → Bool
is_acknowledgments text = bytes_eq text (codes "acknowledgments")

-- whether a text acknowledges nothing
unfoldable pub is_nak : List ℕ → Bool
is_nak text = bytes_eq text (codes "NAK")

-- whether a text says that the pack follows
unfoldable pub is_ready : List ℕ → Bool
is_ready text = bytes_eq text (codes "ready")

-- whether a text begins the pack
unfoldable pub is_packfile : List ℕ → Bool
is_packfile text = bytes_eq text (codes "packfile")

-- whether a text begins the moves of the border
unfoldable pub is_shallow_info : List ℕ → Bool
is_shallow_info text = bytes_eq text (codes "shallow-info")

-- an id, where it is one of the haves
abbrev pub if_have : List ObjectId → ObjectId → Option ObjectId
if_have haves id = if has_id id haves then Some id else None

-- the have that `ACK <id>` acknowledges
unfoldable pub acknowledged_in : ReplyContext → List ℕ → Option ObjectId
acknowledged_in asked text = option_and_then (λ hex. option_and_then (if_have asked.haves) (id_in_hex asked.kind hex))
    (after (codes "ACK ") text)

-- the id of `shallow <id>`
unfoldable pub shallow_in : Kind → List ℕ → Option ObjectId
shallow_in kind text = option_and_then (id_in_hex kind) (after (codes "shallow ") text)

-- the id of `unshallow <id>`
unfoldable pub unshallow_in : Kind → List ℕ → Option ObjectId
unshallow_in kind text = option_and_then (id_in_hex kind) (after (codes "unshallow ") text)

-- `packfile`: the bands follow, or the reply ends where the pack isn't read
abbrev pub at_packfile : ReplyContext → FetchReply → List ℕ → Step ReplyParser ParsedReply
at_packfile asked reply text =
    if is_packfile text then (if asked.read_pack then goes (reading.Reply asked Bands (record reply { pack = Some [] }))
    else ends (told.Reply reply)) else breaks

-- `shallow-info` or `packfile`
abbrev pub at_rest : ReplyContext → FetchReply → List ℕ → Step ReplyParser ParsedReply
at_rest asked reply text = if is_shallow_info text then goes (reading.Reply asked ShallowInfo reply) else at_packfile asked reply text

-- The first line: `acknowledgments` in a round that doesn't end them.
abbrev pub at_beginning : ReplyContext → FetchReply → List ℕ → Step ReplyParser ParsedReply
at_beginning asked reply text =
    if asked.done then at_rest asked reply text
    else (if is_acknowledgments text then goes (reading.Reply asked Acknowledgments reply) else breaks)

-- `NAK`, `ready`, or `ACK <id>`
abbrev pub at_acknowledgment : ReplyContext → FetchReply → List ℕ → Step ReplyParser ParsedReply
at_acknowledgment asked reply text =
    if is_nak text then goes (reading.Reply asked Acknowledgments reply) else (
    if is_ready text then goes (reading.Reply asked Ready reply) else or_breaks (acknowledged_in asked text)
    (λ id. goes (reading.Reply asked Acknowledgments (record reply { acknowledged = reply.acknowledged ++ id ∷ [] }))))

-- after `ready`: the delimiter alone. What was acknowledged is told once.
abbrev pub behind_ready : ReplyContext → FetchReply → Line → Step ReplyParser ParsedReply
behind_ready asked reply (Payload payload) = breaks
behind_ready asked reply Flush = breaks
behind_ready asked reply Delim = goes (reading.Reply asked Rest (record reply { acknowledged = each_once reply.acknowledged }))
behind_ready asked reply End = breaks

-- the id of `shallow <id>`, or that of `unshallow <id>`
abbrev pub at_change : ReplyContext → FetchReply → Option ObjectId → Option ObjectId → Step ReplyParser ParsedReply
at_change asked reply (Some id) unshallow = goes (reading.Reply asked ShallowInfo (record reply { shallow = reply.shallow ++ id ∷ [] }))
at_change asked reply None (Some id) = goes (reading.Reply asked ShallowInfo (record reply { unshallow = reply.unshallow ++ id ∷ [] }))
at_change asked reply None None = breaks

-- the pack with more bytes after it
abbrev pub with_bytes : Option (List ℕ) → List ℕ → Option (List ℕ)
with_bytes None bytes = Some bytes
with_bytes (Some pack) bytes = Some (pack ++ bytes)

-- a band: 1 is the pack, 2 is progress, 3 is why the server fails
abbrev pub by_band : ReplyContext → FetchReply → ℕ → List ℕ → Step ReplyParser ParsedReply
by_band asked reply band bytes =
    if band == 1 then goes (reading.Reply asked Bands (record reply { pack = with_bytes reply.pack bytes })) else (
    if band == 2 then goes (reading.Reply asked Bands (record reply { progress = reply.progress ++ bytes ∷ [] })) else (
    if band == 3 then says bytes else breaks))

-- the reading after a line of the pack
abbrev pub at_band : ReplyContext → FetchReply → Line → Step ReplyParser ParsedReply
at_band asked reply (Payload (band ∷ bytes)) = by_band asked reply band bytes
at_band asked reply (Payload []) = breaks
at_band asked reply Flush = ends (told.Reply reply)
at_band asked reply Delim = breaks
at_band asked reply End = breaks

-- The next line of a reply to this request. Without `done` it is `acknowledgments` up to a flush, and no rest follows,
-- or up to `ready` and a delimiter, and the rest follows. With `done` the rest stands alone: `shallow-info` up to a
-- delimiter, where the border changes, then `packfile`, and bands up to a flush. Each acknowledged id is told once, where it
-- first was.
abbrev pub reply_step : ReplyContext → Part → FetchReply → Line → Step ReplyParser ParsedReply
reply_step asked Beginning reply line = by_text (at_beginning asked reply) line
reply_step asked Acknowledgments reply line =
    by_line (ends (told.Reply (record reply { acknowledged = each_once reply.acknowledged; last = false }))) breaks
    (at_acknowledgment asked reply) line
reply_step asked Ready reply line = behind_ready asked reply line
reply_step asked Rest reply line = by_text (at_rest asked reply) line
reply_step asked ShallowInfo reply line = by_line breaks (goes (reading.Reply asked Packfile reply))
    (λ text. at_change asked reply (shallow_in asked.kind text) (unshallow_in asked.kind text)) line
reply_step asked Packfile reply line = by_text (at_packfile asked reply) line
reply_step asked Bands reply line = at_band asked reply line
