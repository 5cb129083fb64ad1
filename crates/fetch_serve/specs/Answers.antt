-- What the replies of a server tell who asked.
use Rattle.std.specs.Prelude.{ℕ, List, Bool, true, false, ◌||◌, ◌&&◌, Some, is_some, if◌then◌else◌}
use Rattle.fetch_lines.specs.Greetings.{handshake_of}
use Rattle.fetch_lines.specs.FetchRecords.{no_reply}
use Rattle.fetch_lines.specs.ServerLines.{in_round, with_change}
use Rattle.fetch_replies.specs.declared.replies.reply.ReplyKind.{ReplyKind}
use Rattle.fetch_replies.specs.declared.replies.reply.ReplyKind.TheVariants as await
use Rattle.fetch_replies.specs.declared.replies.reply.ParsedReply.{ParsedReply}
use Rattle.fetch_replies.specs.declared.replies.reply.ParsedReply.TheVariants as told
use Rattle.fetch_lines.specs.declared.requests.records.FetchReply.{FetchReply}
use Rattle.fetch_asked.specs.declared.asked.Asked.{Asked}
use Rattle.fetch_asked.specs.declared.asked.Asked.TheVariants.{First, Listing, Fetch}
use Rattle.fetch_asked.specs.declared.asked.FetchAsked.{FetchAsked}
use Rattle.fetch_serve.specs.Offered.{capabilities_of, offered_of}
use Rattle.fetch_serve.specs.Packs.{known_haves}
use Rattle.fetch_serve.specs.Replies.{change_in, first_unoffered, is_too_large, objects_of, pack_with}
use Rattle.fetch_serve.specs.Served.{Data}

-- Whether a fetch request is answered by the line of a server that fails: it wants what isn't offered, or a pack that is too
-- large.
abbrev pub is_refused : Data → FetchAsked → Bool
is_refused d r = is_some (first_unoffered d r) || (r.done && is_too_large r.version (objects_of d r))

-- the same of any request
abbrev pub fails : Data → Asked → Bool
fails d First = false
fails d (Listing unborn prefixes) = false
fails d (Fetch r) = is_refused d r

-- the reply that a request awaits
abbrev pub awaits : Data → Asked → ReplyKind
awaits d First = await.Greeting
awaits d (Listing unborn prefixes) = await.Listing d.hash
awaits d (Fetch r) = await.Reply (record { kind = d.hash; haves = r.haves; done = r.done; read_pack = true })

-- the pack of a request
abbrev pub pack_bytes : Data → FetchAsked → List ℕ
pack_bytes d r = pack_with d r (objects_of d r)

-- what the reply to a fetch request tells: the pack, or the haves that are known
abbrev pub fetched : Data → FetchAsked → FetchReply
fetched d r =
    if r.done then with_change (change_in d r r.depth) (record no_reply { pack = Some (pack_bytes d r) }) else in_round (known_haves d r)

-- what a reply tells
abbrev pub told_of : Data → Asked → ParsedReply
told_of d First = told.Greeting (handshake_of (capabilities_of d.hash))
told_of d (Listing unborn prefixes) = told.Listing (offered_of d unborn prefixes)
told_of d (Fetch r) = told.Reply (fetched d r)
