-- The first stage of a fetch: the greeting, the listing, and the mappings.
use Rattle.std.specs.Prelude.{◌≡◌, ℕ, Bool, true, false, ◌&&◌, List, [], ◌∷◌, ◌++◌, length, map, Option, Some, None, Result, Ok, Err}
use Rattle.std.specs.Prelude.{if◌then◌else◌}
use Rattle.std.specs.List.{list_any}
use Rattle.std.specs.Option.{option_map}
use Rattle.fetch_specs.specs.Conflicts.{conflicts_of}
use Rattle.fetch_specs.specs.Matches.{mappings_of}
use Rattle.fetch_specs.specs.Prefixes.{prefixes_of}
use Rattle.fetch_specs.specs.Specs.{Spec}
use Rattle.fetch_specs.specs.Tagged.{tag_spec_of, is_tag_spec}
use Rattle.fetch_specs.specs.declared.conflict.Conflict.{Conflict}
use Rattle.fetch_specs.specs.declared.tags.Tags.{Tags}
use Rattle.fetch_lines.specs.Greetings.{offers}
use Rattle.fetch_wire.specs.Parameters.{first_bad, texts_told}
use Rattle.fetch_lines.specs.References.{name_in}
use Rattle.fetch_lines.specs.Requests.{first_line, listing_lines}
use Rattle.fetch_wire.specs.SessionStates.{error_of, listing_feature, turn_of, kind_of}
use Rattle.fetch_lines.specs.Written.{first_too_long}
use Rattle.fetch_replies.specs.declared.replies.reply.ReplyKind.TheVariants as awaits
use Rattle.fetch_replies.specs.declared.replies.reply.ReplyError.{ReplyError}
use Rattle.fetch_replies.specs.declared.replies.reply.ParsedReply.{ParsedReply}
use Rattle.fetch_replies.specs.declared.replies.reply.ParsedReply.TheVariants as told
use Rattle.fetch_lines.specs.declared.error.WireError.{WireError}
use Rattle.fetch_lines.specs.declared.error.WireError.TheVariants as wire
use Rattle.fetch_lines.specs.declared.greetings.handshake.Handshake.{Handshake}
use Rattle.fetch_map.specs.declared.mapping.RefMap.{RefMap}
use Rattle.fetch_lines.specs.declared.listings.reference.Ref.{Ref}
use Rattle.fetch_wire.specs.declared.session.turn.Turn.TheVariants as turns
use Rattle.fetch_conversation.specs.Conversation.{Conversation, ends, asks, asks_unless, asking}
use Rattle.fetch_conversation.specs.Mapped.{ref_mappings}
use Rattle.fetch_conversation.specs.declared.listing.LsRefs.{LsRefs}
use Rattle.fetch_conversation.specs.declared.listing.Listed.{Listed}
use Rattle.fetch_conversation.specs.declared.prepare.Error.{Error}
use Rattle.fetch_conversation.specs.declared.prepare.Error.TheVariants as errors
use Rattle.fetch_conversation.specs.declared.ref_map.Error.TheVariants as ref_map
use Rattle.fetch_conversation.specs.declared.ref_map.Options.{Options}

-- what is asked: the server's address and who asks, the remote's refspecs, what is done with tags, and the options
pub record LsRefsValue : Type 0 where
  pub address : List ℕ
  pub agent : List ℕ
  pub specs : List Spec
  pub tags : Tags
  pub options : Options

-- the same, of what was lent
abbrev pub inquiry_told : LsRefs → Options → LsRefsValue
inquiry_told i options = record { address = i.address.now; agent = i.agent.now; specs = i.specs.now; tags = i.tags; options = options }

-- what the stage finds
pub record ListedValue : Type 0 where
  pub ref_map : RefMap
  pub handshake : Handshake

-- ---- refspecs

-- refspecs with this one at the end, unless one is equal
abbrev pub with_spec : Option Spec → List Spec → List Spec
with_spec None extra = extra
with_spec (Some spec) extra = if list_any is_tag_spec extra then extra else extra ++ spec ∷ []

-- the extra refspecs, and the one of the tags after them where tags are taken and it isn't among them
abbrev pub with_tags : Tags → List Spec → List Spec
with_tags tags extra = with_spec (tag_spec_of tags) extra

-- the extra refspecs of an query, with that of the tags
abbrev pub extra_specs : LsRefsValue → List Spec
extra_specs q = with_tags q.tags q.options.extra_refspecs

-- the refspecs of the remote, then the extra ones
abbrev pub all_specs : LsRefsValue → List Spec
all_specs q = q.specs ++ extra_specs q

-- the prefixes that the listing is asked for: none where it isn't filtered
abbrev pub prefixes_asked : LsRefsValue → List (List ℕ)
prefixes_asked q = if q.options.prefix_from_spec_as_filter_on_remote then prefixes_of (all_specs q) else []

-- ---- refusals before anything is sent

-- whether a list is empty
abbrev pub is_nil : {X : Type 0} → List X → Bool
is_nil [] = true
is_nil (x ∷ xs) = false

-- what was sent or received is refused
abbrev pub handshaking : WireError → Error
handshaking e = errors.RefMap (ref_map.Handshake e)

-- a line of the listing request is too long
abbrev pub too_long : ℕ → Error
too_long length = handshaking (wire.LineTooLong length)

-- what is wrong with a reply
abbrev pub failed : ℕ → ReplyError → Error
failed bound fault = handshaking (error_of bound fault)

-- neither the remote nor the options name a refspec; the one of the tags doesn't count
abbrev pub no_specs : LsRefsValue → Option Error
no_specs q = if is_nil q.specs && is_nil q.options.extra_refspecs then Some errors.MissingRefSpecs else None

-- address, parameters and agent hold neither a NUL nor a line feed
abbrev pub unsendable : LsRefsValue → Option Error
unsendable q = option_map (λ (bad : List ℕ × ℕ). handshaking (wire.BadParameter bad.0 bad.1))
    (first_bad (texts_told q.address q.options.handshake_parameters q.agent))

-- ---- the conversation

-- It ends with this refusal, where there is one.
abbrev pub unless : {X E : Type 0} → Option E → Conversation X E → Conversation X E
unless None c = c
unless (Some e) c = ends (Err e)

-- the references with what they are mapped to
abbrev pub map_of : LsRefsValue → Handshake → List Ref → RefMap
map_of q h refs = record {
  mappings = ref_mappings (length q.specs) (all_specs q) h.object_hash refs;
  refspecs = q.specs;
  extra_refspecs = extra_specs q;
  remote_refs = refs;
  object_hash = h.object_hash;
}

-- what is listed, unless destinations have two sources
abbrev pub mapped_unless : List Conflict → LsRefsValue → Handshake → List Ref → Result ListedValue Error
mapped_unless [] q h refs = Ok (record { ref_map = map_of q h refs; handshake = h })
mapped_unless (c ∷ cs) q h refs = Err (errors.RefMap (ref_map.InitRefMap (c ∷ cs)))

-- The references that were listed, mapped. Two different sources may not lead to one destination.
unfoldable pub mapped : LsRefsValue → Handshake → List Ref → Result ListedValue Error
mapped q h refs = mapped_unless (conflicts_of (mappings_of (all_specs q) (map name_in refs) h.object_hash)) q h refs

-- a reply of another kind than the one that is awaited; none tells it
abbrev pub other_reply : Error
other_reply = handshaking (wire.Malformed 0)

-- the end of the stage, by what the listing tells
abbrev pub listed : LsRefsValue → Handshake → ParsedReply → Conversation ListedValue Error
listed q h (told.Listing refs) = ends (mapped q h refs)
listed q h (told.Greeting other) = ends (Err other_reply)
listed q h (told.Advertisement other refs) = ends (Err other_reply)
listed q h (told.Reply reply) = ends (Err other_reply)

-- a server that doesn't list can't be asked
abbrev pub unlisted : Handshake → Option Error
unlisted h = if offers listing_feature h.capabilities then None else Some (handshaking (wire.MissingFeature listing_feature))

-- the listing request, and the listing; a line of the request that is too long comes before a server that doesn't list
unfoldable pub listing : ℕ → LsRefsValue → Handshake → Conversation ListedValue Error
listing bound q h =
    let lines = listing_lines h q.agent (prefixes_asked q) in
    asks_unless (first_too_long lines) too_long
    (unless (unlisted h) (asks lines (awaits.Listing h.object_hash) (failed bound) (λ t. listed q h t)))

-- a server of version 1 lists in its greeting
abbrev pub greeted : ℕ → LsRefsValue → ParsedReply → Conversation ListedValue Error
greeted bound q (told.Greeting h) = listing bound q h
greeted bound q (told.Advertisement h refs) = ends (mapped q h refs)
greeted bound q (told.Listing refs) = ends (Err other_reply)
greeted bound q (told.Reply reply) = ends (Err other_reply)

-- the first line, the greeting, the listing request, and the listing
unfoldable pub ls_refs_stage : ℕ → LsRefsValue → Conversation ListedValue Error
ls_refs_stage bound q =
    unless (unsendable q) (asking too_long (first_line q.address q.options.handshake_parameters ∷ []) awaits.Greeting (failed bound)
    (λ t. greeted bound q t))

-- the whole stage: without a refspec nothing is asked
unfoldable pub list_stage : ℕ → LsRefsValue → Conversation ListedValue Error
list_stage bound q = unless (no_specs q) (ls_refs_stage bound q)

-- ---- what the call answers

-- what was listed, without the conversation
abbrev pub shown : Listed → ListedValue
shown l = record { ref_map = l.ref_map; handshake = l.handshake }

-- the same, of an answer
abbrev pub answer_shown : Result Listed Error → Result ListedValue Error
answer_shown (Ok l) = Ok (shown l)
answer_shown (Err e) = Err e

-- what was received and not read afterwards
abbrev pub pending_of : Listed → List ℕ
pending_of l = l.session.intake.pending

-- what was received and isn't read yet
abbrev pub left_by : Result Listed Error → List ℕ
left_by (Ok l) = pending_of l
left_by (Err e) = []

-- The listing was read, no request was made yet, and no refusal was answered.
pub record IsReady (l : Listed) : Type 0 where
  pub turn : turn_of l.session ≡ turns.Idle
  pub unrefused : l.session.refused ≡ false
  pub kind : kind_of l.session.handshake ≡ l.handshake.object_hash

-- The session is ready for the next request, and takes as many bytes as before.
pub record IsReadyAgain (before now : Listed) : Type 0 where
  pub ready : IsReady now
  pub bound : now.session.intake.bound ≡ before.session.intake.bound
