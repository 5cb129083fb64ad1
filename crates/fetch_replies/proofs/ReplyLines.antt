-- The reply to a fetch request is read as it is written.
use Rattle.std.proofs.Common.{◌≡◌, ℕ, Bool, true, false, List, [], ◌∷◌, ◌++◌, map, Option, Some, None, IfSome, refl, sym, ap, ◌∙◌, subst, append_assoc, All, codes, if◌then◌else◌, arith}
use Rattle.std.specs.List.{concat}
use Rattle.std.specs.Option.{option_and_then}
use Rattle.std.proofs.lemmas.List.{append-nil}
use Rattle.std.proofs.lemmas.List.Elements.{All-head, All-tail}
use Rattle.hex.specs.Hex.{encode_lower}
use Rattle.fetch_base.specs.Id.{bytes_of, id_in_hex}
use Rattle.fetch_base.specs.declared.id.Kind.{Kind}
use Rattle.fetch_base.specs.declared.id.ObjectId.{ObjectId}
use Rattle.fetch_base.proofs.Words.{after_of}
use Rattle.fetch_replies.specs.declared.replies.reply.ReplyContext.{ReplyContext}
use Rattle.fetch_replies.specs.declared.replies.reply.ReplyKind.TheVariants.{Reply}
use Rattle.fetch_replies.specs.declared.replies.reply.ParsedReply.{ParsedReply}
use Rattle.fetch_replies.specs.declared.replies.reply.ParsedReply.TheVariants as told
use Rattle.fetch_lines.specs.declared.lines.line.Line.TheVariants.{Flush, Delim}
use Rattle.fetch_replies.specs.declared.replies.parser.Part.{Part}
use Rattle.fetch_replies.specs.declared.replies.parser.Part.TheVariants.{Beginning, Acknowledgments, Ready, Rest, ShallowInfo, Packfile, Bands}
use Rattle.fetch_replies.specs.declared.replies.parser.ReplyParser.{ReplyParser}
use Rattle.fetch_replies.specs.declared.replies.parser.ReplyParser.TheVariants as reading
use Rattle.fetch_lines.specs.declared.requests.records.FetchReply.{FetchReply}
use Rattle.fetch_replies.specs.Awaited.{step_of, start_of}
use Rattle.fetch_lines.specs.Cutting.{in_pieces}
use Rattle.fetch_lines.specs.Bands.{Band, Piece, packed, band_line, pieces_of, texts_of, pack_lines}
use Rattle.fetch_replies.specs.BandsTold.{behind, bands_tell}
use Rattle.fetch_lines.specs.FetchRecords.{no_reply}
use Rattle.fetch_replies.specs.FetchReplies.{is_acknowledgments, is_nak, is_ready, if_have, acknowledged_in, shallow_in, unshallow_in, at_rest, at_acknowledgment, at_change, at_beginning, is_packfile, is_shallow_info}
use Rattle.fetch_lines.specs.KnownIds.{has_id, each_once}
use Rattle.fetch_replies.specs.LinesTold.{Tells}
use Rattle.fetch_lines.specs.RequestLines.{id_lines}
use Rattle.fetch_lines.specs.Requests.{sent, text_line}
use Rattle.fetch_lines.specs.ServerLines.{IsIdOf, IsChangeOf, acknowledged_texts, round_lines, in_round, BorderChange, change_lines, last_lines, with_change, at_last, ready_lines, bands_of}
use Rattle.fetch_replies.specs.Stepping.{Step, goes, ends, breaks, or_breaks}
use Rattle.fetch_lines.specs.Texts.{is_error, without_lf}
use Rattle.fetch_lines.proofs.Cut.{are_the_bytes}
use Rattle.fetch_replies.proofs.IdTexts.{id_read}
use Rattle.fetch_replies.proofs.Moving.{Moves, moves_tell, moves_on, by_text_line, first_tells, sent_on}

-- a reply that told this much
abbrev so_far : List ObjectId → List ObjectId → List ObjectId → FetchReply
so_far ids shallow unshallow = record no_reply { acknowledged = ids; shallow = shallow; unshallow = unshallow }

-- ---- acknowledgments

opens : (asked : ReplyContext) → asked.done ≡ false → step_of (reading.Reply asked Beginning no_reply) (text_line (codes "acknowledgments")) ≡ goes (reading.Reply asked Acknowledgments no_reply)
unfolding step_of is_error without_lf is_acknowledgments
opens asked more = rw more refl

nak : (asked : ReplyContext) (reply : FetchReply) → step_of (reading.Reply asked Acknowledgments reply) (text_line (codes "NAK")) ≡ goes (reading.Reply asked Acknowledgments reply)
unfolding step_of is_error without_lf is_nak
nak asked reply = refl

have_if : (haves : List ObjectId) (id : ObjectId) → has_id id haves ≡ true → if_have haves id ≡ Some id
have_if haves id has = rw has refl

acknowledged_read : (asked : ReplyContext) (id : ObjectId) → IsIdOf asked.kind id → has_id id asked.haves ≡ true → acknowledged_in asked (codes "ACK " ++ encode_lower (bytes_of id)) ≡ Some id
unfolding acknowledged_in
acknowledged_read asked id is has =
    ap (option_and_then (λ hex. option_and_then (if_have asked.haves) (id_in_hex asked.kind hex))) (after_of (codes "ACK ") (encode_lower (bytes_of id)))
    ∙ ap (option_and_then (if_have asked.haves)) (id_read asked.kind id is) ∙ have_if asked.haves id has

at_ack : (asked : ReplyContext) (reply : FetchReply) (id : ObjectId) → IsIdOf asked.kind id → has_id id asked.haves ≡ true
    → at_acknowledgment asked reply (codes "ACK " ++ encode_lower (bytes_of id)) ≡ goes (reading.Reply asked Acknowledgments (record reply { acknowledged = reply.acknowledged ++ id ∷ [] }))
unfolding is_nak is_ready
at_ack asked reply id is has = ap (λ found. or_breaks found (λ x. goes (reading.Reply asked Acknowledgments (record reply { acknowledged = reply.acknowledged ++ x ∷ [] })))) (acknowledged_read asked id is has)

ack_fails_not : (hex : List ℕ) → is_error ((codes "ACK " ++ hex) ++ 10 ∷ []) ≡ false
unfolding is_error
ack_fails_not hex = refl

ack : (asked : ReplyContext) (before : List ObjectId) (id : ObjectId) → IsIdOf asked.kind id → has_id id asked.haves ≡ true
    → step_of (reading.Reply asked Acknowledgments (so_far before [] [])) (text_line (codes "ACK " ++ encode_lower (bytes_of id))) ≡ goes (reading.Reply asked Acknowledgments (so_far (before ++ id ∷ []) [] []))
unfolding step_of
ack asked before id is has =
    by_text_line (ends (told.Reply (record (so_far (each_once before) [] []) { last = false }))) breaks (at_acknowledgment asked (so_far before [] [])) (codes "ACK " ++ encode_lower (bytes_of id)) (ack_fails_not (encode_lower (bytes_of id)))
    ∙ at_ack asked (so_far before [] []) id is has

acks : (asked : ReplyContext) (before ids : List ObjectId) → All (IsIdOf asked.kind) ids → All (λ id. has_id id asked.haves ≡ true) ids
    → Moves step_of (reading.Reply asked Acknowledgments (so_far before [] [])) (sent (id_lines (codes "ACK ") ids)) (reading.Reply asked Acknowledgments (so_far (before ++ ids) [] []))
acks asked before [] are had = ap (λ (l : List ObjectId). reading.Reply asked Acknowledgments (so_far l [] [])) (sym (append-nil before))
acks asked before (id ∷ ids) are had = (
  reading.Reply asked Acknowledgments (so_far (before ++ id ∷ []) [] []),
  ack asked before id (All-head (IsIdOf asked.kind) id ids are) (All-head (λ x. has_id x asked.haves ≡ true) id ids had),
  subst (λ (l : List ObjectId). Moves step_of (reading.Reply asked Acknowledgments (so_far (before ++ id ∷ []) [] [])) (sent (id_lines (codes "ACK ") ids)) (reading.Reply asked Acknowledgments (so_far l [] []))) (append_assoc before (id ∷ []) ids)
      (acks asked (before ++ id ∷ []) ids (All-tail (IsIdOf asked.kind) id ids are) (All-tail (λ x. has_id x asked.haves ≡ true) id ids had)),
)

all_acks : (asked : ReplyContext) (ids : List ObjectId) → All (IsIdOf asked.kind) ids → All (λ id. has_id id asked.haves ≡ true) ids
    → Moves step_of (reading.Reply asked Acknowledgments no_reply) (sent (acknowledged_texts ids)) (reading.Reply asked Acknowledgments (so_far ids [] []))
all_acks asked [] are had = (reading.Reply asked Acknowledgments no_reply, nak asked no_reply, refl)
all_acks asked (id ∷ ids) are had = acks asked [] (id ∷ ids) are had

more_comes : (asked : ReplyContext) (ids : List ObjectId) → step_of (reading.Reply asked Acknowledgments (so_far ids [] [])) Flush ≡ ends (told.Reply (in_round ids))
unfolding step_of
more_comes asked ids = refl

pub round_tells : (asked : ReplyContext) (ids : List ObjectId) → asked.done ≡ false → All (IsIdOf asked.kind) ids → All (λ id. has_id id asked.haves ≡ true) ids → Tells step_of (start_of (Reply asked)) (round_lines ids) (told.Reply (in_round ids))
round_tells asked ids more are had =
    moves_tell step_of (reading.Reply asked Beginning no_reply) (reading.Reply asked Acknowledgments (so_far ids [] [])) (sent (codes "acknowledgments" ∷ acknowledged_texts ids)) (Flush ∷ []) (told.Reply (in_round ids))
    (reading.Reply asked Acknowledgments no_reply, opens asked more, all_acks asked ids are had) (more_comes asked ids)

-- ---- the change of the border

pub shallow_read : (kind : Kind) (id : ObjectId) → IsIdOf kind id → shallow_in kind (codes "shallow " ++ encode_lower (bytes_of id)) ≡ Some id
unfolding shallow_in
shallow_read kind id is = ap (option_and_then (id_in_hex kind)) (after_of (codes "shallow ") (encode_lower (bytes_of id))) ∙ id_read kind id is

unshallow_read : (kind : Kind) (id : ObjectId) → IsIdOf kind id → unshallow_in kind (codes "unshallow " ++ encode_lower (bytes_of id)) ≡ Some id
unfolding unshallow_in
unshallow_read kind id is = ap (option_and_then (id_in_hex kind)) (after_of (codes "unshallow ") (encode_lower (bytes_of id))) ∙ id_read kind id is

not_shallow : (kind : Kind) (hex : List ℕ) → shallow_in kind (codes "unshallow " ++ hex) ≡ None
unfolding shallow_in
not_shallow kind hex = refl

pub shallow_fails_not : (hex : List ℕ) → is_error ((codes "shallow " ++ hex) ++ 10 ∷ []) ≡ false
unfolding is_error
shallow_fails_not hex = refl

unshallow_fails_not : (hex : List ℕ) → is_error ((codes "unshallow " ++ hex) ++ 10 ∷ []) ≡ false
unfolding is_error
unshallow_fails_not hex = refl

one_shallow : (asked : ReplyContext) (ids before after_it : List ObjectId) (id : ObjectId) → IsIdOf asked.kind id
    → step_of (reading.Reply asked ShallowInfo (so_far ids before after_it)) (text_line (codes "shallow " ++ encode_lower (bytes_of id))) ≡ goes (reading.Reply asked ShallowInfo (so_far ids (before ++ id ∷ []) after_it))
unfolding step_of
one_shallow asked ids before after_it id is =
    by_text_line breaks (goes (reading.Reply asked Packfile (so_far ids before after_it))) (λ text. at_change asked (so_far ids before after_it) (shallow_in asked.kind text) (unshallow_in asked.kind text)) (codes "shallow " ++ encode_lower (bytes_of id)) (shallow_fails_not (encode_lower (bytes_of id)))
    ∙ ap (λ found. at_change asked (so_far ids before after_it) found (unshallow_in asked.kind (codes "shallow " ++ encode_lower (bytes_of id)))) (shallow_read asked.kind id is)

one_unshallow : (asked : ReplyContext) (ids shallow before : List ObjectId) (id : ObjectId) → IsIdOf asked.kind id
    → step_of (reading.Reply asked ShallowInfo (so_far ids shallow before)) (text_line (codes "unshallow " ++ encode_lower (bytes_of id))) ≡ goes (reading.Reply asked ShallowInfo (so_far ids shallow (before ++ id ∷ [])))
unfolding step_of
one_unshallow asked ids shallow before id is =
    by_text_line breaks (goes (reading.Reply asked Packfile (so_far ids shallow before))) (λ text. at_change asked (so_far ids shallow before) (shallow_in asked.kind text) (unshallow_in asked.kind text)) (codes "unshallow " ++ encode_lower (bytes_of id)) (unshallow_fails_not (encode_lower (bytes_of id)))
    ∙ ap (λ found. at_change asked (so_far ids shallow before) found (unshallow_in asked.kind (codes "unshallow " ++ encode_lower (bytes_of id)))) (not_shallow asked.kind (encode_lower (bytes_of id)))
    ∙ ap (at_change asked (so_far ids shallow before) None) (unshallow_read asked.kind id is)

shallows : (asked : ReplyContext) (ids before more : List ObjectId) → All (IsIdOf asked.kind) more
    → Moves step_of (reading.Reply asked ShallowInfo (so_far ids before [])) (sent (id_lines (codes "shallow ") more)) (reading.Reply asked ShallowInfo (so_far ids (before ++ more) []))
shallows asked ids before [] are = ap (λ (l : List ObjectId). reading.Reply asked ShallowInfo (so_far ids l [])) (sym (append-nil before))
shallows asked ids before (id ∷ more) are = (
  reading.Reply asked ShallowInfo (so_far ids (before ++ id ∷ []) []),
  one_shallow asked ids before [] id (All-head (IsIdOf asked.kind) id more are),
  subst (λ (l : List ObjectId). Moves step_of (reading.Reply asked ShallowInfo (so_far ids (before ++ id ∷ []) [])) (sent (id_lines (codes "shallow ") more)) (reading.Reply asked ShallowInfo (so_far ids l []))) (append_assoc before (id ∷ []) more)
      (shallows asked ids (before ++ id ∷ []) more (All-tail (IsIdOf asked.kind) id more are)),
)

unshallows : (asked : ReplyContext) (ids shallow before more : List ObjectId) → All (IsIdOf asked.kind) more
    → Moves step_of (reading.Reply asked ShallowInfo (so_far ids shallow before)) (sent (id_lines (codes "unshallow ") more)) (reading.Reply asked ShallowInfo (so_far ids shallow (before ++ more)))
unshallows asked ids shallow before [] are = ap (λ (l : List ObjectId). reading.Reply asked ShallowInfo (so_far ids shallow l)) (sym (append-nil before))
unshallows asked ids shallow before (id ∷ more) are = (
  reading.Reply asked ShallowInfo (so_far ids shallow (before ++ id ∷ [])),
  one_unshallow asked ids shallow before id (All-head (IsIdOf asked.kind) id more are),
  subst (λ (l : List ObjectId). Moves step_of (reading.Reply asked ShallowInfo (so_far ids shallow (before ++ id ∷ []))) (sent (id_lines (codes "unshallow ") more)) (reading.Reply asked ShallowInfo (so_far ids shallow l))) (append_assoc before (id ∷ []) more)
      (unshallows asked ids shallow (before ++ id ∷ []) more (All-tail (IsIdOf asked.kind) id more are)),
)

-- ---- where `shallow-info` or `packfile` may stand

abbrev AtRest : ReplyContext → Part → Type 0
AtRest asked part = (reply : FetchReply) (text : List ℕ) → is_error (text ++ 10 ∷ []) ≡ false → step_of (reading.Reply asked part reply) (text_line text) ≡ at_rest asked reply text

rest_begins : (asked : ReplyContext) → asked.done ≡ true → AtRest asked Beginning
unfolding step_of
rest_begins asked done reply text none = by_text_line breaks breaks (at_beginning asked reply) text none ∙ (rw done refl)

rest_stands : (asked : ReplyContext) → AtRest asked Rest
unfolding step_of
rest_stands asked reply text none = by_text_line breaks breaks (at_rest asked reply) text none

info_fails_not : is_error (codes "shallow-info" ++ 10 ∷ []) ≡ false
unfolding is_error
info_fails_not = refl

pack_fails_not : is_error (codes "packfile" ++ 10 ∷ []) ≡ false
unfolding is_error
pack_fails_not = refl

at_info : (asked : ReplyContext) (reply : FetchReply) → at_rest asked reply (codes "shallow-info") ≡ goes (reading.Reply asked ShallowInfo reply)
unfolding is_shallow_info
at_info asked reply = refl

-- `packfile`, whether the pack is read or not
abbrev from_packfile : ReplyContext → FetchReply → Step ReplyParser ParsedReply
from_packfile asked reply = if asked.read_pack then goes (reading.Reply asked Bands (record reply { pack = Some [] })) else ends (told.Reply reply)

pack_at_rest : (asked : ReplyContext) (part : Part) (reply : FetchReply) → AtRest asked part → step_of (reading.Reply asked part reply) (text_line (codes "packfile")) ≡ from_packfile asked reply
unfolding is_shallow_info is_packfile
pack_at_rest asked part reply rests = rests reply (codes "packfile") pack_fails_not ∙ refl

pack_behind : (asked : ReplyContext) (reply : FetchReply) → step_of (reading.Reply asked Packfile reply) (text_line (codes "packfile")) ≡ from_packfile asked reply
unfolding step_of is_error without_lf is_packfile
pack_behind asked reply = refl

delimited : (asked : ReplyContext) (reply : FetchReply) → step_of (reading.Reply asked ShallowInfo reply) Delim ≡ goes (reading.Reply asked Packfile reply)
unfolding step_of
delimited asked reply = refl

change_moves : (asked : ReplyContext) (part : Part) (ids : List ObjectId) (change : BorderChange) → AtRest asked part → All (IsIdOf asked.kind) change.shallow → All (IsIdOf asked.kind) change.unshallow
    → Moves step_of (reading.Reply asked part (so_far ids [] [])) (change_lines (Some change)) (reading.Reply asked Packfile (so_far ids change.shallow change.unshallow))
change_moves asked part ids change rests shallow unshallow =
    let told_all = so_far ids change.shallow change.unshallow in
    moves_on step_of (reading.Reply asked part (so_far ids [] [])) (reading.Reply asked ShallowInfo told_all) (reading.Reply asked Packfile told_all)
    (sent (codes "shallow-info" ∷ id_lines (codes "shallow ") change.shallow ++ id_lines (codes "unshallow ") change.unshallow)) (Delim ∷ []) (
      reading.Reply asked ShallowInfo (so_far ids [] []),
      rests (so_far ids [] []) (codes "shallow-info") info_fails_not ∙ at_info asked (so_far ids [] []),
      sent_on (reading.Reply asked ShallowInfo (so_far ids [] [])) (reading.Reply asked ShallowInfo (so_far ids change.shallow [])) (reading.Reply asked ShallowInfo told_all)
          (id_lines (codes "shallow ") change.shallow) (id_lines (codes "unshallow ") change.unshallow)
          (shallows asked ids [] change.shallow shallow) (unshallows asked ids change.shallow [] change.unshallow unshallow),
    )
    (reading.Reply asked Packfile told_all, delimited asked told_all, refl)

-- ---- the pack

if_read : (b : Bool) (x y : Step ReplyParser ParsedReply) → b ≡ true → (if b then x else y) ≡ x
if_read true x y is = refl
if_read false x y is = absurd cc

if_unread : (b : Bool) (x y : Step ReplyParser ParsedReply) → b ≡ false → (if b then x else y) ≡ y
if_unread true x y is = absurd cc
if_unread false x y is = refl

bands_from : (asked : ReplyContext) (part : Part) (ids shallow unshallow : List ObjectId) (bands : List Band) → asked.read_pack ≡ true
    → step_of (reading.Reply asked part (so_far ids shallow unshallow)) (text_line (codes "packfile")) ≡ from_packfile asked (so_far ids shallow unshallow)
    → Tells step_of (reading.Reply asked part (so_far ids shallow unshallow)) (pack_lines bands) (told.Reply (behind (so_far ids shallow unshallow) (concat (pieces_of bands)) (texts_of bands)))
bands_from asked part ids shallow unshallow bands reads first =
    let reply = so_far ids shallow unshallow in
    first_tells step_of (reading.Reply asked part reply) (reading.Reply asked Bands (behind reply [] [])) (text_line (codes "packfile")) (map band_line bands ++ Flush ∷ []) (told.Reply (behind reply (concat (pieces_of bands)) (texts_of bands)))
    (first ∙ if_read asked.read_pack _ _ reads) (bands_tell asked reply [] [] bands)

last_from : (asked : ReplyContext) (part : Part) (ids : List ObjectId) (change : Option BorderChange) (bands : List Band) → AtRest asked part → asked.read_pack ≡ true → IfSome change (IsChangeOf asked.kind)
    → Tells step_of (reading.Reply asked part (so_far ids [] [])) (last_lines change bands) (told.Reply (record (at_last change bands) { acknowledged = ids }))
last_from asked part ids None bands rests reads is = bands_from asked part ids [] [] bands reads (pack_at_rest asked part (so_far ids [] []) rests)
last_from asked part ids (Some change) bands rests reads is =
    let reply = so_far ids change.shallow change.unshallow in
    moves_tell step_of (reading.Reply asked part (so_far ids [] [])) (reading.Reply asked Packfile reply) (change_lines (Some change)) (pack_lines bands) (told.Reply (behind reply (concat (pieces_of bands)) (texts_of bands)))
    (change_moves asked part ids change rests is.shallow is.unshallow)
    (bands_from asked Packfile ids change.shallow change.unshallow bands reads (pack_behind asked reply))

-- a reply to `done`
pub last_tells : (asked : ReplyContext) (change : Option BorderChange) (bands : List Band) → asked.done ≡ true → asked.read_pack ≡ true → IfSome change (IsChangeOf asked.kind)
    → Tells step_of (start_of (Reply asked)) (last_lines change bands) (told.Reply (at_last change bands))
last_tells asked None bands done reads is = last_from asked Beginning [] None bands (rest_begins asked done) reads is
last_tells asked (Some change) bands done reads is = last_from asked Beginning [] (Some change) bands (rest_begins asked done) reads is

-- the same, where the pack isn't read
pub unread_tells : (asked : ReplyContext) (change : Option BorderChange) → asked.done ≡ true → asked.read_pack ≡ false → IfSome change (IsChangeOf asked.kind)
    → Tells step_of (start_of (Reply asked)) (change_lines change ++ text_line (codes "packfile") ∷ []) (told.Reply (with_change change no_reply))
unread_tells asked None done unread is = pack_at_rest asked Beginning no_reply (rest_begins asked done) ∙ if_unread asked.read_pack _ _ unread
unread_tells asked (Some change) done unread is =
    let reply = so_far [] change.shallow change.unshallow in
    moves_tell step_of (reading.Reply asked Beginning no_reply) (reading.Reply asked Packfile reply) (change_lines (Some change)) (text_line (codes "packfile") ∷ []) (told.Reply reply)
    (change_moves asked Beginning [] change (rest_begins asked done) is.shallow is.unshallow) (pack_behind asked reply ∙ if_unread asked.read_pack _ _ unread)

-- ---- `ready`

ready : (asked : ReplyContext) (reply : FetchReply) → step_of (reading.Reply asked Acknowledgments reply) (text_line (codes "ready")) ≡ goes (reading.Reply asked Ready reply)
unfolding step_of is_error without_lf is_nak is_ready
ready asked reply = refl

ready_ends : (asked : ReplyContext) (reply : FetchReply) → step_of (reading.Reply asked Ready reply) Delim ≡ goes (reading.Reply asked Rest (record reply { acknowledged = each_once reply.acknowledged }))
unfolding step_of
ready_ends asked reply = refl

pub ready_tells : (asked : ReplyContext) (ids : List ObjectId) (change : Option BorderChange) (bands : List Band) → asked.done ≡ false → asked.read_pack ≡ true
    → All (IsIdOf asked.kind) ids → All (λ id. has_id id asked.haves ≡ true) ids → IfSome change (IsChangeOf asked.kind)
    → Tells step_of (start_of (Reply asked)) (ready_lines ids change bands) (told.Reply (record (at_last change bands) { acknowledged = each_once ids }))
ready_tells asked ids change bands more reads are had is =
    let reply = so_far ids [] [] in
    let all = record (at_last change bands) { acknowledged = each_once ids } in
    moves_tell step_of (reading.Reply asked Beginning no_reply) (reading.Reply asked Ready reply) (sent (codes "acknowledgments" ∷ acknowledged_texts ids ++ codes "ready" ∷ [])) (Delim ∷ last_lines change bands) (told.Reply all) (
      reading.Reply asked Acknowledgments no_reply,
      opens asked more,
      sent_on (reading.Reply asked Acknowledgments no_reply) (reading.Reply asked Acknowledgments reply) (reading.Reply asked Ready reply) (acknowledged_texts ids) (codes "ready" ∷ [])
          (all_acks asked ids are had) (reading.Reply asked Ready reply, ready asked reply, refl),
    )
    (first_tells step_of (reading.Reply asked Ready reply) (reading.Reply asked Rest (so_far (each_once ids) [] [])) Delim (last_lines change bands) (told.Reply all) (ready_ends asked reply)
    (last_from asked Rest (each_once ids) change bands (rest_stands asked) reads is))

-- ---- a pack in bands

pieces_are : (pieces : List (List ℕ)) → pieces_of (map Piece pieces) ≡ pieces
pieces_are [] = refl
pieces_are (piece ∷ pieces) = ap (λ (l : List (List ℕ)). piece ∷ l) (pieces_are pieces)

no_texts : (pieces : List (List ℕ)) → texts_of (map Piece pieces) ≡ []
no_texts [] = refl
no_texts (piece ∷ pieces) = no_texts pieces

pub bands_hold : (pack : List ℕ) → packed (bands_of pack) ≡ record no_reply { pack = Some pack }
bands_hold pack = rw (pieces_are (in_pieces 65515 pack), no_texts (in_pieces 65515 pack), are_the_bytes 65515 pack (omega arith)) refl
