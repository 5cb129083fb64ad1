-- What a grammar writes, in any of its spellings, is read.
use Rattle.std.proofs.Common.{◌≡◌, ◌≢◌, inl, inr, ℕ, Bool, true, false, not, ◌&&◌, List, [], ◌∷◌, ◌++◌, map, Option, Some, None, Result, Ok, Err, IfSome, refl, sym, ap, ap₂, ◌∙◌, subst, append_assoc, All, codes, bytes_eq, ◌==◌, if◌then◌else◌}
use Rattle.std.specs.Prelude.{is_ok}
use Rattle.std.specs.List.{concat, AllPass}
use Rattle.std.specs.Option.{option_map, option_and_then, option_or}
use Rattle.std.specs.Result.{result_ok}
use Rattle.std.proofs.lemmas.Bool.{eqb-true}
use Rattle.std.proofs.lemmas.List.{append-nil}
use Rattle.std.proofs.lemmas.List.Elements.{All-nil, All-cons, All-head, All-tail}
use Rattle.std.proofs.lemmas.Slice.Eq.{bytes_eq-Decides}
use Rattle.hex.specs.Hex.{decode_sized, is_hex_digit}
use Rattle.hex.proofs.HexLemmas.{IsOk-decode_sized}
use Rattle.fetch_base.specs.Id.{byte_len, id_of_bytes, id_in_hex}
use Rattle.fetch_base.specs.Lines.{IsWithout}
use Rattle.fetch_base.specs.Scan.{after}
use Rattle.fetch_base.specs.declared.id.Kind.{Kind}
use Rattle.fetch_base.specs.declared.id.ObjectId.{ObjectId}
use Rattle.fetch_base.proofs.Words.{both_without, after_of}
use Rattle.fetch_base.proofs.LineLaws.{splits}
use Rattle.fetch_replies.specs.declared.replies.reply.ReplyContext.{ReplyContext}
use Rattle.fetch_replies.specs.declared.replies.reply.ReplyKind.TheVariants.{Reply}
use Rattle.fetch_replies.specs.declared.replies.reply.ParsedReply.{ParsedReply}
use Rattle.fetch_replies.specs.declared.replies.reply.ParsedReply.TheVariants as tolds
use Rattle.fetch_lines.specs.declared.greetings.handshake.Capability.{Capability}
use Rattle.fetch_lines.specs.declared.greetings.handshake.Handshake.{Handshake}
use Rattle.fetch_lines.specs.declared.lines.line.Line.{Line}
use Rattle.fetch_lines.specs.declared.lines.line.Line.TheVariants.{Flush, Delim}
use Rattle.fetch_lines.specs.declared.listings.reference.Ref.{Ref}
use Rattle.fetch_lines.specs.declared.listings.reference.Ref.TheVariants.{Direct, Symbolic, Peeled, Unborn}
use Rattle.fetch_replies.specs.declared.replies.parser.Part.TheVariants as parts
use Rattle.fetch_replies.specs.declared.replies.parser.ReplyParser.{ReplyParser}
use Rattle.fetch_replies.specs.declared.replies.parser.ReplyParser.TheVariants as reading
use Rattle.fetch_lines.specs.declared.requests.records.FetchReply.{FetchReply}
use Rattle.fetch_replies.specs.Awaited.{step_of, start_of, at_greeting, at_capability, at_listed}
use Rattle.fetch_lines.specs.Bands.{Band, band_line, pieces_of, texts_of}
use Rattle.fetch_replies.specs.BandsTold.{behind, bands_tell}
use Rattle.fetch_lines.specs.FetchRecords.{no_reply}
use Rattle.fetch_replies.specs.FetchReplies.{is_acknowledgments, is_nak, is_ready, is_packfile, is_shallow_info, if_have, acknowledged_in, shallow_in, unshallow_in, at_packfile, at_rest, at_beginning, at_acknowledgment, at_change}
use Rattle.fetch_lines.specs.Greetings.{handshake_of, is_version_2}
use Rattle.fetch_lines.specs.KnownIds.{has_id, each_once}
use Rattle.fetch_replies.specs.LinesTold.{Tells}
use Rattle.fetch_replies.specs.Listings.{Attributes, no_attributes, with_attribute, with_attributes, with_target, told_by, with_peeled, ref_with, id_or_unborn, named_by, ref_in, is_listed, if_new}
use Rattle.fetch_replies.specs.NamesTold.{AreNamedOnce}
use Rattle.fetch_lines.specs.References.{name_in, id_in, peeled_in, target_in}
use Rattle.fetch_lines.specs.ServerLines.{capability_text, IsTellable, spaced}
use Rattle.fetch_wire.specs.Spellings.{IsText, AreTexts, AreFlushed, Spells, SpellsBorn, IsGreeting, Attribute, Target, Peels, Other, attribute_text, IsAttribute, last_target, last_peeled, IsRef, AreRefs, IsListing, Acknowledgment, Nak, Ack, acknowledgment_text, IsAcknowledgment, acknowledged_by, Move, Comes, Leaves, move_text, IsMove, coming, leaving, AreBands, IsPack, AreMoves, all_moves, pack_in, IsRest, AreAcknowledged, IsRound, IsReady, IsReplyTo, IsReply}
use Rattle.fetch_replies.specs.Stepping.{Step, goes, ends, breaks, says, or_breaks}
use Rattle.fetch_replies.specs.Steps.{by_line, error_text}
use Rattle.fetch_lines.specs.Texts.{without_lf}
use Rattle.fetch_lines.specs.Words.{words}
use Rattle.fetch_replies.proofs.GreetingLines.{tells_capability}
use Rattle.fetch_replies.proofs.ListingLines.{words_spaced, apart}
use Rattle.fetch_replies.proofs.Moving.{Moves, moves_tell, moves_on, first_tells}

-- ---- texts

-- a line that is a text does what the text does
pub by_spelled : {S T : Type 0} (flush delim : Step S T) (f : List ℕ → Step S T) (said : List ℕ) (line : Line) → IsText said line → by_line flush delim f line ≡ f said
by_spelled flush delim f said line is =
    ap (by_line flush delim f) is.is ∙ ap (λ (b : Bool). if b then says (error_text is.payload) else f (without_lf is.payload)) is.no_error ∙ ap f is.text

-- texts and a flush tell what the texts move to and the flush ends with
flushed : (s t : ReplyParser) (x : ParsedReply) (texts : List (List ℕ)) (lines : List Line) → AreFlushed texts lines → ((front : List Line) → AreTexts texts front → Moves step_of s front t) → step_of t Flush ≡ ends x → Tells step_of s lines x
flushed s t x texts lines (front, same, are) moves closes = subst (λ (l : List Line). Tells step_of s l x) (sym same) (moves_tell step_of s t front (Flush ∷ []) x (moves front are) closes)

-- ---- a greeting

one_capability : (before : List Capability) (c : Capability) (line : Line) → IsTellable c → IsText (capability_text c) line → step_of (reading.Capabilities before) line ≡ goes (reading.Capabilities (before ++ c ∷ []))
unfolding step_of
one_capability before c line is text =
    by_spelled (ends (tolds.Greeting (handshake_of before))) breaks (at_capability before) (capability_text c) line text
    ∙ ap (λ found. or_breaks found (λ d. goes (reading.Capabilities (before ++ d ∷ [])))) (tells_capability c is)

capabilities_move : (before cs : List Capability) (lines : List Line) → All IsTellable cs → AreTexts (map capability_text cs) lines → Moves step_of (reading.Capabilities before) lines (reading.Capabilities (before ++ cs))
capabilities_move before [] [] are texts = ap reading.Capabilities (sym (append-nil before))
capabilities_move before [] (line ∷ lines) are texts = absurd texts
capabilities_move before (c ∷ cs) [] are texts = absurd texts
capabilities_move before (c ∷ cs) (line ∷ lines) are texts = (
  reading.Capabilities (before ++ c ∷ []),
  one_capability before c line (All-head IsTellable c cs are) texts.0,
  subst (λ (l : List Capability). Moves step_of (reading.Capabilities (before ++ c ∷ [])) lines (reading.Capabilities l)) (append_assoc before (c ∷ []) cs)
      (capabilities_move (before ++ c ∷ []) cs lines (All-tail IsTellable c cs are) texts.1),
)

version_opens : (line : Line) → IsText (codes "version 2") line → step_of reading.Greeting line ≡ goes (reading.Capabilities [])
unfolding step_of is_version_2
version_opens line text = by_spelled breaks breaks at_greeting (codes "version 2") line text

greeting_moves : (cs : List Capability) (front : List Line) → All IsTellable cs → AreTexts (codes "version 2" ∷ map capability_text cs) front → Moves step_of reading.Greeting front (reading.Capabilities cs)
greeting_moves cs [] are texts = absurd texts
greeting_moves cs (line ∷ front) are texts = (reading.Capabilities [], version_opens line texts.0, capabilities_move [] cs front are texts.1)

greeting_closes : (cs : List Capability) → step_of (reading.Capabilities cs) Flush ≡ ends (tolds.Greeting (handshake_of cs))
unfolding step_of
greeting_closes cs = refl

pub greeting_read : (h : Handshake) (lines : List Line) → IsGreeting h lines → Tells step_of reading.Greeting lines (tolds.Greeting h)
greeting_read h lines is =
    flushed reading.Greeting (reading.Capabilities h.capabilities) (tolds.Greeting h) (codes "version 2" ∷ map capability_text h.capabilities) lines is.texts
    (λ front. greeting_moves h.capabilities front is.tellable) (greeting_closes h.capabilities ∙ ap (λ (g : Handshake). ends (tolds.Greeting g)) (sym is.made))

-- ---- digits

pub hex_of : (kind : Kind) (digits : List ℕ) (id : ObjectId) → Spells kind digits id → AllPass is_hex_digit digits
hex_of kind digits id is = ((IsOk-decode_sized digits (byte_len kind)).0 (ok (decode_sized digits (byte_len kind)) is)).1
  where
    ok : {E : Type 0} (r : Result (List ℕ) E) → option_map (id_of_bytes kind) (result_ok r) ≡ Some id → is_ok r ≡ true
    ok (Ok bytes) h = refl
    ok (Err e) h = absurd cc

no_space : (c : ℕ) → is_hex_digit c ≡ true → not (c == 32) ≡ true
no_space c h = by_test (c == 32) refl
  where
    by_test : (b : Bool) → (c == 32) ≡ b → not b ≡ true
    by_test false e = refl
    by_test true e = absurd (let same : is_hex_digit 32 ≡ true = subst (λ x. is_hex_digit x ≡ true) (eqb-true c 32 e) h in cc)

-- hex digits hold no space
digits_whole : (digits : List ℕ) → AllPass is_hex_digit digits → IsWithout 32 digits
digits_whole [] all = refl
digits_whole (c ∷ digits) all =
    ap₂ (λ a b. a && b) (no_space c (All-head (λ x. is_hex_digit x ≡ true) c digits all)) (digits_whole digits (All-tail (λ x. is_hex_digit x ≡ true) c digits all))

pub spelled_whole : (kind : Kind) (digits : List ℕ) (id : ObjectId) → Spells kind digits id → IsWithout 32 digits
spelled_whole kind digits id is = digits_whole digits (hex_of kind digits id is)

-- `unborn` are no digits
not_unborn : (kind : Kind) (digits : List ℕ) (id : ObjectId) → Spells kind digits id → bytes_eq digits (codes "unborn") ≡ false
not_unborn kind digits id is = by_test (bytes_eq digits (codes "unborn")) refl
  where
    by_test : (b : Bool) → bytes_eq digits (codes "unborn") ≡ b → b ≡ false
    by_test false e = refl
    by_test true e =
        let same : digits ≡ codes "unborn" = (bytes_eq-Decides digits (codes "unborn")).0 e in
        let first : is_hex_digit 117 ≡ true = All-head (λ x. is_hex_digit x ≡ true) 117 (codes "nborn") (subst (AllPass is_hex_digit) same (hex_of kind digits id is)) in absurd cc

-- ---- a listing

attribute_whole : (kind : Kind) (a : Attribute) → IsAttribute kind a → IsWithout 32 (attribute_text a)
attribute_whole kind (Target target) is = both_without 32 (codes "symref-target:") target refl is.whole
attribute_whole kind (Peels digits id) is = both_without 32 (codes "peeled:") digits refl is.1
attribute_whole kind (Other word) is = is.0

attributes_whole : (kind : Kind) (attributes : List Attribute) → All (IsAttribute kind) attributes → All (IsWithout 32) (map attribute_text attributes)
attributes_whole kind [] are = All-nil (IsWithout 32)
attributes_whole kind (a ∷ others) are =
    All-cons (IsWithout 32) (attribute_text a) (map attribute_text others) (attribute_whole kind a (All-head (IsAttribute kind) a others are)) (attributes_whole kind others (All-tail (IsAttribute kind) a others are))

target_kept : (found : Attributes) (target : List ℕ) → target ≢ [] → with_target found target ≡ Some (Some target, found.1)
target_kept found [] some = absurd (some refl)
target_kept found (c ∷ cs) some = refl

-- what one attribute adds
abbrev added : Attribute → Attributes → Attributes
added (Target target) found = (Some target, found.1)
added (Peels digits id) found = (found.0, Some id)
added (Other word) found = found

one_read : (kind : Kind) (found : Attributes) (a : Attribute) → IsAttribute kind a → with_attribute kind found (attribute_text a) ≡ Some (added a found)
unfolding with_attribute
one_read kind found (Target target) is =
    ap (λ t. told_by kind found t (after (codes "peeled:") (codes "symref-target:" ++ target))) (after_of (codes "symref-target:") target) ∙ target_kept found target is.some
one_read kind found (Peels digits id) is = ap (told_by kind found None) (after_of (codes "peeled:") digits) ∙ ap (option_map (with_peeled found)) is.0
one_read kind found (Other word) is = ap (λ t. told_by kind found t (after (codes "peeled:") word)) is.1 ∙ ap (told_by kind found None) is.2

or_again : {A : Type 0} (a : Option A) (x : A) (b : Option A) → option_or (option_or a (Some x)) b ≡ option_or a (Some x)
or_again None x b = refl
or_again (Some y) x b = refl

-- the last of each kind, or what was found before
abbrev with_last : List Attribute → Attributes → Attributes
with_last attributes found = (option_or (last_target attributes) found.0, option_or (last_peeled attributes) found.1)

last_added : (a : Attribute) (others : List Attribute) (found : Attributes) → with_last others (added a found) ≡ with_last (a ∷ others) found
last_added (Target target) others found = ap (λ (t : Option (List ℕ)). (t, option_or (last_peeled others) found.1)) (sym (or_again (last_target others) target found.0))
last_added (Peels digits id) others found = ap (λ (t : Option ObjectId). (option_or (last_target others) found.0, t)) (sym (or_again (last_peeled others) id found.1))
last_added (Other word) others found = refl

all_read : (kind : Kind) (found : Attributes) (attributes : List Attribute) → All (IsAttribute kind) attributes → with_attributes kind found (map attribute_text attributes) ≡ Some (with_last attributes found)
all_read kind found [] are = refl
all_read kind found (a ∷ others) are =
    ap (option_and_then (λ more. with_attributes kind more (map attribute_text others))) (one_read kind found a (All-head (IsAttribute kind) a others are))
    ∙ all_read kind (added a found) others (All-tail (IsAttribute kind) a others are) ∙ ap Some (last_added a others found)

or_none : {A : Type 0} (a : Option A) → option_or a None ≡ a
or_none None = refl
or_none (Some x) = refl

-- attributes by the last of each kind
last_alone : (attributes : List Attribute) → with_last attributes no_attributes ≡ (last_target attributes, last_peeled attributes)
last_alone attributes = ap₂ (λ (a : Option (List ℕ)) (b : Option ObjectId). (a, b)) (or_none (last_target attributes)) (or_none (last_peeled attributes))

-- a reference by its parts: of an unborn one it doesn't matter what is peeled
ref_made : (r : Ref) (target : Option (List ℕ)) (peeled : Option ObjectId) → target_in r ≡ target → IfSome (id_in r) (λ _. peeled_in r ≡ peeled) → ref_with (name_in r) (id_in r) (target, peeled) ≡ Some r
ref_made (Direct name object) target peeled t p = rw (← t, ← p) refl
ref_made (Symbolic name goal None object) target peeled t p = rw (← t, ← p) refl
ref_made (Symbolic name goal (Some tag) object) target peeled t p = rw (← t, ← p) refl
ref_made (Peeled name tag object) target peeled t p = rw (← t, ← p) refl
ref_made (Unborn name goal) target peeled t p = rw (← t) refl

id_read : (kind : Kind) (digits : List ℕ) (id : Option ObjectId) → SpellsBorn kind digits id → id_or_unborn kind digits ≡ Some id
unfolding id_or_unborn
id_read kind digits None is = rw is refl
id_read kind digits (Some id) is = rw (not_unborn kind digits id is) (ap (option_map (λ x. Some x)) is)

born_whole : (kind : Kind) (digits : List ℕ) (id : Option ObjectId) → SpellsBorn kind digits id → IsWithout 32 digits
born_whole kind digits None is = subst (IsWithout 32) (sym is) refl
born_whole kind digits (Some id) is = spelled_whole kind digits id is

named_some : (kind : Kind) (id : Option ObjectId) (name : List ℕ) (attributes : List (List ℕ)) → name ≢ [] → named_by kind id (name ∷ attributes) ≡ option_and_then (ref_with name id) (with_attributes kind no_attributes attributes)
named_some kind id [] attributes some = absurd (some refl)
named_some kind id (c ∷ cs) attributes some = refl

ref_read : (kind : Kind) (r : Ref) (said : List ℕ) → IsRef kind r said → ref_in kind said ≡ Some r
ref_read kind r said is =
    let attributes = map attribute_text is.attributes in
    ap (ref_in kind) is.text
    ∙ ap (option_and_then (λ parts. option_and_then (λ id. named_by kind id (words parts.1)) (id_or_unborn kind parts.0)))
    ((splits 32 (is.digits ++ spaced (name_in r ∷ attributes))).only is.digits (name_in r ++ spaced attributes) refl (born_whole kind is.digits (id_in r) is.id))
    ∙ ap (option_and_then (λ id. named_by kind id (words (name_in r ++ spaced attributes)))) (id_read kind is.digits (id_in r) is.id)
    ∙ ap (named_by kind (id_in r)) (words_spaced (name_in r) attributes is.name.whole (attributes_whole kind is.attributes is.each))
    ∙ named_some kind (id_in r) (name_in r) attributes is.name.some
    ∙ ap (option_and_then (ref_with (name_in r) (id_in r))) (all_read kind no_attributes is.attributes is.each ∙ ap Some (last_alone is.attributes))
    ∙ ref_made r (last_target is.attributes) (last_peeled is.attributes) is.target is.peeled

one_ref : (kind : Kind) (before : List Ref) (r : Ref) (said : List ℕ) (line : Line) → IsRef kind r said → is_listed before r ≡ false → IsText said line → step_of (reading.Listing kind before) line ≡ goes (reading.Listing kind (before ++ r ∷ []))
unfolding step_of
one_ref kind before r said line is new text =
    by_spelled (ends (tolds.Listing before)) breaks (at_listed kind before) said line text
    ∙ ap (λ found. or_breaks (option_and_then (if_new before) found) (λ x. goes (reading.Listing kind (before ++ x ∷ [])))) (ref_read kind r said is)
    ∙ (rw new refl)

refs_move : (kind : Kind) (before refs : List Ref) (said : List (List ℕ)) (lines : List Line) → AreRefs kind refs said → AreNamedOnce (before ++ refs) → AreTexts said lines → Moves step_of (reading.Listing kind before) lines (reading.Listing kind (before ++ refs))
refs_move kind before [] [] [] are once texts = ap (reading.Listing kind) (sym (append-nil before))
refs_move kind before [] [] (line ∷ lines) are once texts = absurd texts
refs_move kind before [] (text ∷ said) lines are once texts = absurd are
refs_move kind before (r ∷ refs) [] lines are once texts = absurd are
refs_move kind before (r ∷ refs) (text ∷ said) [] are once texts = absurd texts
refs_move kind before (r ∷ refs) (text ∷ said) (line ∷ lines) are once texts = (
  reading.Listing kind (before ++ r ∷ []),
  one_ref kind before r text line are.0 (apart before r refs once) texts.0,
  subst (λ (l : List Ref). Moves step_of (reading.Listing kind (before ++ r ∷ [])) lines (reading.Listing kind l)) (append_assoc before (r ∷ []) refs)
      (refs_move kind (before ++ r ∷ []) refs said lines are.1 (subst AreNamedOnce (sym (append_assoc before (r ∷ []) refs)) once) texts.1),
)

listing_closes : (kind : Kind) (refs : List Ref) → step_of (reading.Listing kind refs) Flush ≡ ends (tolds.Listing refs)
unfolding step_of
listing_closes kind refs = refl

pub listing_read : (kind : Kind) (refs : List Ref) (lines : List Line) → IsListing kind refs lines → Tells step_of (reading.Listing kind []) lines (tolds.Listing refs)
listing_read kind refs lines is =
    flushed (reading.Listing kind []) (reading.Listing kind refs) (tolds.Listing refs) is.said lines is.texts
    (λ front. refs_move kind [] refs is.said front is.each is.once) (listing_closes kind refs)

-- ---- the reply to a fetch request

-- a reply that told this much
abbrev so_far : List ObjectId → List ObjectId → List ObjectId → FetchReply
so_far ids shallow unshallow = record no_reply { acknowledged = ids; shallow = shallow; unshallow = unshallow }

if_read : (b : Bool) (x y : Step ReplyParser ParsedReply) → b ≡ true → (if b then x else y) ≡ x
if_read true x y is = refl
if_read false x y is = absurd cc

if_unread : (b : Bool) (x y : Step ReplyParser ParsedReply) → b ≡ false → (if b then x else y) ≡ y
if_unread true x y is = absurd cc
if_unread false x y is = refl

have_if : (haves : List ObjectId) (id : ObjectId) → has_id id haves ≡ true → if_have haves id ≡ Some id
have_if haves id has = rw has refl

acknowledged_read : (asked : ReplyContext) (digits : List ℕ) (id : ObjectId) → Spells asked.kind digits id → has_id id asked.haves ≡ true → acknowledged_in asked (codes "ACK " ++ digits) ≡ Some id
unfolding acknowledged_in
acknowledged_read asked digits id is has =
    ap (option_and_then (λ hex. option_and_then (if_have asked.haves) (id_in_hex asked.kind hex))) (after_of (codes "ACK ") digits)
    ∙ ap (option_and_then (if_have asked.haves)) is ∙ have_if asked.haves id has

at_ack : (asked : ReplyContext) (reply : FetchReply) (digits : List ℕ) (id : ObjectId) → Spells asked.kind digits id → has_id id asked.haves ≡ true
    → at_acknowledgment asked reply (codes "ACK " ++ digits) ≡ goes (reading.Reply asked parts.Acknowledgments (record reply { acknowledged = reply.acknowledged ++ id ∷ [] }))
unfolding is_nak is_ready
at_ack asked reply digits id is has = ap (λ found. or_breaks found (λ x. goes (reading.Reply asked parts.Acknowledgments (record reply { acknowledged = reply.acknowledged ++ x ∷ [] })))) (acknowledged_read asked digits id is has)

-- what a line of the acknowledgments does is what its text does
by_acknowledgment : (asked : ReplyContext) (ids : List ObjectId) (said : List ℕ) (line : Line) → IsText said line → step_of (reading.Reply asked parts.Acknowledgments (so_far ids [] [])) line ≡ at_acknowledgment asked (so_far ids [] []) said
unfolding step_of
by_acknowledgment asked ids said line text = by_spelled (ends (tolds.Reply (record (so_far (each_once ids) [] []) { last = false }))) breaks (at_acknowledgment asked (so_far ids [] [])) said line text

at_nak : (asked : ReplyContext) (reply : FetchReply) → at_acknowledgment asked reply (codes "NAK") ≡ goes (reading.Reply asked parts.Acknowledgments reply)
unfolding is_nak
at_nak asked reply = refl

at_ready : (asked : ReplyContext) (reply : FetchReply) → at_acknowledgment asked reply (codes "ready") ≡ goes (reading.Reply asked parts.Ready reply)
unfolding is_nak is_ready
at_ready asked reply = refl

-- acknowledgments, and texts that go on from there
acks_move : (asked : ReplyContext) (u : ReplyParser) (before : List ObjectId) (acks : List Acknowledgment) (more : List (List ℕ)) (lines : List Line) → All (IsAcknowledgment asked) acks → AreTexts (map acknowledgment_text acks ++ more) lines
    → ((front : List Line) → AreTexts more front → Moves step_of (reading.Reply asked parts.Acknowledgments (so_far (before ++ acknowledged_by acks) [] [])) front u)
    → Moves step_of (reading.Reply asked parts.Acknowledgments (so_far before [] [])) lines u
acks_move asked u before [] more lines are texts goes_on =
    subst (λ (ids : List ObjectId). Moves step_of (reading.Reply asked parts.Acknowledgments (so_far ids [] [])) lines u) (append-nil before) (goes_on lines texts)
acks_move asked u before (Nak ∷ acks) more [] are texts goes_on = absurd texts
acks_move asked u before (Nak ∷ acks) more (line ∷ lines) are texts goes_on = (
  reading.Reply asked parts.Acknowledgments (so_far before [] []),
  by_acknowledgment asked before (codes "NAK") line texts.0 ∙ at_nak asked (so_far before [] []),
  acks_move asked u before acks more lines (All-tail (IsAcknowledgment asked) Nak acks are) texts.1 goes_on,
)
acks_move asked u before (Ack digits id ∷ acks) more [] are texts goes_on = absurd texts
acks_move asked u before (Ack digits id ∷ acks) more (line ∷ lines) are texts goes_on =
    let is = All-head (IsAcknowledgment asked) (Ack digits id) acks are in (
      reading.Reply asked parts.Acknowledgments (so_far (before ++ id ∷ []) [] []),
      by_acknowledgment asked before (codes "ACK " ++ digits) line texts.0 ∙ at_ack asked (so_far before [] []) digits id is.0 is.1,
      acks_move asked u (before ++ id ∷ []) acks more lines (All-tail (IsAcknowledgment asked) (Ack digits id) acks are) texts.1
          (λ front fronts. subst (λ (ids : List ObjectId). Moves step_of (reading.Reply asked parts.Acknowledgments (so_far ids [] [])) front u) (sym (append_assoc before (id ∷ []) (acknowledged_by acks))) (goes_on front fronts)),
    )

acks_open : (asked : ReplyContext) (line : Line) → asked.done ≡ false → IsText (codes "acknowledgments") line → step_of (reading.Reply asked parts.Beginning no_reply) line ≡ goes (reading.Reply asked parts.Acknowledgments no_reply)
unfolding step_of is_acknowledgments
acks_open asked line more text = by_spelled breaks breaks (at_beginning asked no_reply) (codes "acknowledgments") line text ∙ (rw more refl)

-- `acknowledgments`, the words after it, and texts that go on from there
all_acks : (asked : ReplyContext) (u : ReplyParser) (acks : List Acknowledgment) (more : List (List ℕ)) (front : List Line) → asked.done ≡ false → AreAcknowledged asked acks more front
    → ((behind : List Line) → AreTexts more behind → Moves step_of (reading.Reply asked parts.Acknowledgments (so_far (acknowledged_by acks) [] [])) behind u)
    → Moves step_of (reading.Reply asked parts.Beginning no_reply) front u
all_acks asked u acks more [] not_done are goes_on = absurd are.0
all_acks asked u acks more (line ∷ front) not_done are goes_on = (reading.Reply asked parts.Acknowledgments no_reply, acks_open asked line not_done are.0.0, acks_move asked u [] acks more front are.1 are.0.1 goes_on)

round_closes : (asked : ReplyContext) (ids : List ObjectId) → step_of (reading.Reply asked parts.Acknowledgments (so_far ids [] [])) Flush ≡ ends (tolds.Reply (record no_reply { acknowledged = each_once ids; last = false }))
unfolding step_of
round_closes asked ids = refl

no_texts : (r : ReplyParser) (lines : List Line) → AreTexts [] lines → Moves step_of r lines r
no_texts r [] texts = refl
no_texts r (line ∷ lines) texts = absurd texts

round_read : (asked : ReplyContext) (reply : FetchReply) (lines : List Line) → asked.done ≡ false → IsRound asked reply lines → Tells step_of (reading.Reply asked parts.Beginning no_reply) lines (tolds.Reply reply)
round_read asked reply lines not_done is =
    let ids = acknowledged_by is.acknowledgments in
    let at = reading.Reply asked parts.Acknowledgments (so_far ids [] []) in
    subst (λ (l : List Line). Tells step_of (reading.Reply asked parts.Beginning no_reply) l (tolds.Reply reply)) (sym is.is)
    (moves_tell step_of (reading.Reply asked parts.Beginning no_reply) at is.front (Flush ∷ []) (tolds.Reply reply)
    (all_acks asked at is.acknowledgments [] is.front not_done is.acknowledged (no_texts at)) (round_closes asked ids ∙ ap (λ (r : FetchReply). ends (tolds.Reply r)) (sym is.told)))

-- ---- the rest of a reply

-- where the rest may stand: the next text is `shallow-info` or `packfile`
abbrev AtRest : ReplyContext → ReplyParser → FetchReply → Type 0
AtRest asked r reply = (said : List ℕ) (line : Line) → IsText said line → step_of r line ≡ at_rest asked reply said

rest_begins : (asked : ReplyContext) (reply : FetchReply) → asked.done ≡ true → AtRest asked (reading.Reply asked parts.Beginning reply) reply
unfolding step_of
rest_begins asked reply done said line text = by_spelled breaks breaks (at_beginning asked reply) said line text ∙ (rw done refl)

rest_stands : (asked : ReplyContext) (reply : FetchReply) → AtRest asked (reading.Reply asked parts.Rest reply) reply
unfolding step_of
rest_stands asked reply said line text = by_spelled breaks breaks (at_rest asked reply) said line text

-- `packfile`, whether the pack is read or not
abbrev from_packfile : ReplyContext → FetchReply → Step ReplyParser ParsedReply
from_packfile asked reply = if asked.read_pack then goes (reading.Reply asked parts.Bands (record reply { pack = Some [] })) else ends (tolds.Reply reply)

pack_at_rest : (asked : ReplyContext) (reply : FetchReply) → at_rest asked reply (codes "packfile") ≡ from_packfile asked reply
unfolding is_shallow_info is_packfile
pack_at_rest asked reply = refl

pack_behind : (asked : ReplyContext) (reply : FetchReply) (line : Line) → IsText (codes "packfile") line → step_of (reading.Reply asked parts.Packfile reply) line ≡ from_packfile asked reply
unfolding step_of is_packfile
pack_behind asked reply line text = by_spelled breaks breaks (at_packfile asked reply) (codes "packfile") line text

bands_from : (asked : ReplyContext) (r : ReplyParser) (ids shallow unshallow : List ObjectId) (bands : List Band) (line : Line) (lines : List Line) (reads : Bool) → asked.read_pack ≡ reads → step_of r line ≡ from_packfile asked (so_far ids shallow unshallow) → AreBands reads bands lines
    → Tells step_of r (line ∷ lines) (tolds.Reply (record (so_far ids shallow unshallow) { pack = pack_in reads bands; progress = texts_of bands }))
bands_from asked r ids shallow unshallow bands line lines true reads first are =
    let reply = so_far ids shallow unshallow in
    let x = tolds.Reply (behind reply (concat (pieces_of bands)) (texts_of bands)) in
    subst (λ (l : List Line). Tells step_of r (line ∷ l) x) (sym are)
    (first_tells step_of r (reading.Reply asked parts.Bands (behind reply [] [])) line (map band_line bands ++ Flush ∷ []) x (first ∙ if_read asked.read_pack _ _ reads) (bands_tell asked reply [] [] bands))
bands_from asked r ids shallow unshallow bands line lines false unread first are = rw (are.0, are.1) (first ∙ if_unread asked.read_pack _ _ unread)

pack_from : (asked : ReplyContext) (r : ReplyParser) (ids shallow unshallow : List ObjectId) (bands : List Band) (lines : List Line) → ((line : Line) → IsText (codes "packfile") line → step_of r line ≡ from_packfile asked (so_far ids shallow unshallow)) → IsPack asked bands lines
    → Tells step_of r lines (tolds.Reply (record (so_far ids shallow unshallow) { pack = pack_in asked.read_pack bands; progress = texts_of bands }))
pack_from asked r ids shallow unshallow bands [] first are = absurd are
pack_from asked r ids shallow unshallow bands (line ∷ lines) first are = bands_from asked r ids shallow unshallow bands line lines asked.read_pack refl (first line are.0) are.1

-- a move of the border
by_move : (asked : ReplyContext) (reply : FetchReply) (said : List ℕ) (line : Line) → IsText said line → step_of (reading.Reply asked parts.ShallowInfo reply) line ≡ at_change asked reply (shallow_in asked.kind said) (unshallow_in asked.kind said)
unfolding step_of
by_move asked reply said line text =
    by_spelled breaks (goes (reading.Reply asked parts.Packfile reply)) (λ t. at_change asked reply (shallow_in asked.kind t) (unshallow_in asked.kind t)) said line text

pub comes_read : (kind : Kind) (digits : List ℕ) (id : ObjectId) → Spells kind digits id → shallow_in kind (codes "shallow " ++ digits) ≡ Some id
unfolding shallow_in
comes_read kind digits id is = ap (option_and_then (id_in_hex kind)) (after_of (codes "shallow ") digits) ∙ is

leaves_read : (kind : Kind) (digits : List ℕ) (id : ObjectId) → Spells kind digits id → unshallow_in kind (codes "unshallow " ++ digits) ≡ Some id
unfolding unshallow_in
leaves_read kind digits id is = ap (option_and_then (id_in_hex kind)) (after_of (codes "unshallow ") digits) ∙ is

not_coming : (kind : Kind) (digits : List ℕ) → shallow_in kind (codes "unshallow " ++ digits) ≡ None
unfolding shallow_in
not_coming kind digits = refl

moves_read : (asked : ReplyContext) (ids shallow unshallow : List ObjectId) (moves : List Move) (lines : List Line) → All (IsMove asked.kind) moves → AreTexts (map move_text moves) lines
    → Moves step_of (reading.Reply asked parts.ShallowInfo (so_far ids shallow unshallow)) lines (reading.Reply asked parts.ShallowInfo (so_far ids (shallow ++ coming moves) (unshallow ++ leaving moves)))
moves_read asked ids shallow unshallow [] [] are texts =
    ap₂ (λ (a b : List ObjectId). reading.Reply asked parts.ShallowInfo (so_far ids a b)) (sym (append-nil shallow)) (sym (append-nil unshallow))
moves_read asked ids shallow unshallow [] (line ∷ lines) are texts = absurd texts
moves_read asked ids shallow unshallow (Comes digits id ∷ moves) [] are texts = absurd texts
moves_read asked ids shallow unshallow (Comes digits id ∷ moves) (line ∷ lines) are texts = (
  reading.Reply asked parts.ShallowInfo (so_far ids (shallow ++ id ∷ []) unshallow),
  by_move asked (so_far ids shallow unshallow) (codes "shallow " ++ digits) line texts.0
      ∙ ap (λ found. at_change asked (so_far ids shallow unshallow) found (unshallow_in asked.kind (codes "shallow " ++ digits))) (comes_read asked.kind digits id (All-head (IsMove asked.kind) (Comes digits id) moves are)),
  subst (λ (l : List ObjectId). Moves step_of (reading.Reply asked parts.ShallowInfo (so_far ids (shallow ++ id ∷ []) unshallow)) lines (reading.Reply asked parts.ShallowInfo (so_far ids l (unshallow ++ leaving moves)))) (append_assoc shallow (id ∷ []) (coming moves))
      (moves_read asked ids (shallow ++ id ∷ []) unshallow moves lines (All-tail (IsMove asked.kind) (Comes digits id) moves are) texts.1),
)
moves_read asked ids shallow unshallow (Leaves digits id ∷ moves) [] are texts = absurd texts
moves_read asked ids shallow unshallow (Leaves digits id ∷ moves) (line ∷ lines) are texts = (
  reading.Reply asked parts.ShallowInfo (so_far ids shallow (unshallow ++ id ∷ [])),
  by_move asked (so_far ids shallow unshallow) (codes "unshallow " ++ digits) line texts.0
      ∙ ap (λ found. at_change asked (so_far ids shallow unshallow) found (unshallow_in asked.kind (codes "unshallow " ++ digits))) (not_coming asked.kind digits)
      ∙ ap (at_change asked (so_far ids shallow unshallow) None) (leaves_read asked.kind digits id (All-head (IsMove asked.kind) (Leaves digits id) moves are)),
  subst (λ (l : List ObjectId). Moves step_of (reading.Reply asked parts.ShallowInfo (so_far ids shallow (unshallow ++ id ∷ []))) lines (reading.Reply asked parts.ShallowInfo (so_far ids (shallow ++ coming moves) l))) (append_assoc unshallow (id ∷ []) (leaving moves))
      (moves_read asked ids shallow (unshallow ++ id ∷ []) moves lines (All-tail (IsMove asked.kind) (Leaves digits id) moves are) texts.1),
)

info_at_rest : (asked : ReplyContext) (reply : FetchReply) → at_rest asked reply (codes "shallow-info") ≡ goes (reading.Reply asked parts.ShallowInfo reply)
unfolding is_shallow_info
info_at_rest asked reply = refl

info_closes : (asked : ReplyContext) (reply : FetchReply) → step_of (reading.Reply asked parts.ShallowInfo reply) Delim ≡ goes (reading.Reply asked parts.Packfile reply)
unfolding step_of
info_closes asked reply = refl

-- `shallow-info` and the moves after it
info_moves : (asked : ReplyContext) (r : ReplyParser) (ids : List ObjectId) (moves : List Move) (front : List Line) → AtRest asked r (so_far ids [] []) → All (IsMove asked.kind) moves → AreTexts (codes "shallow-info" ∷ map move_text moves) front
    → Moves step_of r front (reading.Reply asked parts.ShallowInfo (so_far ids (coming moves) (leaving moves)))
info_moves asked r ids moves [] rests are texts = absurd texts
info_moves asked r ids moves (line ∷ front) rests are texts = (
  reading.Reply asked parts.ShallowInfo (so_far ids [] []),
  rests (codes "shallow-info") line texts.0 ∙ info_at_rest asked (so_far ids [] []),
  moves_read asked ids [] [] moves front are texts.1,
)

rest_from : (asked : ReplyContext) (r : ReplyParser) (ids : List ObjectId) (moves : Option (List Move)) (bands : List Band) (front behind : List Line) → AtRest asked r (so_far ids [] []) → AreMoves asked.kind moves front → IsPack asked bands behind
    → Tells step_of r (front ++ behind) (tolds.Reply (record (so_far ids (coming (all_moves moves)) (leaving (all_moves moves))) { pack = pack_in asked.read_pack bands; progress = texts_of bands }))
rest_from asked r ids None bands front behind rests border pack =
    let x = tolds.Reply (record (so_far ids [] []) { pack = pack_in asked.read_pack bands; progress = texts_of bands }) in
    subst (λ (l : List Line). Tells step_of r (l ++ behind) x) (sym border)
    (pack_from asked r ids [] [] bands behind (λ line text. rests (codes "packfile") line text ∙ pack_at_rest asked (so_far ids [] [])) pack)
rest_from asked r ids (Some moves) bands front behind rests (texts, same, are, each) pack =
    let reply = so_far ids (coming moves) (leaving moves) in
    let x = tolds.Reply (record reply { pack = pack_in asked.read_pack bands; progress = texts_of bands }) in
    subst (λ (l : List Line). Tells step_of r (l ++ behind) x) (sym same)
    (moves_tell step_of r (reading.Reply asked parts.Packfile reply) (texts ++ Delim ∷ []) behind x
    (moves_on step_of r (reading.Reply asked parts.ShallowInfo reply) (reading.Reply asked parts.Packfile reply) texts (Delim ∷ []) (info_moves asked r ids moves texts rests each are) (reading.Reply asked parts.Packfile reply, info_closes asked reply, refl))
    (pack_from asked (reading.Reply asked parts.Packfile reply) ids (coming moves) (leaving moves) bands behind (λ line text. pack_behind asked reply line text) pack))

rest_read : (asked : ReplyContext) (r : ReplyParser) (ids : List ObjectId) (reply : FetchReply) (lines : List Line) → AtRest asked r (so_far ids [] []) → IsRest asked ids reply lines → Tells step_of r lines (tolds.Reply reply)
rest_read asked r ids reply lines rests is =
    subst (λ (l : List Line). Tells step_of r l (tolds.Reply reply)) (sym is.is)
    (subst (λ (whole : FetchReply). Tells step_of r (is.front ++ is.behind) (tolds.Reply whole)) (sym is.told) (rest_from asked r ids is.moves is.bands is.front is.behind rests is.border is.pack))

ready_closes : (asked : ReplyContext) (ids : List ObjectId) → step_of (reading.Reply asked parts.Ready (so_far ids [] [])) Delim ≡ goes (reading.Reply asked parts.Rest (so_far (each_once ids) [] []))
unfolding step_of
ready_closes asked ids = refl

ready_moves : (asked : ReplyContext) (ids : List ObjectId) (lines : List Line) → AreTexts (codes "ready" ∷ []) lines → Moves step_of (reading.Reply asked parts.Acknowledgments (so_far ids [] [])) lines (reading.Reply asked parts.Ready (so_far ids [] []))
ready_moves asked ids [] texts = absurd texts
ready_moves asked ids (line ∷ lines) texts = (
  reading.Reply asked parts.Ready (so_far ids [] []),
  by_acknowledgment asked ids (codes "ready") line texts.0 ∙ at_ready asked (so_far ids [] []),
  no_texts (reading.Reply asked parts.Ready (so_far ids [] [])) lines texts.1,
)

ready_read : (asked : ReplyContext) (reply : FetchReply) (lines : List Line) → asked.done ≡ false → IsReady asked reply lines → Tells step_of (reading.Reply asked parts.Beginning no_reply) lines (tolds.Reply reply)
ready_read asked reply lines not_done is =
    let ids = acknowledged_by is.acknowledgments in
    let at = reading.Reply asked parts.Ready (so_far ids [] []) in
    let rest = reading.Reply asked parts.Rest (so_far (each_once ids) [] []) in
    subst (λ (l : List Line). Tells step_of (reading.Reply asked parts.Beginning no_reply) l (tolds.Reply reply)) (sym is.is)
    (moves_tell step_of (reading.Reply asked parts.Beginning no_reply) at is.front (Delim ∷ is.behind) (tolds.Reply reply)
    (all_acks asked at is.acknowledgments (codes "ready" ∷ []) is.front not_done is.acknowledged (ready_moves asked ids))
    (first_tells step_of at rest Delim is.behind (tolds.Reply reply) (ready_closes asked ids) (rest_read asked rest (each_once ids) reply is.behind (rest_stands asked (so_far (each_once ids) [] [])) is.rest)))

reply_by : (asked : ReplyContext) (reply : FetchReply) (lines : List Line) (done : Bool) → asked.done ≡ done → IsReplyTo done asked reply lines → Tells step_of (reading.Reply asked parts.Beginning no_reply) lines (tolds.Reply reply)
reply_by asked reply lines true done is = rest_read asked (reading.Reply asked parts.Beginning no_reply) [] reply lines (rest_begins asked no_reply done) is
reply_by asked reply lines false not_done (inl round) = round_read asked reply lines not_done round
reply_by asked reply lines false not_done (inr ready) = ready_read asked reply lines not_done ready

pub reply_read : (asked : ReplyContext) (reply : FetchReply) (lines : List Line) → IsReply asked reply lines → Tells step_of (start_of (Reply asked)) lines (tolds.Reply reply)
reply_read asked reply lines is = reply_by asked reply lines asked.done refl is
