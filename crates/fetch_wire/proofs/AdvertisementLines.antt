-- An advertisement of version 1 is read as it is written.
use Rattle.std.proofs.Common.{◌≡◌, ◌≢◌, ℕ, ◌-◌, Bool, true, false, not, List, [], ◌∷◌, ◌++◌, map, length, Option, Some, None, IfSome, option_map, option_and_then, refl, sym, ap, ◌∙◌, subst, append_assoc, length-append, arith, All, codes, bytes_eq, ◌==◌, if◌then◌else◌}
use Rattle.std.specs.Prelude.{⊤}
use Rattle.std.specs.List.{flat_map, list_any}
use Rattle.std.specs.Option.{option_or}
use Rattle.std.proofs.lemmas.List.{append-nil, take_at, drop_at}
use Rattle.std.proofs.lemmas.List.Elements.{All-nil, All-cons, All-head, All-tail}
use Rattle.std.proofs.lemmas.Slice.Eq.{bytes_eq-Decides}
use Rattle.hex.specs.Hex.{encode_lower}
use Rattle.fetch_base.specs.Id.{bytes_of, id_in_hex}
use Rattle.fetch_base.specs.Lines.{IsWithout}
use Rattle.fetch_base.specs.Scan.{after}
use Rattle.fetch_base.specs.declared.id.Kind.{Kind}
use Rattle.fetch_base.specs.declared.id.ObjectId.{ObjectId}
use Rattle.fetch_base.proofs.LineLaws.{splits}
use Rattle.fetch_base.proofs.Words.{both_without}
use Rattle.fetch_replies.specs.declared.replies.reply.ReplyKind.TheVariants as awaits
use Rattle.fetch_replies.specs.declared.replies.reply.ParsedReply.TheVariants as told
use Rattle.fetch_lines.specs.declared.greetings.handshake.Capability.{Capability}
use Rattle.fetch_lines.specs.declared.greetings.handshake.Handshake.{Handshake}
use Rattle.fetch_lines.specs.declared.lines.line.Line.TheVariants.{Flush}
use Rattle.fetch_replies.specs.declared.replies.parser.Advertised.{Advertised}
use Rattle.fetch_replies.specs.declared.replies.parser.Advertised.TheVariants as next
use Rattle.fetch_replies.specs.declared.replies.parser.ReplyParser.{ReplyParser}
use Rattle.fetch_replies.specs.declared.replies.parser.ReplyParser.TheVariants as reading
use Rattle.fetch_lines.specs.declared.listings.reference.Ref.{Ref}
use Rattle.fetch_lines.specs.declared.listings.reference.Ref.TheVariants.{Direct, Symbolic, Peeled, Unborn}
use Rattle.fetch_lines.specs.AdvertisementLines.{joined, named_text, peel_texts, advertised_texts, first_texts, advertisement_lines}
use Rattle.fetch_wire.specs.Advertisable.{IsOneWord, IsAdvertisable}
use Rattle.fetch_replies.specs.Advertisements.{is_version_1, with_word, with_words, handshake_1, target_among, id_and_name, before_peel, is_no_name, is_null, advertised, peeled_to, with_peel, at_name, at_reference, at_advertised, first_named, at_first}
use Rattle.fetch_replies.specs.Awaited.{step_of, start_of}
use Rattle.fetch_replies.specs.FetchReplies.{shallow_in}
use Rattle.fetch_lines.specs.Greetings.{capability_in, if_known, is_version_2}
use Rattle.fetch_replies.specs.LinesTold.{Tells}
use Rattle.fetch_replies.specs.Listings.{is_listed, ref_with}
use Rattle.fetch_replies.specs.NamesTold.{AreNamedOnce}
use Rattle.fetch_lines.specs.References.{name_in, id_in, peeled_in, target_in}
use Rattle.fetch_lines.specs.RequestLines.{id_lines}
use Rattle.fetch_lines.specs.Requests.{sent, text_line}
use Rattle.fetch_lines.specs.ServerLines.{capability_text, with_value, IsIdOf, IsTellable}
use Rattle.fetch_replies.specs.Stepping.{goes, ends, breaks, or_breaks}
use Rattle.fetch_lines.specs.Texts.{is_error, without_lf}
use Rattle.fetch_lines.specs.Words.{words}
use Rattle.fetch_replies.proofs.GreetingLines.{tells_capability}
use Rattle.fetch_replies.proofs.IdTexts.{id_read, hex_all, hex_begins, none_after}
use Rattle.fetch_replies.proofs.ListingLines.{apart, words_spaced, no_error_by, id_whole}
use Rattle.fetch_replies.proofs.Moving.{Moves, moves_tell, by_text_line, sent_on}
use Rattle.fetch_replies.proofs.Peeling.{peel_front}
use Rattle.fetch_replies.proofs.ReplyLines.{shallow_read, shallow_fails_not}

-- ---- capabilities

pub word_by : (found : List Capability) (text : List ℕ) (c : Capability) → text ≢ [] → option_and_then if_known (capability_in text) ≡ Some c → with_word found text ≡ Some (found ++ c ∷ [])
word_by found [] c some is = absurd (some refl)
word_by found (b ∷ bs) c some is = ap (option_map (λ capability. found ++ capability ∷ [])) is

pub text_some : (name : List ℕ) (value : Option (List ℕ)) → name ≢ [] → with_value name value ≢ []
text_some [] value some = λ e. some refl
text_some (b ∷ bs) None some = λ e. cc
text_some (b ∷ bs) (Some value) some = λ e. cc

words_told : (found cs : List Capability) → All IsTellable cs → with_words found (map capability_text cs) ≡ Some (found ++ cs)
words_told found [] are = ap Some (sym (append-nil found))
words_told found (c ∷ cs) are =
    let is = All-head IsTellable c cs are in
    ap (option_and_then (λ more. with_words more (map capability_text cs))) (word_by found (capability_text c) c (text_some c.name c.value is.named) (tells_capability c is))
    ∙ words_told (found ++ c ∷ []) cs (All-tail IsTellable c cs are) ∙ ap Some (append_assoc found (c ∷ []) cs)

whole_texts : (cs : List Capability) → All IsOneWord cs → All (IsWithout 32) (map capability_text cs)
whole_texts [] are = All-nil (IsWithout 32)
whole_texts (c ∷ cs) are = All-cons (IsWithout 32) (capability_text c) (map capability_text cs) (All-head IsOneWord c cs are) (whole_texts cs (All-tail IsOneWord c cs are))

capabilities_told : (cs : List Capability) → All IsTellable cs → All IsOneWord cs → with_words [] (words (joined (map capability_text cs))) ≡ Some cs
capabilities_told [] are whole = refl
capabilities_told (c ∷ cs) are whole =
    ap (with_words []) (words_spaced (capability_text c) (map capability_text cs) (All-head IsOneWord c cs whole) (whole_texts cs (All-tail IsOneWord c cs whole))) ∙ words_told [] (c ∷ cs) are

-- ---- names

named_read : (kind : Kind) (id : ObjectId) (name : List ℕ) → IsIdOf kind id → id_and_name kind (named_text (Some id) name) ≡ Some (id, name)
named_read kind id name is =
    ap (option_and_then (λ parts. option_map (λ x. (x, parts.1)) (id_in_hex kind parts.0))) ((splits 32 (named_text (Some id) name)).only (encode_lower (bytes_of id)) name refl (id_whole kind (Some id) is))
    ∙ ap (option_map (λ x. (x, name))) (id_read kind id is)

pub peel_read : (name : List ℕ) → before_peel (name ++ codes "^{}") ≡ Some name
unfolding before_peel
peel_read name =
    let n : length (name ++ codes "^{}") - 3 ≡ length name = omega (arith, length-append name (codes "^{}")) in
    rw (n, drop_at name (codes "^{}") (length name) refl, take_at name (codes "^{}") (length name) refl) refl

-- before what its tag peels to is told
abbrev pub unpeeled : Ref → Ref
unpeeled (Direct name object) = Direct name object
unpeeled (Symbolic name target None object) = Symbolic name target None object
unpeeled (Symbolic name target (Some tag) object) = Symbolic name target None tag
unpeeled (Peeled name tag object) = Direct name tag
unpeeled (Unborn name target) = Unborn name target

same_name : (r : Ref) → name_in (unpeeled r) ≡ name_in r
same_name (Direct name object) = refl
same_name (Symbolic name target None object) = refl
same_name (Symbolic name target (Some tag) object) = refl
same_name (Peeled name tag object) = refl
same_name (Unborn name target) = refl

own_ref : (r : Ref) (id : ObjectId) → id_in r ≡ Some id → ref_with (name_in r) (Some id) (target_in r, None) ≡ Some (unpeeled r)
own_ref (Direct name object) id is = ap (λ x. ref_with name x (None, None)) (sym is)
own_ref (Symbolic name target None object) id is = ap (λ x. ref_with name x (Some target, None)) (sym is)
own_ref (Symbolic name target (Some tag) object) id is = ap (λ x. ref_with name x (Some target, None)) (sym is)
own_ref (Peeled name tag object) id is = ap (λ x. ref_with name x (None, None)) (sym is)
own_ref (Unborn name target) id is = cc

pub not_peeled : (r : Ref) → peeled_in r ≡ None → unpeeled r ≡ r
not_peeled (Direct name object) is = refl
not_peeled (Symbolic name target None object) is = refl
not_peeled (Symbolic name target (Some tag) object) is = cc
not_peeled (Peeled name tag object) is = cc
not_peeled (Unborn name target) is = refl

peeled_again : (r : Ref) (id : ObjectId) → peeled_in r ≡ Some id → peeled_to id (unpeeled r) ≡ r
peeled_again (Direct name object) id is = cc
peeled_again (Symbolic name target None object) id is = cc
peeled_again (Symbolic name target (Some tag) object) id is = cc
peeled_again (Peeled name tag object) id is = cc
peeled_again (Unborn name target) id is = cc

-- ---- one reference

if_unlisted : (before : List Ref) (r : Ref) → is_listed before r ≡ false → (if is_listed before r then None else Some r) ≡ Some r
if_unlisted before r new = rw new refl

by_name : (h : Handshake) (before : List Ref) (id : ObjectId) (name : List ℕ) → name ≢ []
    → advertised h before id name ≡ option_and_then (λ r. if is_listed before r then None else Some r) (ref_with name (Some id) (target_among name h.capabilities, None))
by_name h before id [] some = absurd (some refl)
by_name h before id (c ∷ cs) some = refl

-- a reference that is told, and not yet what its tag peels to
pub own_told : (h : Handshake) (before : List Ref) (r : Ref) (id : ObjectId) → name_in r ≢ [] → target_among (name_in r) h.capabilities ≡ target_in r → id_in r ≡ Some id → is_listed before r ≡ false
    → advertised h before id (name_in r) ≡ Some (unpeeled r)
own_told h before r id some target has new =
    by_name h before id (name_in r) some
    ∙ ap (λ t. option_and_then (λ x. if is_listed before x then None else Some x) (ref_with (name_in r) (Some id) (t, None))) target
    ∙ ap (option_and_then (λ x. if is_listed before x then None else Some x)) (own_ref r id has)
    ∙ if_unlisted before (unpeeled r) (ap (λ (n : List ℕ). list_any (λ q. bytes_eq (name_in q) n) before) (same_name r) ∙ new)

-- another reference may come
abbrev pub IsOpen : Advertised → Type 0
IsOpen next.Reference = ⊤
IsOpen next.Peeled = ⊤
IsOpen next.Shallow = ⊥

pub named_by : (h : Handshake) (before : List Ref) (allowed : Advertised) (id : ObjectId) (name : List ℕ) → IsOpen allowed
    → at_name h before allowed id name None ≡ option_map (λ r. reading.Advertisement h (before ++ r ∷ []) next.Reference) (advertised h before id name)
named_by h before next.Reference id name is = refl
named_by h before next.Peeled id name is = refl
named_by h before next.Shallow id name is = absurd is

not_border : (kind : Kind) (id : ObjectId) (name : List ℕ) → IsIdOf kind id → shallow_in kind (named_text (Some id) name) ≡ None
unfolding shallow_in
not_border kind id name is =
    let b = hex_begins (λ d. not (115 == d)) kind id is refl in
    ap (λ (t : List ℕ). option_and_then (id_in_hex kind) (after (codes "shallow ") (t ++ 32 ∷ name))) b.is
    ∙ ap (option_and_then (id_in_hex kind)) (none_after 115 b.first (codes "hallow ") (b.others ++ 32 ∷ name) b.passes)

-- what a line of a name does
name_step : (h : Handshake) (before : List Ref) (allowed : Advertised) (id : ObjectId) (name : List ℕ) (short : Option (List ℕ)) (now : ReplyParser) → IsIdOf h.object_hash id → before_peel name ≡ short
    → at_name h before allowed id name short ≡ Some now → step_of (reading.Advertisement h before allowed) (text_line (named_text (Some id) name)) ≡ goes now
unfolding step_of
name_step h before allowed id name short now is peel at =
    by_text_line (ends (told.Advertisement h before)) breaks (at_advertised h before allowed) (named_text (Some id) name) (no_error_by h.object_hash (Some id) (32 ∷ name) is)
    ∙ ap (λ o. or_breaks (option_or (option_map (λ x. reading.Advertisement h before next.Shallow) o) (at_reference h before allowed (named_text (Some id) name))) (λ s. goes s)) (not_border h.object_hash id name is)
    ∙ ap (λ o. or_breaks (option_and_then (λ x. at_name h before allowed x.0 x.1 (before_peel x.1)) o) (λ s. goes s)) (named_read h.object_hash id name is)
    ∙ ap (λ s. or_breaks (at_name h before allowed id name s) (λ x. goes x)) peel
    ∙ ap (λ o. or_breaks o (λ x. goes x)) at

own_step : (h : Handshake) (before : List Ref) (allowed : Advertised) (r : Ref) (id : ObjectId) → IsAdvertisable h.object_hash h.capabilities r → id_in r ≡ Some id → IsIdOf h.object_hash id → is_listed before r ≡ false → IsOpen allowed
    → step_of (reading.Advertisement h before allowed) (text_line (named_text (Some id) (name_in r))) ≡ goes (reading.Advertisement h (before ++ unpeeled r ∷ []) next.Reference)
own_step h before allowed r id is has of_kind new open_yet =
    name_step h before allowed id (name_in r) None (reading.Advertisement h (before ++ unpeeled r ∷ []) next.Reference) of_kind is.unpeeled
    (named_by h before allowed id (name_in r) open_yet ∙ ap (option_map (λ x. reading.Advertisement h (before ++ x ∷ []) next.Reference)) (own_told h before r id is.name is.target has new))

pub peel_told : (h : Handshake) (before : List Ref) (r : Ref) (id : ObjectId) → peeled_in r ≡ Some id → with_peel id (name_in r) (before ++ unpeeled r ∷ []) ≡ Some (before ++ r ∷ [])
peel_told h before r id has =
    peel_front id (name_in r) before (unpeeled r)
    ∙ ap (λ (b : Bool). if b then Some (before ++ peeled_to id (unpeeled r) ∷ []) else None) (ap (λ (n : List ℕ). bytes_eq n (name_in r)) (same_name r) ∙ (bytes_eq-Decides (name_in r) (name_in r)).1 refl)
    ∙ ap (λ (x : Ref). Some (before ++ x ∷ [])) (peeled_again r id has)

peel_step : (h : Handshake) (before : List Ref) (r : Ref) (id : ObjectId) → peeled_in r ≡ Some id → IsIdOf h.object_hash id
    → step_of (reading.Advertisement h (before ++ unpeeled r ∷ []) next.Reference) (text_line (named_text (Some id) (name_in r ++ codes "^{}"))) ≡ goes (reading.Advertisement h (before ++ r ∷ []) next.Peeled)
peel_step h before r id has of_kind =
    name_step h (before ++ unpeeled r ∷ []) next.Reference id (name_in r ++ codes "^{}") (Some (name_in r)) (reading.Advertisement h (before ++ r ∷ []) next.Peeled) of_kind (peel_read (name_in r))
    (ap (option_map (λ refs. reading.Advertisement h refs next.Peeled)) (peel_told h before r id has))

-- what may come after a reference
abbrev pub behind_ref : Option ObjectId → Advertised
behind_ref None = next.Reference
behind_ref (Some id) = next.Peeled

pub stays_open : (peeled : Option ObjectId) → IsOpen (behind_ref peeled)
stays_open None = tt
stays_open (Some id) = tt

peels_by : (h : Handshake) (before : List Ref) (r : Ref) (peeled : Option ObjectId) → peeled_in r ≡ peeled → IfSome peeled (IsIdOf h.object_hash)
    → Moves step_of (reading.Advertisement h (before ++ unpeeled r ∷ []) next.Reference) (sent (peel_texts (name_in r) peeled)) (reading.Advertisement h (before ++ r ∷ []) (behind_ref peeled))
peels_by h before r None has of_kind = ap (λ (x : Ref). reading.Advertisement h (before ++ x ∷ []) next.Reference) (not_peeled r has)
peels_by h before r (Some id) has of_kind = (reading.Advertisement h (before ++ r ∷ []) next.Peeled, peel_step h before r id has of_kind, refl)

ref_by : (h : Handshake) (before : List Ref) (allowed : Advertised) (r : Ref) (id : Option ObjectId) → IsAdvertisable h.object_hash h.capabilities r → id_in r ≡ id → id ≢ None → IfSome id (IsIdOf h.object_hash) → is_listed before r ≡ false → IsOpen allowed
    → Moves step_of (reading.Advertisement h before allowed) (sent (named_text id (name_in r) ∷ peel_texts (name_in r) (peeled_in r))) (reading.Advertisement h (before ++ r ∷ []) (behind_ref (peeled_in r)))
ref_by h before allowed r None is has born of_kind new open_yet = absurd (born refl)
ref_by h before allowed r (Some id) is has born of_kind new open_yet =
    (reading.Advertisement h (before ++ unpeeled r ∷ []) next.Reference, own_step h before allowed r id is has of_kind new open_yet, peels_by h before r (peeled_in r) refl is.peeled)

refs_move : (h : Handshake) (before : List Ref) (allowed : Advertised) (refs : List Ref) → All (IsAdvertisable h.object_hash h.capabilities) refs → AreNamedOnce (before ++ refs) → IsOpen allowed
    → (last : Advertised) × Moves step_of (reading.Advertisement h before allowed) (sent (flat_map advertised_texts refs)) (reading.Advertisement h (before ++ refs) last)
refs_move h before allowed [] are once open_yet = (allowed, ap (λ (l : List Ref). reading.Advertisement h l allowed) (sym (append-nil before)))
refs_move h before allowed (r ∷ refs) are once open_yet =
    let is = All-head (IsAdvertisable h.object_hash h.capabilities) r refs are in
    let more = refs_move h (before ++ r ∷ []) (behind_ref (peeled_in r)) refs (All-tail (IsAdvertisable h.object_hash h.capabilities) r refs are) (subst AreNamedOnce (sym (append_assoc before (r ∷ []) refs)) once) (stays_open (peeled_in r)) in (
      more.0,
      subst (λ (l : List Ref). Moves step_of (reading.Advertisement h before allowed) (sent (flat_map advertised_texts (r ∷ refs))) (reading.Advertisement h l more.0)) (append_assoc before (r ∷ []) refs)
          (sent_on (reading.Advertisement h before allowed) (reading.Advertisement h (before ++ r ∷ []) (behind_ref (peeled_in r))) (reading.Advertisement h ((before ++ r ∷ []) ++ refs) more.0) (advertised_texts r) (flat_map advertised_texts refs)
          (ref_by h before allowed r (id_in r) is refl is.born is.id (apart before r refs once) open_yet) more.1),
    )

-- ---- the border

border_step : (h : Handshake) (refs : List Ref) (allowed : Advertised) (id : ObjectId) → IsIdOf h.object_hash id
    → step_of (reading.Advertisement h refs allowed) (text_line (codes "shallow " ++ encode_lower (bytes_of id))) ≡ goes (reading.Advertisement h refs next.Shallow)
unfolding step_of
border_step h refs allowed id is =
    by_text_line (ends (told.Advertisement h refs)) breaks (at_advertised h refs allowed) (codes "shallow " ++ encode_lower (bytes_of id)) (shallow_fails_not (encode_lower (bytes_of id)))
    ∙ ap (λ o. or_breaks (option_or (option_map (λ x. reading.Advertisement h refs next.Shallow) o) (at_reference h refs allowed (codes "shallow " ++ encode_lower (bytes_of id)))) (λ s. goes s)) (shallow_read h.object_hash id is)

border_moves : (h : Handshake) (refs : List Ref) (allowed : Advertised) (border : List ObjectId) → All (IsIdOf h.object_hash) border
    → (last : Advertised) × Moves step_of (reading.Advertisement h refs allowed) (sent (id_lines (codes "shallow ") border)) (reading.Advertisement h refs last)
border_moves h refs allowed [] are = (allowed, refl)
border_moves h refs allowed (id ∷ border) are =
    let more = border_moves h refs next.Shallow border (All-tail (IsIdOf h.object_hash) id border are) in
    (more.0, (reading.Advertisement h refs next.Shallow, border_step h refs allowed id (All-head (IsIdOf h.object_hash) id border are), more.1))

pub closes : (h : Handshake) (refs : List Ref) (allowed : Advertised) → step_of (reading.Advertisement h refs allowed) Flush ≡ ends (told.Advertisement h refs)
unfolding step_of
closes h refs allowed = refl

-- ---- the first text

opens : step_of reading.Greeting (text_line (codes "version 1")) ≡ goes reading.Version
unfolding step_of is_error without_lf is_version_2 is_version_1
opens = refl

first_step : (cs : List Capability) (id : ObjectId) (name : List ℕ) (now : ReplyParser) → All IsTellable cs → All IsOneWord cs → IsIdOf (handshake_1 cs).object_hash id → IsWithout 0 name → first_named (handshake_1 cs) (id, name) ≡ Some now
    → step_of reading.Version (text_line (named_text (Some id) name ++ 0 ∷ joined (map capability_text cs))) ≡ goes now
unfolding step_of
first_step cs id name now are whole is none at =
    let own = named_text (Some id) name in
    let words_of = joined (map capability_text cs) in
    let fails_not = subst (λ (l : List ℕ). is_error (l ++ 10 ∷ []) ≡ false) (sym (append_assoc (encode_lower (bytes_of id)) (32 ∷ name) (0 ∷ words_of))) (no_error_by (handshake_1 cs).object_hash (Some id) ((32 ∷ name) ++ 0 ∷ words_of) is) in
    by_text_line breaks breaks (λ text. or_breaks (at_first text) (λ s. goes s)) (own ++ 0 ∷ words_of) fails_not
    ∙ ap (λ o. or_breaks (option_and_then (λ parts. option_and_then (λ capabilities. option_and_then (first_named (handshake_1 capabilities)) (id_and_name (handshake_1 capabilities).object_hash parts.0)) (with_words [] (words parts.1))) o) (λ s. goes s))
    ((splits 0 (own ++ 0 ∷ words_of)).only own words_of refl (both_without 0 (encode_lower (bytes_of id)) (32 ∷ name) (hex_all (λ b. not (b == 0)) (bytes_of id) refl is.bytes) none))
    ∙ ap (λ o. or_breaks (option_and_then (λ capabilities. option_and_then (first_named (handshake_1 capabilities)) (id_and_name (handshake_1 capabilities).object_hash own)) o) (λ s. goes s)) (capabilities_told cs are whole)
    ∙ ap (λ o. or_breaks (option_and_then (first_named (handshake_1 cs)) o) (λ s. goes s)) (named_read (handshake_1 cs).object_hash id name is)
    ∙ ap (λ o. or_breaks o (λ s. goes s)) at

a_name_by : (name : List ℕ) (b : Bool) → is_no_name name ≡ b → before_peel name ≡ None → b ≡ false
unfolding is_no_name
a_name_by name true is peel =
    let same : name ≡ codes "capabilities^{}" = (bytes_eq-Decides name (codes "capabilities^{}")).0 is in
    absurd (let e = subst (λ (n : List ℕ). before_peel n ≡ None) (same ∙ refl) peel in let f : Some (codes "capabilities") ≡ None = sym (peel_read (codes "capabilities")) ∙ e in cc)
a_name_by name false is peel = refl

a_name : (name : List ℕ) → before_peel name ≡ None → is_no_name name ≡ false
a_name name peel = a_name_by name (is_no_name name) refl peel

pub first_named_is : (h : Handshake) (id : ObjectId) (name : List ℕ) → before_peel name ≡ None → first_named h (id, name) ≡ at_name h [] next.Peeled id name None
first_named_is h id name peel = rw (a_name name peel, peel) refl

first_ref : (cs : List Capability) (r : Ref) (id : ObjectId) → All IsTellable cs → All IsOneWord cs → IsAdvertisable (handshake_1 cs).object_hash cs r → id_in r ≡ Some id → IsIdOf (handshake_1 cs).object_hash id
    → step_of reading.Version (text_line (named_text (Some id) (name_in r) ++ 0 ∷ joined (map capability_text cs))) ≡ goes (reading.Advertisement (handshake_1 cs) (unpeeled r ∷ []) next.Reference)
first_ref cs r id are whole is has of_kind =
    let h = handshake_1 cs in
    first_step cs id (name_in r) (reading.Advertisement h (unpeeled r ∷ []) next.Reference) are whole of_kind is.whole
    (first_named_is h id (name_in r) is.unpeeled ∙ ap (option_map (λ x. reading.Advertisement h ([] ++ x ∷ []) next.Reference)) (own_told h [] r id is.name is.target has refl))

first_by : (cs : List Capability) (r : Ref) (id : Option ObjectId) → All IsTellable cs → All IsOneWord cs → IsAdvertisable (handshake_1 cs).object_hash cs r → id_in r ≡ id → id ≢ None → IfSome id (IsIdOf (handshake_1 cs).object_hash)
    → Moves step_of reading.Version (sent ((named_text id (name_in r) ++ 0 ∷ joined (map capability_text cs)) ∷ peel_texts (name_in r) (peeled_in r))) (reading.Advertisement (handshake_1 cs) (r ∷ []) (behind_ref (peeled_in r)))
first_by cs r None are whole is has born of_kind = absurd (born refl)
first_by cs r (Some id) are whole is has born of_kind =
    let h = handshake_1 cs in
    (reading.Advertisement h (unpeeled r ∷ []) next.Reference, first_ref cs r id are whole is has of_kind, peels_by h [] r (peeled_in r) refl is.peeled)

pub no_ref : (h : Handshake) (null : ObjectId) → is_null null ≡ true → first_named h (null, codes "capabilities^{}") ≡ Some (reading.Advertisement h [] next.Shallow)
unfolding is_no_name
no_ref h null zeros = rw zeros refl

first_moves : (null : ObjectId) (cs : List Capability) (refs : List Ref) → All IsTellable cs → All IsOneWord cs → IsIdOf (handshake_1 cs).object_hash null → is_null null ≡ true
    → All (IsAdvertisable (handshake_1 cs).object_hash cs) refs → AreNamedOnce refs
    → (last : Advertised) × Moves step_of reading.Version (sent (first_texts null cs refs)) (reading.Advertisement (handshake_1 cs) refs last)
first_moves null cs [] are whole of_kind zeros is once =
    let h = handshake_1 cs in
    (next.Shallow, (reading.Advertisement h [] next.Shallow, first_step cs null (codes "capabilities^{}") (reading.Advertisement h [] next.Shallow) are whole of_kind refl (no_ref h null zeros), refl))
first_moves null cs (r ∷ refs) are whole of_kind zeros is once =
    let h = handshake_1 cs in
    let one = All-head (IsAdvertisable h.object_hash cs) r refs is in
    let more = refs_move h (r ∷ []) (behind_ref (peeled_in r)) refs (All-tail (IsAdvertisable h.object_hash cs) r refs is) once (stays_open (peeled_in r)) in (
      more.0,
      sent_on reading.Version (reading.Advertisement h (r ∷ []) (behind_ref (peeled_in r))) (reading.Advertisement h (r ∷ refs) more.0)
          ((named_text (id_in r) (name_in r) ++ 0 ∷ joined (map capability_text cs)) ∷ peel_texts (name_in r) (peeled_in r)) (flat_map advertised_texts refs)
          (first_by cs r (id_in r) are whole one refl one.born one.id) more.1,
    )

pub advertisement_tells : (null : ObjectId) (cs : List Capability) (refs : List Ref) (border : List ObjectId) → All IsTellable cs → All IsOneWord cs → IsIdOf (handshake_1 cs).object_hash null → is_null null ≡ true
    → All (IsAdvertisable (handshake_1 cs).object_hash cs) refs → AreNamedOnce refs → All (IsIdOf (handshake_1 cs).object_hash) border
    → Tells step_of (start_of awaits.Greeting) (advertisement_lines null cs refs border) (told.Advertisement (handshake_1 cs) refs)
advertisement_tells null cs refs border are whole of_kind zeros is once shallow =
    let h = handshake_1 cs in
    let first = first_moves null cs refs are whole of_kind zeros is once in
    let last = border_moves h refs first.0 border shallow in
    moves_tell step_of reading.Greeting (reading.Advertisement h refs last.0) (sent (codes "version 1" ∷ first_texts null cs refs ++ id_lines (codes "shallow ") border)) (Flush ∷ []) (told.Advertisement h refs)
    (reading.Version, opens, sent_on reading.Version (reading.Advertisement h refs first.0) (reading.Advertisement h refs last.0) (first_texts null cs refs) (id_lines (codes "shallow ") border) first.1 last.1) (closes h refs last.0)
