-- A line that goes on with a reply goes on with the same one.
use Rattle.std.proofs.Common.{◌≡◌, ℕ, Bool, true, false, List, [], ◌∷◌, ◌++◌, Option, Some, None, refl}
use Rattle.std.specs.Prelude.{⊤, ◌==◌, if◌then◌else◌}
use Rattle.std.specs.Option.{option_map, option_and_then, option_or}
use Rattle.fetch_base.specs.declared.id.Kind.{Kind}
use Rattle.fetch_base.specs.declared.id.ObjectId.{ObjectId}
use Rattle.fetch_base.specs.Scan.{split_first}
use Rattle.fetch_lines.specs.declared.greetings.handshake.Capability.{Capability}
use Rattle.fetch_lines.specs.declared.greetings.handshake.Handshake.{Handshake}
use Rattle.fetch_lines.specs.declared.lines.line.Line.{Line}
use Rattle.fetch_lines.specs.declared.lines.line.Line.TheVariants as lines
use Rattle.fetch_lines.specs.declared.listings.reference.Ref.{Ref}
use Rattle.fetch_replies.specs.declared.replies.reply.ReplyContext.{ReplyContext}
use Rattle.fetch_replies.specs.declared.replies.reply.ParsedReply.{ParsedReply}
use Rattle.fetch_replies.specs.declared.replies.reply.ParsedReply.TheVariants as told
use Rattle.fetch_replies.specs.declared.replies.parser.Advertised.{Advertised}
use Rattle.fetch_replies.specs.declared.replies.parser.Advertised.TheVariants as next
use Rattle.fetch_replies.specs.declared.replies.parser.Part.{Part}
use Rattle.fetch_replies.specs.declared.replies.parser.Part.TheVariants as parts
use Rattle.fetch_replies.specs.declared.replies.parser.ReplyParser.{ReplyParser}
use Rattle.fetch_replies.specs.declared.replies.parser.ReplyParser.TheVariants as reading
use Rattle.fetch_lines.specs.declared.requests.records.FetchReply.{FetchReply}
use Rattle.fetch_replies.specs.Advertisements.{advertised, with_peel, with_words, handshake_1, before_peel, is_no_name, is_null, is_version_1, id_and_name, at_name, at_reference, at_advertised, first_named, at_first}
use Rattle.fetch_replies.specs.Awaited.{replies_behind, at_greeting, at_capability, at_listed, step_of}
use Rattle.fetch_replies.specs.FetchReplies.{is_nak, is_ready, is_acknowledgments, is_shallow_info, is_packfile, acknowledged_in, shallow_in, unshallow_in, at_packfile, at_rest, at_beginning, at_acknowledgment, behind_ready, at_change, at_band, with_bytes, reply_step}
use Rattle.fetch_lines.specs.KnownIds.{each_once}
use Rattle.fetch_lines.specs.Greetings.{is_version_2, if_known, capability_in, handshake_of}
use Rattle.fetch_replies.specs.Listings.{if_new, ref_in}
use Rattle.fetch_replies.specs.Steps.{by_line, error_text}
use Rattle.fetch_replies.specs.Stepping.{Step, goes, ends, breaks, says, or_breaks}
use Rattle.fetch_lines.specs.Texts.{without_lf, is_error}
use Rattle.fetch_lines.specs.Words.{words}

-- a greeting is told where another reply comes behind, and what else is told where none does
abbrev pub IsBefore : ℕ → ParsedReply → Type 0
IsBefore n (told.Greeting h) = n ≡ 1
IsBefore n (told.Advertisement h refs) = n ≡ 1
IsBefore n (told.Listing refs) = n ≡ 0
IsBefore n (told.Reply reply) = n ≡ 0

-- as many replies come behind, where it goes on
abbrev pub Stays : ℕ → Step ReplyParser ParsedReply → Type 0
Stays n (goes r) = replies_behind r ≡ n
Stays n (ends t) = IsBefore n t
Stays n breaks = ⊤
Stays n (says text) = ⊤

abbrev Is : ℕ → Option ReplyParser → Type 0
Is n None = ⊤
Is n (Some r) = replies_behind r ≡ n

-- ---- by what a step is made of

chosen : (n : ℕ) (b : Bool) (x y : Step ReplyParser ParsedReply) → Stays n x → Stays n y → Stays n (if b then x else y)
chosen n true x y h k = h
chosen n false x y h k = k

some_goes : {A : Type 0} (n : ℕ) (found : Option A) (f : A → ReplyParser) → ((a : A) → replies_behind (f a) ≡ n) → Stays n (or_breaks found (λ a. goes (f a)))
some_goes n None f h = tt
some_goes n (Some a) f h = h a

one_goes : (n : ℕ) (found : Option ReplyParser) → Is n found → Stays n (or_breaks found (λ r. goes r))
one_goes n None h = tt
one_goes n (Some r) h = h

one_behind : {A : Type 0} (n : ℕ) (found : Option A) (f : A → Option ReplyParser) → ((a : A) → Is n (f a)) → Is n (option_and_then f found)
one_behind n None f h = tt
one_behind n (Some a) f h = h a

one_of : {A : Type 0} (n : ℕ) (found : Option A) (f : A → ReplyParser) → ((a : A) → replies_behind (f a) ≡ n) → Is n (option_map f found)
one_of n None f h = tt
one_of n (Some a) f h = h a

one_or : (n : ℕ) (first second : Option ReplyParser) → Is n first → Is n second → Is n (option_or first second)
one_or n None second h k = k
one_or n (Some r) second h k = h

line_goes : (n : ℕ) (flush delim : Step ReplyParser ParsedReply) (text : List ℕ → Step ReplyParser ParsedReply) (line : Line) → Stays n flush → Stays n delim → ((l : List ℕ) → Stays n (text l)) → Stays n (by_line flush delim text line)
line_goes n flush delim text (lines.Payload payload) f d t = chosen n (is_error payload) (says (error_text payload)) (text (without_lf payload)) tt (t (without_lf payload))
line_goes n flush delim text lines.Flush f d t = f
line_goes n flush delim text lines.Delim f d t = d
line_goes n flush delim text lines.End f d t = tt

-- ---- greetings

name_is : (h : Handshake) (before : List Ref) (allowed : Advertised) (id : ObjectId) (name : List ℕ) (short : Option (List ℕ)) → Is 1 (at_name h before allowed id name short)
name_is h before next.Reference id name None = one_of 1 (advertised h before id name) (λ r. reading.Advertisement h (before ++ r ∷ []) next.Reference) (λ r. refl)
name_is h before next.Reference id name (Some short) = one_of 1 (with_peel id short before) (λ refs. reading.Advertisement h refs next.Peeled) (λ refs. refl)
name_is h before next.Peeled id name None = one_of 1 (advertised h before id name) (λ r. reading.Advertisement h (before ++ r ∷ []) next.Reference) (λ r. refl)
name_is h before next.Peeled id name (Some short) = tt
name_is h before next.Shallow id name None = tt
name_is h before next.Shallow id name (Some short) = tt

null_is : (b : Bool) (h : Handshake) → Is 1 (if b then Some (reading.Advertisement h [] next.Shallow) else None)
null_is true h = refl
null_is false h = tt

no_name_is : (no b : Bool) (h : Handshake) (id : ObjectId) (name : List ℕ)
    → Is 1 (if no then (if b then Some (reading.Advertisement h [] next.Shallow) else None) else at_name h [] next.Peeled id name (before_peel name))
no_name_is true b h id name = null_is b h
no_name_is false b h id name = name_is h [] next.Peeled id name (before_peel name)

named_is : (h : Handshake) (x : ObjectId × List ℕ) → Is 1 (first_named h x)
named_is h (id, name) = no_name_is (is_no_name name) (is_null id) h id name

first_is : (text : List ℕ) → Is 1 (at_first text)
first_is text =
    one_behind 1 (split_first 0 text) _ (λ parts. one_behind 1 (with_words [] (words parts.1)) _ (λ capabilities. one_behind 1 (id_and_name (handshake_1 capabilities).object_hash parts.0) (first_named (handshake_1 capabilities)) (named_is (handshake_1 capabilities))))

greeting_goes : (text : List ℕ) → Stays 1 (at_greeting text)
greeting_goes text = chosen 1 (is_version_2 text) (goes (reading.Capabilities [])) _ refl (chosen 1 (is_version_1 text) (goes reading.Version) _ refl (one_goes 1 (at_first text) (first_is text)))

capability_goes : (before : List Capability) (text : List ℕ) → Stays 1 (at_capability before text)
capability_goes before text = some_goes 1 (option_and_then if_known (capability_in text)) (λ c. reading.Capabilities (before ++ c ∷ [])) (λ c. refl)

advertised_goes : (h : Handshake) (before : List Ref) (allowed : Advertised) (text : List ℕ) → Stays 1 (at_advertised h before allowed text)
advertised_goes h before allowed text =
    one_goes 1 _ (one_or 1 (option_map (λ id. reading.Advertisement h before next.Shallow) (shallow_in h.object_hash text)) (at_reference h before allowed text)
    (one_of 1 (shallow_in h.object_hash text) (λ id. reading.Advertisement h before next.Shallow) (λ id. refl))
    (one_behind 1 (id_and_name h.object_hash text) _ (λ x. name_is h before allowed x.0 x.1 (before_peel x.1))))

listed_goes : (kind : Kind) (before : List Ref) (text : List ℕ) → Stays 0 (at_listed kind before text)
listed_goes kind before text = some_goes 0 (option_and_then (if_new before) (ref_in kind text)) (λ r. reading.Listing kind (before ++ r ∷ [])) (λ r. refl)

-- ---- replies to requests

packfile_goes : (asked : ReplyContext) (reply : FetchReply) (text : List ℕ) → Stays 0 (at_packfile asked reply text)
packfile_goes asked reply text = chosen 0 (is_packfile text) _ breaks (chosen 0 asked.read_pack (goes (reading.Reply asked parts.Bands (record reply { pack = Some [] }))) (ends (told.Reply reply)) refl refl) tt

rest_goes : (asked : ReplyContext) (reply : FetchReply) (text : List ℕ) → Stays 0 (at_rest asked reply text)
rest_goes asked reply text = chosen 0 (is_shallow_info text) (goes (reading.Reply asked parts.ShallowInfo reply)) (at_packfile asked reply text) refl (packfile_goes asked reply text)

beginning_goes : (asked : ReplyContext) (reply : FetchReply) (text : List ℕ) → Stays 0 (at_beginning asked reply text)
beginning_goes asked reply text =
    chosen 0 asked.done (at_rest asked reply text) _ (rest_goes asked reply text) (chosen 0 (is_acknowledgments text) (goes (reading.Reply asked parts.Acknowledgments reply)) breaks refl tt)

acknowledgment_goes : (asked : ReplyContext) (reply : FetchReply) (text : List ℕ) → Stays 0 (at_acknowledgment asked reply text)
acknowledgment_goes asked reply text =
    chosen 0 (is_nak text) (goes (reading.Reply asked parts.Acknowledgments reply)) _ refl (chosen 0 (is_ready text) (goes (reading.Reply asked parts.Ready reply)) _ refl (some_goes 0 (acknowledged_in asked text) _ (λ id. refl)))

ready_goes : (asked : ReplyContext) (reply : FetchReply) (line : Line) → Stays 0 (behind_ready asked reply line)
ready_goes asked reply (lines.Payload payload) = tt
ready_goes asked reply lines.Flush = tt
ready_goes asked reply lines.Delim = refl
ready_goes asked reply lines.End = tt

change_goes : (asked : ReplyContext) (reply : FetchReply) (shallow unshallow : Option ObjectId) → Stays 0 (at_change asked reply shallow unshallow)
change_goes asked reply (Some id) unshallow = refl
change_goes asked reply None (Some id) = refl
change_goes asked reply None None = tt

band_goes : (asked : ReplyContext) (reply : FetchReply) (line : Line) → Stays 0 (at_band asked reply line)
band_goes asked reply (lines.Payload (band ∷ bytes)) =
    chosen 0 (band == 1) (goes (reading.Reply asked parts.Bands (record reply { pack = with_bytes reply.pack bytes })))
    (if band == 2 then goes (reading.Reply asked parts.Bands (record reply { progress = reply.progress ++ bytes ∷ [] })) else (if band == 3 then says bytes else breaks)) refl
    (chosen 0 (band == 2) (goes (reading.Reply asked parts.Bands (record reply { progress = reply.progress ++ bytes ∷ [] }))) (if band == 3 then says bytes else breaks) refl (chosen 0 (band == 3) (says bytes) breaks tt tt))
band_goes asked reply (lines.Payload []) = tt
band_goes asked reply lines.Flush = refl
band_goes asked reply lines.Delim = tt
band_goes asked reply lines.End = tt

reply_goes : (asked : ReplyContext) (part : Part) (reply : FetchReply) (line : Line) → Stays 0 (reply_step asked part reply line)
reply_goes asked parts.Beginning reply line = line_goes 0 breaks breaks (at_beginning asked reply) line tt tt (beginning_goes asked reply)
reply_goes asked parts.Acknowledgments reply line = line_goes 0 (ends (told.Reply (record reply { acknowledged = each_once reply.acknowledged; last = false }))) breaks (at_acknowledgment asked reply) line refl tt (acknowledgment_goes asked reply)
reply_goes asked parts.Ready reply line = ready_goes asked reply line
reply_goes asked parts.Rest reply line = line_goes 0 breaks breaks (at_rest asked reply) line tt tt (rest_goes asked reply)
reply_goes asked parts.ShallowInfo reply line =
    line_goes 0 breaks (goes (reading.Reply asked parts.Packfile reply)) (λ text. at_change asked reply (shallow_in asked.kind text) (unshallow_in asked.kind text)) line tt refl (λ text. change_goes asked reply (shallow_in asked.kind text) (unshallow_in asked.kind text))
reply_goes asked parts.Packfile reply line = line_goes 0 breaks breaks (at_packfile asked reply) line tt tt (packfile_goes asked reply)
reply_goes asked parts.Bands reply line = band_goes asked reply line

-- ---- any of them

pub stays : (r : ReplyParser) (line : Line) → Stays (replies_behind r) (step_of r line)
unfolding step_of
stays reading.Greeting line = line_goes 1 breaks breaks at_greeting line tt tt greeting_goes
stays (reading.Capabilities before) line = line_goes 1 (ends (told.Greeting (handshake_of before))) breaks (at_capability before) line refl tt (capability_goes before)
stays reading.Version line = line_goes 1 breaks breaks (λ text. or_breaks (at_first text) (λ s. goes s)) line tt tt (λ text. one_goes 1 (at_first text) (first_is text))
stays (reading.Advertisement h before allowed) line = line_goes 1 (ends (told.Advertisement h before)) breaks (at_advertised h before allowed) line refl tt (advertised_goes h before allowed)
stays (reading.Listing kind before) line = line_goes 0 (ends (told.Listing before)) breaks (at_listed kind before) line refl tt (listed_goes kind before)
stays (reading.Reply asked part reply) line = reply_goes asked part reply line
