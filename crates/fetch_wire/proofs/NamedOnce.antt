-- What lists references names each of them once.
use Rattle.std.proofs.Common.{◌≡◌, ℕ, suc, Bool, true, false, ◌||◌, List, [], ◌∷◌, ◌++◌, map, length, Option, Some, None, Result, Ok, IfSome, option_map, option_and_then, bytes_eq, ◌==◌, if◌then◌else◌, refl, sym, ap, subst, ◌∙◌}
use Rattle.std.specs.Prelude.{⊤}
use Rattle.std.specs.List.{AllByRecursion, IsDistinct}
use Rattle.std.specs.Option.{option_or}
use Rattle.fetch_base.specs.Scan.{split_first}
use Rattle.fetch_base.specs.declared.id.Kind.{Kind}
use Rattle.fetch_base.specs.declared.id.ObjectId.{ObjectId}
use Rattle.fetch_replies.specs.declared.replies.reply.ReplyContext.{ReplyContext}
use Rattle.fetch_replies.specs.declared.replies.reply.ReplyKind.{ReplyKind}
use Rattle.fetch_replies.specs.declared.replies.reply.ReplyKind.TheVariants as awaits
use Rattle.fetch_replies.specs.declared.replies.reply.ReplyError.{ReplyError}
use Rattle.fetch_replies.specs.declared.replies.reply.ParsedReply.{ParsedReply}
use Rattle.fetch_replies.specs.declared.replies.reply.ParsedReply.TheVariants as told
use Rattle.fetch_lines.specs.declared.greetings.handshake.Handshake.{Handshake}
use Rattle.fetch_lines.specs.declared.lines.line.Line.{Line}
use Rattle.fetch_lines.specs.declared.lines.line.Line.TheVariants as lines
use Rattle.fetch_replies.specs.declared.replies.parser.Advertised.{Advertised}
use Rattle.fetch_replies.specs.declared.replies.parser.Advertised.TheVariants as next
use Rattle.fetch_replies.specs.declared.replies.parser.Part.{Part}
use Rattle.fetch_replies.specs.declared.replies.parser.Part.TheVariants as parts
use Rattle.fetch_replies.specs.declared.replies.parser.ReplyParser.{ReplyParser}
use Rattle.fetch_replies.specs.declared.replies.parser.ReplyParser.TheVariants as reading
use Rattle.fetch_lines.specs.declared.requests.records.FetchReply.{FetchReply}
use Rattle.fetch_lines.specs.declared.listings.reference.Ref.{Ref}
use Rattle.fetch_lines.specs.declared.listings.reference.Ref.TheVariants.{Direct, Symbolic, Peeled, Unborn}
use Rattle.fetch_replies.specs.Advertisements.{is_version_1, at_first, at_advertised, at_reference, at_name, first_named, handshake_1, with_words, advertised, peeled_to, with_peel, before_peel, id_and_name, is_no_name, is_null}
use Rattle.fetch_replies.specs.Awaited.{step_of, start_of, told_at, at_greeting, at_capability, at_listed}
use Rattle.fetch_replies.specs.FetchReplies.{reply_step, at_beginning, at_rest, at_packfile, at_acknowledgment, at_change, at_band, behind_ready, with_bytes, acknowledged_in, shallow_in, unshallow_in, is_acknowledgments, is_nak, is_ready, is_packfile, is_shallow_info}
use Rattle.fetch_lines.specs.Greetings.{is_version_2, if_known, capability_in, handshake_of}
use Rattle.fetch_lines.specs.KnownIds.{each_once}
use Rattle.fetch_replies.specs.Listings.{is_listed, if_new, ref_in}
use Rattle.fetch_replies.specs.NamesTold.{AreNamedOnce, NamesOnce}
use Rattle.fetch_lines.specs.References.{name_in}
use Rattle.fetch_replies.specs.Stepping.{Step, goes, ends, breaks, says, or_breaks}
use Rattle.fetch_replies.specs.Steps.{by_line, error_text}
use Rattle.fetch_lines.specs.Texts.{without_lf, is_error}
use Rattle.fetch_lines.specs.Words.{words}
use Rattle.fetch_wire.proofs.StepKeeps.{OfStep, OfTold, within-keeps}

-- ---- one name more

neither : (a b : Bool) → (a || b) ≡ false → (a ≡ false) × (b ≡ false)
neither true b e = absurd cc
neither false b e = (refl, e)

apart_from : (x : List ℕ) (refs : List Ref) (r : Ref) → AllByRecursion (λ y. bytes_eq x y ≡ false) (map name_in refs) → bytes_eq x (name_in r) ≡ false → AllByRecursion (λ y. bytes_eq x y ≡ false) (map name_in (refs ++ r ∷ []))
apart_from x [] r all one = (one, tt)
apart_from x (q ∷ refs) r all one = (all.0, apart_from x refs r all.1 one)

none_once : AreNamedOnce []
unfolding IsDistinct
none_once = tt

pub once_more : (refs : List Ref) (r : Ref) → AreNamedOnce refs → is_listed refs r ≡ false → AreNamedOnce (refs ++ r ∷ [])
unfolding IsDistinct
once_more [] r once new = (tt, tt)
once_more (q ∷ refs) r once new =
    let n = neither (bytes_eq (name_in q) (name_in r)) (is_listed refs r) new in
    (apart_from (name_in q) refs r once.0 n.0, once_more refs r once.1 n.1)

-- ---- what is told so far

abbrev HoldsOnce : ReplyParser → Type 0
HoldsOnce reading.Greeting = ⊤
HoldsOnce (reading.Capabilities cs) = ⊤
HoldsOnce reading.Version = ⊤
HoldsOnce (reading.Advertisement h listed next) = AreNamedOnce listed
HoldsOnce (reading.Listing kind listed) = AreNamedOnce listed
HoldsOnce (reading.Reply asked part reply) = ⊤

abbrev Keeps : Step ReplyParser ParsedReply → Type 0
Keeps step = OfStep HoldsOnce NamesOnce step

breaks_or : {A : Type 0} (found : Option A) (f : A → Step ReplyParser ParsedReply) → ((x : A) → found ≡ Some x → Keeps (f x)) → Keeps (or_breaks found f)
breaks_or None f h = tt
breaks_or (Some x) f h = h x refl

goes_if : (found : Option ReplyParser) → IfSome found HoldsOnce → Keeps (or_breaks found (λ s. goes s))
goes_if None h = tt
goes_if (Some s) h = h

says_if : (b : Bool) (text : List ℕ) (step : Step ReplyParser ParsedReply) → Keeps step → Keeps (if b then says text else step)
says_if true text step h = tt
says_if false text step h = h

keeps_line : (flush delim : Step ReplyParser ParsedReply) (f : List ℕ → Step ReplyParser ParsedReply) (line : Line) → Keeps flush → Keeps delim → ((text : List ℕ) → Keeps (f text)) → Keeps (by_line flush delim f line)
keeps_line flush delim f (lines.Payload payload) h g k = says_if (is_error payload) (error_text payload) (f (without_lf payload)) (k (without_lf payload))
keeps_line flush delim f lines.Flush h g k = h
keeps_line flush delim f lines.Delim h g k = g
keeps_line flush delim f lines.End h g k = tt

mapped : {A : Type 0} (found : Option A) (f : A → ReplyParser) → ((x : A) → found ≡ Some x → HoldsOnce (f x)) → IfSome (option_map f found) HoldsOnce
mapped None f h = tt
mapped (Some x) f h = h x refl

chained : {A : Type 0} (found : Option A) (f : A → Option ReplyParser) → ((x : A) → IfSome (f x) HoldsOnce) → IfSome (option_and_then f found) HoldsOnce
chained None f h = tt
chained (Some x) f h = h x

either : (a b : Option ReplyParser) → IfSome a HoldsOnce → IfSome b HoldsOnce → IfSome (option_or a b) HoldsOnce
either None b h k = k
either (Some x) b h k = h

-- ---- a listing

new_by : (before : List Ref) (q r : Ref) (b : Bool) → is_listed before q ≡ b → (if b then None else Some q) ≡ Some r → is_listed before r ≡ false
new_by before q r true is e = absurd cc
new_by before q r false is e = let same : q ≡ r = cc in ap (is_listed before) (sym same) ∙ is

new_in : (before : List Ref) (found : Option Ref) (r : Ref) → option_and_then (if_new before) found ≡ Some r → is_listed before r ≡ false
new_in before None r e = absurd cc
new_in before (Some q) r e = new_by before q r (is_listed before q) refl e

new_named : (h : Handshake) (before : List Ref) (id : ObjectId) (name : List ℕ) (r : Ref) → advertised h before id name ≡ Some r → is_listed before r ≡ false
new_named h before id [] r e = absurd cc
new_named h before id (c ∷ cs) r e = new_in before _ r e

-- ---- an advertisement

same_name : (id : ObjectId) (r : Ref) → name_in (peeled_to id r) ≡ name_in r
same_name id (Direct name object) = refl
same_name id (Symbolic name target tag object) = refl
same_name id (Peeled name tag object) = refl
same_name id (Unborn name target) = refl

abbrev SameNames : List Ref → List Ref → Type 0
SameNames refs others = map name_in others ≡ map name_in refs

last_peels : (id : ObjectId) (r : Ref) (b : Bool) → IfSome (if b then Some (peeled_to id r ∷ []) else None) (SameNames (r ∷ []))
last_peels id r true = ap (λ (n : List ℕ). n ∷ []) (same_name id r)
last_peels id r false = tt

one_before : (r : Ref) (refs : List Ref) (found : Option (List Ref)) → IfSome found (SameNames refs) → IfSome (option_map (λ more. r ∷ more) found) (SameNames (r ∷ refs))
one_before r refs None h = tt
one_before r refs (Some more) h = ap (λ (l : List (List ℕ)). name_in r ∷ l) h

peels_names : (id : ObjectId) (name : List ℕ) (refs : List Ref) → IfSome (with_peel id name refs) (SameNames refs)
peels_names id name [] = tt
peels_names id name (r ∷ []) = last_peels id r (bytes_eq (name_in r) name)
peels_names id name (r ∷ s ∷ others) = one_before r (s ∷ others) (with_peel id name (s ∷ others)) (peels_names id name (s ∷ others))

abbrev Distinct : List (List ℕ) → Type 0
Distinct names = IsDistinct bytes_eq names

peeled_if : (h : Handshake) (refs : List Ref) (found : Option (List Ref)) → AreNamedOnce refs → IfSome found (SameNames refs) → IfSome (option_map (λ more. reading.Advertisement h more next.Peeled) found) HoldsOnce
peeled_if h refs None once same = tt
peeled_if h refs (Some more) once same = subst Distinct (sym same) once

named : (h : Handshake) (before : List Ref) (id : ObjectId) (name : List ℕ) → AreNamedOnce before
    → IfSome (option_map (λ r. reading.Advertisement h (before ++ r ∷ []) next.Reference) (advertised h before id name)) HoldsOnce
named h before id name once = mapped (advertised h before id name) (λ r. reading.Advertisement h (before ++ r ∷ []) next.Reference) (λ r e. once_more before r once (new_named h before id name r e))

name_keeps : (h : Handshake) (before : List Ref) (allowed : Advertised) (id : ObjectId) (name : List ℕ) (short : Option (List ℕ)) → AreNamedOnce before → IfSome (at_name h before allowed id name short) HoldsOnce
name_keeps h before next.Reference id name None once = named h before id name once
name_keeps h before next.Reference id name (Some short) once = peeled_if h before (with_peel id short before) once (peels_names id short before)
name_keeps h before next.Peeled id name None once = named h before id name once
name_keeps h before next.Peeled id name (Some short) once = tt
name_keeps h before next.Shallow id name short once = tt

reference_keeps : (h : Handshake) (before : List Ref) (allowed : Advertised) (text : List ℕ) → AreNamedOnce before → IfSome (at_reference h before allowed text) HoldsOnce
reference_keeps h before allowed text once = chained (id_and_name h.object_hash text) (λ x. at_name h before allowed x.0 x.1 (before_peel x.1)) (λ x. name_keeps h before allowed x.0 x.1 (before_peel x.1) once)

null_keeps : (h : Handshake) (b : Bool) → IfSome (if b then Some (reading.Advertisement h [] next.Shallow) else None) HoldsOnce
null_keeps h true = none_once
null_keeps h false = tt

first_by : (h : Handshake) (id : ObjectId) (name : List ℕ) (b : Bool)
    → IfSome (if b then (if is_null id then Some (reading.Advertisement h [] next.Shallow) else None) else at_name h [] next.Peeled id name (before_peel name)) HoldsOnce
first_by h id name true = null_keeps h (is_null id)
first_by h id name false = name_keeps h [] next.Peeled id name (before_peel name) none_once

first_keeps : (h : Handshake) (x : ObjectId × List ℕ) → IfSome (first_named h x) HoldsOnce
first_keeps h (id, name) = first_by h id name (is_no_name name)

at_first_keeps : (text : List ℕ) → IfSome (at_first text) HoldsOnce
at_first_keeps text =
    chained (split_first 0 text) _ (λ parts. chained (with_words [] (words parts.1)) _ (λ capabilities. chained (id_and_name (handshake_1 capabilities).object_hash parts.0) _ (first_keeps (handshake_1 capabilities))))

advertised_keeps : (h : Handshake) (before : List Ref) (allowed : Advertised) (text : List ℕ) → AreNamedOnce before → Keeps (at_advertised h before allowed text)
advertised_keeps h before allowed text once =
    goes_if (option_or (option_map (λ id. reading.Advertisement h before next.Shallow) (shallow_in h.object_hash text)) (at_reference h before allowed text))
    (either (option_map (λ id. reading.Advertisement h before next.Shallow) (shallow_in h.object_hash text)) (at_reference h before allowed text)
    (mapped (shallow_in h.object_hash text) (λ id. reading.Advertisement h before next.Shallow) (λ id e. once)) (reference_keeps h before allowed text once))

listed_keeps : (kind : Kind) (before : List Ref) (text : List ℕ) → AreNamedOnce before → Keeps (at_listed kind before text)
listed_keeps kind before text once =
    breaks_or (option_and_then (if_new before) (ref_in kind text)) (λ r. goes (reading.Listing kind (before ++ r ∷ []))) (λ r e. once_more before r once (new_in before (ref_in kind text) r e))

greeting_by : (text : List ℕ) (two one : Bool) → Keeps (if two then goes (reading.Capabilities []) else (if one then goes reading.Version else or_breaks (at_first text) (λ s. goes s)))
greeting_by text true one = tt
greeting_by text false true = tt
greeting_by text false false = goes_if (at_first text) (at_first_keeps text)

-- ---- the reply to a request lists nothing

keeps_if : (b : Bool) (x y : Step ReplyParser ParsedReply) → Keeps x → Keeps y → Keeps (if b then x else y)
keeps_if true x y h k = h
keeps_if false x y h k = k

packfile_keeps : (asked : ReplyContext) (reply : FetchReply) (text : List ℕ) → Keeps (at_packfile asked reply text)
packfile_keeps asked reply text =
    keeps_if (is_packfile text) _ breaks (keeps_if asked.read_pack (goes (reading.Reply asked parts.Bands (record reply { pack = Some [] }))) (ends (told.Reply reply)) tt tt) tt

rest_keeps : (asked : ReplyContext) (reply : FetchReply) (text : List ℕ) → Keeps (at_rest asked reply text)
rest_keeps asked reply text = keeps_if (is_shallow_info text) (goes (reading.Reply asked parts.ShallowInfo reply)) (at_packfile asked reply text) tt (packfile_keeps asked reply text)

beginning_keeps : (asked : ReplyContext) (reply : FetchReply) (text : List ℕ) → Keeps (at_beginning asked reply text)
beginning_keeps asked reply text =
    keeps_if asked.done (at_rest asked reply text) _ (rest_keeps asked reply text) (keeps_if (is_acknowledgments text) (goes (reading.Reply asked parts.Acknowledgments reply)) breaks tt tt)

acknowledgment_keeps : (asked : ReplyContext) (reply : FetchReply) (text : List ℕ) → Keeps (at_acknowledgment asked reply text)
acknowledgment_keeps asked reply text =
    keeps_if (is_nak text) (goes (reading.Reply asked parts.Acknowledgments reply)) _ tt
    (keeps_if (is_ready text) (goes (reading.Reply asked parts.Ready reply)) _ tt (breaks_or (acknowledged_in asked text) _ (λ id e. tt)))

change_keeps : (asked : ReplyContext) (reply : FetchReply) (shallow unshallow : Option ObjectId) → Keeps (at_change asked reply shallow unshallow)
change_keeps asked reply (Some id) unshallow = tt
change_keeps asked reply None (Some id) = tt
change_keeps asked reply None None = tt

ready_keeps : (asked : ReplyContext) (reply : FetchReply) (line : Line) → Keeps (behind_ready asked reply line)
ready_keeps asked reply (lines.Payload payload) = tt
ready_keeps asked reply lines.Flush = tt
ready_keeps asked reply lines.Delim = tt
ready_keeps asked reply lines.End = tt

band_keeps : (asked : ReplyContext) (reply : FetchReply) (line : Line) → Keeps (at_band asked reply line)
band_keeps asked reply (lines.Payload (band ∷ bytes)) =
    keeps_if (band == 1) (goes (reading.Reply asked parts.Bands (record reply { pack = with_bytes reply.pack bytes }))) _ tt
    (keeps_if (band == 2) (goes (reading.Reply asked parts.Bands (record reply { progress = reply.progress ++ bytes ∷ [] }))) _ tt (keeps_if (band == 3) (says bytes) breaks tt tt))
band_keeps asked reply (lines.Payload []) = tt
band_keeps asked reply lines.Flush = tt
band_keeps asked reply lines.Delim = tt
band_keeps asked reply lines.End = tt

reply_keeps : (asked : ReplyContext) (part : Part) (reply : FetchReply) (line : Line) → Keeps (reply_step asked part reply line)
reply_keeps asked parts.Beginning reply line = keeps_line breaks breaks (at_beginning asked reply) line tt tt (beginning_keeps asked reply)
reply_keeps asked parts.Acknowledgments reply line = keeps_line (ends (told.Reply (record reply { acknowledged = each_once reply.acknowledged; last = false }))) breaks (at_acknowledgment asked reply) line tt tt (acknowledgment_keeps asked reply)
reply_keeps asked parts.Ready reply line = ready_keeps asked reply line
reply_keeps asked parts.Rest reply line = keeps_line breaks breaks (at_rest asked reply) line tt tt (rest_keeps asked reply)
reply_keeps asked parts.ShallowInfo reply line =
    keeps_line breaks (goes (reading.Reply asked parts.Packfile reply)) _ line tt tt (λ text. change_keeps asked reply (shallow_in asked.kind text) (unshallow_in asked.kind text))
reply_keeps asked parts.Packfile reply line = keeps_line breaks breaks (at_packfile asked reply) line tt tt (packfile_keeps asked reply)
reply_keeps asked parts.Bands reply line = band_keeps asked reply line

-- ---- each line

line_keeps : (r : ReplyParser) (line : Line) → HoldsOnce r → Keeps (step_of r line)
unfolding step_of
line_keeps reading.Greeting line h = keeps_line breaks breaks at_greeting line tt tt (λ text. greeting_by text (is_version_2 text) (is_version_1 text))
line_keeps (reading.Capabilities before) line h =
    keeps_line (ends (told.Greeting (handshake_of before))) breaks (at_capability before) line tt tt
    (λ text. breaks_or (option_and_then if_known (capability_in text)) (λ c. goes (reading.Capabilities (before ++ c ∷ []))) (λ c e. tt))
line_keeps reading.Version line h = keeps_line breaks breaks _ line tt tt (λ text. goes_if (at_first text) (at_first_keeps text))
line_keeps (reading.Advertisement handshake before allowed) line h =
    keeps_line (ends (told.Advertisement handshake before)) breaks (at_advertised handshake before allowed) line h tt (λ text. advertised_keeps handshake before allowed text h)
line_keeps (reading.Listing kind before) line h = keeps_line (ends (told.Listing before)) breaks (at_listed kind before) line h tt (λ text. listed_keeps kind before text h)
line_keeps (reading.Reply asked part reply) line h = reply_keeps asked part reply line

starts_once : (awaited : ReplyKind) → HoldsOnce (start_of awaited)
starts_once awaits.Greeting = tt
starts_once (awaits.Listing kind) = none_once
starts_once (awaits.Reply asked) = tt

told_by : (found : Result (ParsedReply × List ℕ) ReplyError) (what : ParsedReply) (rest : List ℕ) → OfTold NamesOnce found → found ≡ Ok (what, rest) → NamesOnce what
told_by found what rest h is = rw is at h

-- what was told names each reference once
pub names_once : (bound : ℕ) (awaited : ReplyKind) (bytes rest : List ℕ) (what : ParsedReply) → told_at bound awaited bytes ≡ Ok (what, rest) → NamesOnce what
names_once bound awaited bytes rest what is =
    told_by (told_at bound awaited bytes) what rest (within-keeps HoldsOnce NamesOnce step_of (suc (length bytes)) bound 0 (start_of awaited) bytes line_keeps (starts_once awaited)) is
