-- Requests that were read want ids of the server's hash.
use Rattle.std.proofs.Common.{◌≡◌, ℕ, Bool, true, false, cond, List, [], ◌∷◌, ◌++◌, length, Option, Some, None, Result, Ok, Err, refl, sym, ◌∙◌, subst, arith, All}
use Rattle.std.specs.Prelude.{⊤}
use Rattle.std.specs.Option.{option_and_then, option_map}
use Rattle.std.specs.Result.{result_ok}
use Rattle.std.specs.Str.{bytes_eq}
use Rattle.std.proofs.lemmas.List.Elements.{All-append, All-cons, All-nil}
use Rattle.hex.specs.Hex.{IsBytes, decode_sized}
use Rattle.hex.specs.declared.error.FromHexError.{FromHexError}
use Rattle.hex.proofs.HexLemmas.{decode_of-ok, decode_sized-ok, decode_sized-twice}
use Rattle.fetch_pack.specs.declared.version.PackVersion.TheVariants.{V1, V2}
use Rattle.fetch_base.specs.Id.{byte_len, id_in_hex, id_of_bytes}
use Rattle.fetch_base.specs.Scan.{after}
use Rattle.fetch_base.specs.declared.id.Kind.{Kind}
use Rattle.fetch_base.specs.declared.id.Kind.TheVariants.{Sha1, Sha256}
use Rattle.fetch_base.specs.declared.id.ObjectId.{ObjectId}
use Rattle.fetch_replies.specs.LinesTold.{Tells}
use Rattle.fetch_lines.specs.RequestWords.{command_word, deepen_word, not_word, relative_word, since_word, have_word, plain_pack, plain_pack_2, shallow_word, want_word}
use Rattle.fetch_lines.specs.Requests.{listing_word}
use Rattle.fetch_lines.specs.ServerLines.{IsIdOf}
use Rattle.fetch_replies.specs.Stepping.{Step, breaks, ends, goes, or_breaks, says}
use Rattle.fetch_lines.specs.Texts.{without_lf}
use Rattle.fetch_lines.specs.declared.lines.line.Line.{Line}
use Rattle.fetch_lines.specs.declared.lines.line.Line.TheVariants.{Payload, Flush, Delim, End}
use Rattle.fetch_replies.proofs.ReadBack.{told_were}
use Rattle.fetch_asked.specs.declared.asked.Asked.{Asked}
use Rattle.fetch_asked.specs.declared.asked.Asked.TheVariants as asking
use Rattle.fetch_asked.specs.declared.asked.DepthAsked.TheVariants as depths
use Rattle.fetch_asked.specs.declared.asked.FetchAsked.{FetchAsked}
use Rattle.fetch_asked.specs.declared.fetch_reading.Detail.{Detail}
use Rattle.fetch_asked.specs.declared.fetch_reading.Detail.TheVariants as details
use Rattle.fetch_asked.specs.declared.reading.FetchHead.TheVariants as head
use Rattle.fetch_asked.specs.declared.reading.FetchPart.{FetchPart}
use Rattle.fetch_asked.specs.declared.reading.FetchPart.TheVariants as parts
use Rattle.fetch_asked.specs.declared.reading.ListingPart.TheVariants as listing
use Rattle.fetch_asked.specs.declared.reading.Reading.{Reading}
use Rattle.fetch_asked.specs.declared.reading.Reading.TheVariants as reading
use Rattle.fetch_asked.specs.RequestTexts.{if_name, number_in, small_number_in, is_first_line, peel_word, prefix_word, symrefs_word, unborn_word}
use Rattle.fetch_asked.specs.Requests.{asked_step, at_command, at_detail, at_prefix, at_unborn, at_version, by_request_line, depth_in, detail_in, made_relative, with_name, either, expects, fixed_in, format_text, if_greater, if_new, if_rising, may_end, nothing_asked, part_after, start_of, with_detail, worded}
use Rattle.fetch_asked.specs.Texts.{request_at, request_bound}

-- The ids that a request wants are of this hash.
abbrev pub HasIdsOf : Kind → Asked → Type 0
HasIdsOf hash asking.First = ⊤
HasIdsOf hash (asking.Listing unborn prefixes) = ⊤
HasIdsOf hash (asking.Fetch r) = All (IsIdOf hash) r.wants

-- ---- ids that are read

decoded : (hash : Kind) (bytes : List ℕ) → length bytes ≡ byte_len hash → IsBytes bytes → IsIdOf hash (id_of_bytes hash bytes)
decoded Sha1 bytes len are = record { same = refl; len = len; bytes = are }
decoded Sha256 bytes len are = record { same = refl; len = len; bytes = are }

in_hex_by : (hash : Kind) (text : List ℕ) (id : ObjectId) (r : Result (List ℕ) FromHexError) → decode_sized text (byte_len hash) ≡ r → option_map (id_of_bytes hash) (result_ok r) ≡ Some id → IsIdOf hash id
in_hex_by hash text id (Ok bytes) is e =
    let twice = decode_sized-ok text (byte_len hash) bytes is in
    let whole = decode_of-ok text bytes (sym (decode_sized-twice text (byte_len hash) twice) ∙ is) in
    let long = whole.2 in
    let same : id_of_bytes hash bytes ≡ id = cc in
    subst (IsIdOf hash) same (decoded hash bytes (omega arith) whole.3)
in_hex_by hash text id (Err e') is e = absurd (cc)

-- an id in hex is of the hash
in_hex : (hash : Kind) (text : List ℕ) (id : ObjectId) → id_in_hex hash text ≡ Some id → IsIdOf hash id
in_hex hash text id e = in_hex_by hash text id (decode_sized text (byte_len hash)) refl e

worded_by : (hash : Kind) (id : ObjectId) (o : Option (List ℕ)) → option_and_then (id_in_hex hash) o ≡ Some id → IsIdOf hash id
worded_by hash id None e = absurd (cc)
worded_by hash id (Some text) e = in_hex hash text id e

-- ---- what a line says of wants

-- what is wanted by a line is of the hash
abbrev IsWanted : Kind → Detail → Type 0
IsWanted hash details.IncludeTag = ⊤
IsWanted hash (details.Shallow id) = ⊤
IsWanted hash (details.Deepen depth) = ⊤
IsWanted hash details.Relative = ⊤
IsWanted hash (details.Since cutoff) = ⊤
IsWanted hash (details.Not name) = ⊤
IsWanted hash (details.Want id) = IsIdOf hash id
IsWanted hash (details.Have id) = ⊤
IsWanted hash details.Done = ⊤

abbrev IfWanted : Kind → Option Detail → Type 0
IfWanted hash o = (detail : Detail) → o ≡ Some detail → IsWanted hash detail

in_either : (hash : Kind) (a b : Option Detail) → IfWanted hash a → IfWanted hash b → IfWanted hash (either a b)
in_either hash None b f g = g
in_either hash (Some x) b f g = f

is_it : (hash : Kind) (x detail : Detail) → IsWanted hash x → Some x ≡ Some detail → IsWanted hash detail
is_it hash x detail w e = let same : x ≡ detail = cc in subst (IsWanted hash) same w

fixed_by : (hash : Kind) (a b : Bool) → IfWanted hash (cond a (Some details.IncludeTag) (cond b (Some details.Done) None))
fixed_by hash true b detail e = is_it hash details.IncludeTag detail tt e
fixed_by hash false true detail e = is_it hash details.Done detail tt e
fixed_by hash false false detail e = absurd (cc)

mapped_by : {X : Type 0} (hash : Kind) (made : X → Detail) (o : Option X) → ((id : X) → o ≡ Some id → IsWanted hash (made id)) → IfWanted hash (option_map made o)
mapped_by hash made None f detail e = absurd (cc)
mapped_by hash made (Some id) f detail e = is_it hash (made id) detail (f id refl) e

relative_by : (hash : Kind) (a : Bool) (o : Option Detail) → IfWanted hash o → IfWanted hash (cond a (Some details.Relative) o)
relative_by hash true o f detail e = is_it hash details.Relative detail tt e
relative_by hash false o f detail e = f detail e

depth_wanted : (hash : Kind) (text : List ℕ) → IfWanted hash (depth_in text)
unfolding depth_in
depth_wanted hash text =
    let deepen = option_and_then small_number_in (after deepen_word text) in
    let since = option_and_then number_in (after since_word text) in
    let name = option_and_then if_name (after not_word text) in
    relative_by hash (bytes_eq text relative_word) _
    (in_either hash (option_map (λ n. details.Deepen n) deepen) _ (mapped_by hash (λ n. details.Deepen n) deepen (λ n e. tt))
    (in_either hash (option_map (λ n. details.Since n) since) (option_map (λ n. details.Not n) name) (mapped_by hash (λ n. details.Since n) since (λ n e. tt)) (mapped_by hash (λ n. details.Not n) name (λ n e. tt))))

detail_wanted : (hash : Kind) (text : List ℕ) → IfWanted hash (detail_in hash text)
unfolding detail_in
detail_wanted hash text =
    in_either hash (fixed_in text) _ (fixed_by hash _ _)
    (in_either hash (option_map (λ id. details.Shallow id) (worded hash shallow_word text)) _ (mapped_by hash (λ id. details.Shallow id) (worded hash shallow_word text) (λ id e. tt))
    (in_either hash (option_map (λ id. details.Want id) (worded hash want_word text)) _
    (mapped_by hash (λ id. details.Want id) (worded hash want_word text) (λ id e. worded_by hash id (after want_word text) e))
    (in_either hash (option_map (λ id. details.Have id) (worded hash have_word text)) (depth_in text)
    (mapped_by hash (λ id. details.Have id) (worded hash have_word text) (λ id e. tt)) (depth_wanted hash text))))

-- ---- readings

-- what was read wants ids of the hash
abbrev IsSound : Kind → Reading → Type 0
IsSound hash reading.Opening = ⊤
IsSound hash reading.Command = ⊤
IsSound hash (reading.Listing part) = ⊤
IsSound hash (reading.Prefixes unborn prefixes) = ⊤
IsSound hash (reading.Fetch part) = ⊤
IsSound hash (reading.Details part r) = All (IsIdOf hash) r.wants

-- and so does what a line makes of it
abbrev IsFine : Kind → Step Reading Asked → Type 0
IsFine hash (goes next) = IsSound hash next
IsFine hash (ends asked) = HasIdsOf hash asked
IsFine hash breaks = ⊤
IsFine hash (says text) = ⊤

fine_if : (hash : Kind) (b : Bool) (x y : Step Reading Asked) → IsFine hash x → IsFine hash y → IsFine hash (cond b x y)
fine_if hash true x y f g = f
fine_if hash false x y f g = g

fine_line : (hash : Kind) (flush delim : Step Reading Asked) (text : List ℕ → Step Reading Asked) (line : Line) → IsFine hash flush → IsFine hash delim → ((said : List ℕ) → IsFine hash (text said))
    → IsFine hash (by_request_line flush delim text line)
fine_line hash flush delim text (Payload payload) f g h = h (without_lf payload)
fine_line hash flush delim text Flush f g h = f
fine_line hash flush delim text Delim f g h = g
fine_line hash flush delim text End f g h = tt

fine_or : {A : Type 0} (hash : Kind) (o : Option A) (f : A → Step Reading Asked) → ((x : A) → o ≡ Some x → IsFine hash (f x)) → IsFine hash (or_breaks o f)
fine_or hash None f g = tt
fine_or hash (Some x) f g = g x refl

wants_by : (hash : Kind) (r more : FetchAsked) (made : List ObjectId → FetchAsked) (o : Option (List ObjectId)) → ((ids : List ObjectId) → o ≡ Some ids → All (IsIdOf hash) (made ids).wants) → option_map made o ≡ Some more
    → All (IsIdOf hash) more.wants
wants_by hash r more made None f e = absurd (cc)
wants_by hash r more made (Some ids) f e = let same : made ids ≡ more = cc in subst (λ (q : FetchAsked). All (IsIdOf hash) q.wants) same (f ids refl)

new_by : (hash : Kind) (before ids : List ObjectId) (id : ObjectId) (b : Bool) → cond b None (Some (before ++ id ∷ [])) ≡ Some ids → All (IsIdOf hash) before → IsIdOf hash id → All (IsIdOf hash) ids
new_by hash before ids id true e all one = absurd (cc)
new_by hash before ids id false e all one =
    let same : before ++ id ∷ [] ≡ ids = cc in subst (All (IsIdOf hash)) same (All-append (IsIdOf hash) before (id ∷ []) all (All-cons (IsIdOf hash) id [] one (All-nil (IsIdOf hash))))

more_wants : (hash : Kind) (r more : FetchAsked) (detail : Detail) → All (IsIdOf hash) r.wants → IsWanted hash detail → with_detail r detail ≡ Some more → All (IsIdOf hash) more.wants
more_wants hash r more details.IncludeTag all w e = let same : record r { include_tag = true } ≡ more = cc in subst (λ (q : FetchAsked). All (IsIdOf hash) q.wants) same all
more_wants hash r more (details.Shallow id) all w e = wants_by hash r more (λ ids. record r { border = ids }) (if_greater r.border id) (λ ids is. all) e
more_wants hash r more (details.Deepen depth) all w e = let same : record r { depth = Some (depths.Deepen depth false) } ≡ more = cc in subst (λ (q : FetchAsked). All (IsIdOf hash) q.wants) same all
more_wants hash r more details.Relative all w e = let same : record r { depth = made_relative r.depth } ≡ more = cc in subst (λ (q : FetchAsked). All (IsIdOf hash) q.wants) same all
more_wants hash r more (details.Since cutoff) all w e = let same : record r { depth = Some (depths.Limits (Some cutoff) []) } ≡ more = cc in subst (λ (q : FetchAsked). All (IsIdOf hash) q.wants) same all
more_wants hash r more (details.Not name) all w e = let same : record r { depth = Some (with_name r.depth name) } ≡ more = cc in subst (λ (q : FetchAsked). All (IsIdOf hash) q.wants) same all
more_wants hash r more (details.Want id) all w e = wants_by hash r more (λ ids. record r { wants = ids }) (if_new r.wants id) (λ ids is. new_by hash r.wants ids id _ is all w) e
more_wants hash r more (details.Have id) all w e = wants_by hash r more (λ ids. record r { haves = ids }) (if_new r.haves id) (λ ids is. all) e
more_wants hash r more details.Done all w e = let same : record r { done = true } ≡ more = cc in subst (λ (q : FetchAsked). All (IsIdOf hash) q.wants) same all

detail_fine : (hash : Kind) (part : FetchPart) (r : FetchAsked) (text : List ℕ) → All (IsIdOf hash) r.wants → IsFine hash (at_detail hash part r text)
detail_fine hash part r text all =
    fine_or hash (detail_in hash text) (λ detail. or_breaks (part_after part detail) (λ next. or_breaks (with_detail r detail) (λ more. goes (reading.Details next more)))) (λ detail said.
    fine_or hash (part_after part detail) (λ next. or_breaks (with_detail r detail) (λ more. goes (reading.Details next more))) (λ next stands.
    fine_or hash (with_detail r detail) (λ more. goes (reading.Details next more)) (λ more is. more_wants hash r more detail all (detail_wanted hash text detail said) is)))

prefix_fine : (hash : Kind) (unborn : Bool) (before : List (List ℕ)) (text : List ℕ) → IsFine hash (at_prefix unborn before text)
prefix_fine hash unborn before text = fine_or hash (option_and_then (if_rising before) (after prefix_word text)) (λ prefixes. goes (reading.Prefixes unborn prefixes)) (λ prefixes e. tt)

unborn_fine : (hash : Kind) (text : List ℕ) → IsFine hash (at_unborn text)
unborn_fine hash text = fine_if hash (bytes_eq text unborn_word) (goes (reading.Prefixes true [])) (at_prefix false [] text) tt (prefix_fine hash false [] text)

command_fine : (hash : Kind) (text : List ℕ) → IsFine hash (at_command text)
command_fine hash text =
    fine_if hash (bytes_eq text listing_word) (goes (reading.Listing listing.Format)) (cond (bytes_eq text command_word) (goes (reading.Fetch head.Format)) breaks) tt
    (fine_if hash (bytes_eq text command_word) (goes (reading.Fetch head.Format)) breaks tt tt)

version_fine : (hash : Kind) (text : List ℕ) → IsFine hash (at_version text)
version_fine hash text =
    fine_if hash (bytes_eq text plain_pack) (goes (reading.Details parts.Beginning (nothing_asked V1))) (cond (bytes_eq text plain_pack_2) (goes (reading.Details parts.Beginning (nothing_asked V2))) breaks) (All-nil (IsIdOf hash))
    (fine_if hash (bytes_eq text plain_pack_2) (goes (reading.Details parts.Beginning (nothing_asked V2))) breaks (All-nil (IsIdOf hash)) tt)

expects_fine : (hash : Kind) (word : List ℕ) (next : Reading) (line : Line) → IsSound hash next → IsFine hash (expects word next line)
expects_fine hash word next line sound =
    fine_line hash breaks breaks (λ text. cond (bytes_eq text word) (goes next) breaks) line tt tt (λ text. fine_if hash (bytes_eq text word) (goes next) breaks sound tt)

opening_fine : (hash : Kind) (line : Line) → IsFine hash (asked_step hash reading.Opening line)
unfolding asked_step
opening_fine hash (Payload payload) = fine_if hash (is_first_line payload) (ends asking.First) breaks tt tt
opening_fine hash Flush = tt
opening_fine hash Delim = tt
opening_fine hash End = tt

step_fine : (hash : Kind) (s : Reading) (line : Line) → IsSound hash s → IsFine hash (asked_step hash s line)
unfolding asked_step
step_fine hash reading.Opening line sound = opening_fine hash line
step_fine hash reading.Command line sound = fine_line hash breaks breaks at_command line tt tt (command_fine hash)
step_fine hash (reading.Listing listing.Format) line sound = expects_fine hash (format_text hash) (reading.Listing listing.Delimiter) line tt
step_fine hash (reading.Listing listing.Delimiter) line sound = fine_line hash breaks (goes (reading.Listing listing.Symrefs)) (λ _. breaks) line tt tt (λ text. tt)
step_fine hash (reading.Listing listing.Symrefs) line sound = expects_fine hash symrefs_word (reading.Listing listing.Peel) line tt
step_fine hash (reading.Listing listing.Peel) line sound = expects_fine hash peel_word (reading.Listing listing.Unborn) line tt
step_fine hash (reading.Listing listing.Unborn) line sound = fine_line hash (ends (asking.Listing false [])) breaks at_unborn line tt tt (unborn_fine hash)
step_fine hash (reading.Prefixes unborn prefixes) line sound = fine_line hash (ends (asking.Listing unborn prefixes)) breaks (at_prefix unborn prefixes) line tt tt (prefix_fine hash unborn prefixes)
step_fine hash (reading.Fetch head.Format) line sound = expects_fine hash (format_text hash) (reading.Fetch head.Delimiter) line tt
step_fine hash (reading.Fetch head.Delimiter) line sound = fine_line hash breaks (goes (reading.Fetch head.Version)) (λ _. breaks) line tt tt (λ text. tt)
step_fine hash (reading.Fetch head.Version) line sound = fine_line hash breaks breaks at_version line tt tt (version_fine hash)
step_fine hash (reading.Details part r) line sound =
    fine_line hash (cond (may_end part) (ends (asking.Fetch r)) breaks) breaks (at_detail hash part r) line (fine_if hash (may_end part) (ends (asking.Fetch r)) breaks sound tt) tt
    (λ text. detail_fine hash part r text sound)

lines_fine : (hash : Kind) (s : Reading) (lines : List Line) (asked : Asked) → IsSound hash s → Tells (asked_step hash) s lines asked → HasIdsOf hash asked
lines_fine hash s [] asked sound tells = absurd tells
lines_fine hash s (line ∷ []) asked sound tells = subst (IsFine hash) tells (step_fine hash s line sound)
lines_fine hash s (line ∷ next ∷ lines) asked sound (t, goes_on, tells) = lines_fine hash t (next ∷ lines) asked (subst (IsFine hash) goes_on (step_fine hash s line sound)) tells

starts_sound : (hash : Kind) (begun : Bool) → IsSound hash (start_of begun)
starts_sound hash false = tt
starts_sound hash true = tt

-- a request that was read wants ids of the hash
pub read_ids : (hash : Kind) (begun : Bool) (text rest : List ℕ) (asked : Asked) → request_at hash begun text ≡ Ok (asked, rest) → HasIdsOf hash asked
read_ids hash begun text rest asked read =
    let were = told_were (asked_step hash) request_bound 0 (start_of begun) text rest asked read in
    lines_fine hash (start_of begun) were.0 asked (starts_sound hash begun) were.2
