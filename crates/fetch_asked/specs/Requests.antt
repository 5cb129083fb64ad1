-- What a server is asked, read line by line.
use Rattle.std.specs.Prelude.{ℕ, ◌==◌, Bool, true, false, List, [], ◌∷◌, ◌++◌, length, slice_index_or, slice_get, ◌-◌, Option, Some, None}
use Rattle.std.specs.Prelude.{if◌then◌else◌}
use Rattle.std.specs.List.{list_any}
use Rattle.std.specs.Option.{option_and_then, option_map}
use Rattle.std.specs.Cmp.Lexicographic.{slice_cmp}
use Rattle.std.specs.Ordering.{eq_by_cmp, is_lt, nat_cmp}
use Rattle.std.specs.Str.{bytes_eq}
use Rattle.fetch_base.specs.Id.{id_in_hex, id_cmp}
use Rattle.fetch_base.specs.Scan.{after}
use Rattle.fetch_base.specs.declared.id.Kind.{Kind}
use Rattle.fetch_base.specs.declared.id.ObjectId.{ObjectId}
use Rattle.fetch_pack.specs.declared.version.PackVersion.{PackVersion}
use Rattle.fetch_pack.specs.declared.version.PackVersion.TheVariants.{V1, V2}
use Rattle.fetch_lines.specs.declared.lines.line.Line.{Line}
use Rattle.fetch_lines.specs.declared.lines.line.Line.TheVariants.{Payload, Flush, Delim, End}
use Rattle.fetch_replies.specs.LinesTold.{Tells}
use Rattle.fetch_lines.specs.RequestWords.{command_word, format_is, plain_pack, plain_pack_2, include_tag, shallow_word, want_word}
use Rattle.fetch_lines.specs.RequestWords.{have_word, done_word, deepen_word, relative_word, since_word, not_word}
use Rattle.fetch_lines.specs.Requests.{listing_word, kind_text}
use Rattle.fetch_replies.specs.Stepping.{Step, goes, ends, breaks, or_breaks}
use Rattle.fetch_lines.specs.Texts.{without_lf}
use Rattle.fetch_asked.specs.declared.asked.Asked.{Asked}
use Rattle.fetch_asked.specs.declared.asked.Asked.TheVariants as asking
use Rattle.fetch_asked.specs.declared.asked.DepthAsked.{DepthAsked}
use Rattle.fetch_asked.specs.declared.asked.DepthAsked.TheVariants as depths
use Rattle.fetch_asked.specs.declared.asked.FetchAsked.{FetchAsked}
use Rattle.fetch_asked.specs.declared.fetch_reading.Detail.{Detail}
use Rattle.fetch_asked.specs.declared.fetch_reading.Detail.TheVariants as details
use Rattle.fetch_asked.specs.declared.reading.FetchHead.TheVariants as head
use Rattle.fetch_asked.specs.declared.reading.FetchPart.{FetchPart}
use Rattle.fetch_asked.specs.declared.reading.FetchPart.TheVariants as parts
use Rattle.fetch_asked.specs.declared.reading.ListingPart.TheVariants as listing
use Rattle.fetch_asked.specs.declared.reading.Reading.{Reading}
use Rattle.fetch_asked.specs.declared.reading.Reading.TheVariants as reading
use Rattle.fetch_asked.specs.RequestTexts.{if_name, is_first_line, number_in, peel_word, prefix_word, small_number_in, symrefs_word}
use Rattle.fetch_asked.specs.RequestTexts.{unborn_word}

-- ---- one line

-- by what a line is: a flush, a delimiter, or a text, with a line feed at its end or without one
abbrev pub by_request_line : Step Reading Asked → Step Reading Asked → (List ℕ → Step Reading Asked) → Line → Step Reading Asked
by_request_line flush delim text (Payload payload) = text (without_lf payload)
by_request_line flush delim text Flush = flush
by_request_line flush delim text Delim = delim
by_request_line flush delim text End = breaks

-- one text alone may stand here
abbrev pub expects : List ℕ → Reading → Line → Step Reading Asked
expects word next line = by_request_line breaks breaks (λ text. if bytes_eq text word then goes next else breaks) line

-- a delimiter alone may stand here
abbrev pub expects_delimiter : Reading → Line → Step Reading Asked
expects_delimiter next line = by_request_line breaks (goes next) (λ _. breaks) line

-- the first line of a conversation, whose text is all of its payload
abbrev pub at_opening : Line → Step Reading Asked
at_opening (Payload payload) = if is_first_line payload then ends asking.First else breaks
at_opening Flush = breaks
at_opening Delim = breaks
at_opening End = breaks

-- the command of a request
abbrev pub at_command : List ℕ → Step Reading Asked
at_command text =
    if bytes_eq text listing_word then goes (reading.Listing listing.Format) else (
    if bytes_eq text command_word then goes (reading.Fetch head.Format) else breaks)

-- the line that names the hash
unfoldable pub format_text : Kind → List ℕ
format_text hash = format_is ++ kind_text hash

-- ---- a listing request

-- the last of some texts, or the empty one
abbrev pub last_of : List (List ℕ) → List ℕ
last_of texts = slice_index_or texts (length texts - 1) []

-- A prefix may stand behind these where it is greater than the last of them. The first one isn't empty.
abbrev pub if_rising : List (List ℕ) → List ℕ → Option (List (List ℕ))
if_rising before prefix = if is_lt (slice_cmp nat_cmp (last_of before) prefix) then Some (before ++ prefix ∷ []) else None

-- a prefix
abbrev pub at_prefix : Bool → List (List ℕ) → List ℕ → Step Reading Asked
at_prefix unborn before text =
    or_breaks (option_and_then (if_rising before) (after prefix_word text)) (λ prefixes. goes (reading.Prefixes unborn prefixes))

-- whether an unborn reference is asked for, or a prefix
abbrev pub at_unborn : List ℕ → Step Reading Asked
at_unborn text = if bytes_eq text unborn_word then goes (reading.Prefixes true []) else at_prefix false [] text

-- ---- a fetch request

-- nothing yet of a request for a pack of this version
abbrev pub nothing_asked : PackVersion → FetchAsked
nothing_asked version =
    record { version = version; include_tag = false; border = []; depth = None; wants = []; haves = []; done = false }

-- the version of the pack
abbrev pub at_version : List ℕ → Step Reading Asked
at_version text =
    if bytes_eq text plain_pack then goes (reading.Details parts.Beginning (nothing_asked V1)) else (
    if bytes_eq text plain_pack_2 then goes (reading.Details parts.Beginning (nothing_asked V2)) else breaks)

-- a word and an id
abbrev pub worded : Kind → List ℕ → List ℕ → Option ObjectId
worded hash word text = option_and_then (id_in_hex hash) (after word text)

-- the first of these that is there
abbrev pub either : Option Detail → Option Detail → Option Detail
either None other = other
either (Some found) other = Some found

-- a line of two words that are fixed
abbrev pub fixed_in : List ℕ → Option Detail
fixed_in text =
    if bytes_eq text include_tag then Some details.IncludeTag else (
    if bytes_eq text done_word then Some details.Done else None)

-- a line of a depth: a word alone, or a word and a number or a name
unfoldable pub depth_in : List ℕ → Option Detail
depth_in text =
    if bytes_eq text relative_word then Some details.Relative else (
    either (option_map details.Deepen (option_and_then small_number_in (after deepen_word text))) (
    either (option_map details.Since (option_and_then number_in (after since_word text)))
    (option_map details.Not (option_and_then if_name (after not_word text)))))

-- what a line says: a fixed word, a word and an id, or a depth
unfoldable pub detail_in : Kind → List ℕ → Option Detail
detail_in hash text =
    either (fixed_in text) (
    either (option_map details.Shallow (worded hash shallow_word text)) (
    either (option_map details.Want (worded hash want_word text)) (
    either (option_map details.Have (worded hash have_word text)) (depth_in text))))

-- behind `deepen`: a depth of 0 is one that is relative
abbrev pub part_deepened : ℕ → FetchPart
part_deepened depth = if depth == 0 then parts.DepthZero else parts.Depth

-- The lines of each kind stand together: `include-tag`, then `shallow`, depth lines, `want`, `have` and `done`. One want must
-- stand. Depth lines are none, `deepen`, `deepen` and `deepen-relative`, or `deepen-since` and any `deepen-not`.
abbrev pub part_after : FetchPart → Detail → Option FetchPart
part_after parts.Beginning details.IncludeTag = Some parts.Border
part_after parts.Beginning (details.Shallow id) = Some parts.Border
part_after parts.Beginning (details.Deepen depth) = Some (part_deepened depth)
part_after parts.Beginning (details.Since cutoff) = Some parts.Limits
part_after parts.Beginning (details.Not name) = Some parts.Limits
part_after parts.Beginning (details.Want id) = Some parts.Wants
part_after parts.Border (details.Shallow id) = Some parts.Border
part_after parts.Border (details.Deepen depth) = Some (part_deepened depth)
part_after parts.Border (details.Since cutoff) = Some parts.Limits
part_after parts.Border (details.Not name) = Some parts.Limits
part_after parts.Border (details.Want id) = Some parts.Wants
part_after parts.DepthZero details.Relative = Some parts.Relative
part_after parts.Depth details.Relative = Some parts.Relative
part_after parts.Depth (details.Want id) = Some parts.Wants
part_after parts.Relative (details.Want id) = Some parts.Wants
part_after parts.Limits (details.Not name) = Some parts.Limits
part_after parts.Limits (details.Want id) = Some parts.Wants
part_after parts.Wants (details.Want id) = Some parts.Wants
part_after parts.Wants (details.Have id) = Some parts.Haves
part_after parts.Wants details.Done = Some parts.Done
part_after parts.Haves (details.Have id) = Some parts.Haves
part_after parts.Haves details.Done = Some parts.Done
part_after _ _ = None

-- whether a request may end here
abbrev pub may_end : FetchPart → Bool
may_end parts.Beginning = false
may_end parts.Border = false
may_end parts.DepthZero = false
may_end parts.Depth = false
may_end parts.Relative = false
may_end parts.Limits = false
may_end parts.Wants = true
may_end parts.Haves = true
may_end parts.Done = true

-- whether an id is one of these
abbrev pub has_id : ObjectId → List ObjectId → Bool
has_id id ids = list_any (eq_by_cmp id_cmp id) ids

-- an id that isn't told twice
abbrev pub if_new : List ObjectId → ObjectId → Option (List ObjectId)
if_new before id = if has_id id before then None else Some (before ++ id ∷ [])

-- whether an id is greater than another, if there is one
abbrev pub is_greater : Option ObjectId → ObjectId → Bool
is_greater None id = true
is_greater (Some other) id = is_lt (id_cmp other id)

-- an id that is greater than the last of those before it
abbrev pub if_greater : List ObjectId → ObjectId → Option (List ObjectId)
if_greater before id = if is_greater (slice_get before (length before - 1)) id then Some (before ++ id ∷ []) else None

-- a depth that is relative
abbrev pub made_relative : Option DepthAsked → Option DepthAsked
made_relative (Some (depths.Deepen depth relative)) = Some (depths.Deepen depth true)
made_relative other = other

-- limits with one more name
abbrev pub with_name : Option DepthAsked → List ℕ → DepthAsked
with_name (Some (depths.Limits cutoff names)) name = depths.Limits cutoff (names ++ name ∷ [])
with_name other name = depths.Limits None (name ∷ [])

-- a request with one more line
abbrev pub with_detail : FetchAsked → Detail → Option FetchAsked
with_detail r details.IncludeTag = Some (record r { include_tag = true })
with_detail r (details.Shallow id) = option_map (λ ids. record r { border = ids }) (if_greater r.border id)
with_detail r (details.Deepen depth) = Some (record r { depth = Some (depths.Deepen depth false) })
with_detail r details.Relative = Some (record r { depth = made_relative r.depth })
with_detail r (details.Since cutoff) = Some (record r { depth = Some (depths.Limits (Some cutoff) []) })
with_detail r (details.Not name) = Some (record r { depth = Some (with_name r.depth name) })
with_detail r (details.Want id) = option_map (λ ids. record r { wants = ids }) (if_new r.wants id)
with_detail r (details.Have id) = option_map (λ ids. record r { haves = ids }) (if_new r.haves id)
with_detail r details.Done = Some (record r { done = true })

-- a line of a fetch request
abbrev pub at_detail : Kind → FetchPart → FetchAsked → List ℕ → Step Reading Asked
at_detail hash part r text =
    or_breaks (detail_in hash text) (λ detail.
    or_breaks (part_after part detail) (λ next. or_breaks (with_detail r detail) (λ more. goes (reading.Details next more))))

-- ---- the whole

-- The next line, where this was read before it, of a server of this hash.
unfoldable pub asked_step : Kind → Reading → Line → Step Reading Asked
asked_step hash reading.Opening line = at_opening line
asked_step hash reading.Command line = by_request_line breaks breaks at_command line
asked_step hash (reading.Listing listing.Format) line = expects (format_text hash) (reading.Listing listing.Delimiter) line
asked_step hash (reading.Listing listing.Delimiter) line = expects_delimiter (reading.Listing listing.Symrefs) line
asked_step hash (reading.Listing listing.Symrefs) line = expects symrefs_word (reading.Listing listing.Peel) line
asked_step hash (reading.Listing listing.Peel) line = expects peel_word (reading.Listing listing.Unborn) line
asked_step hash (reading.Listing listing.Unborn) line = by_request_line (ends (asking.Listing false [])) breaks at_unborn line
asked_step hash (reading.Prefixes unborn prefixes) line =
    by_request_line (ends (asking.Listing unborn prefixes)) breaks (at_prefix unborn prefixes) line
asked_step hash (reading.Fetch head.Format) line = expects (format_text hash) (reading.Fetch head.Delimiter) line
asked_step hash (reading.Fetch head.Delimiter) line = expects_delimiter (reading.Fetch head.Version) line
asked_step hash (reading.Fetch head.Version) line = by_request_line breaks breaks at_version line
asked_step hash (reading.Details part r) line =
    by_request_line (if may_end part then ends (asking.Fetch r) else breaks) breaks (at_detail hash part r) line

-- what was read before the first line of a request: nothing of a conversation, or the conversation's first line
abbrev pub start_of : Bool → Reading
start_of false = reading.Opening
start_of true = reading.Command

-- These lines are a request: the first line of a conversation, or, behind that, one of the table.
abbrev pub IsRequest : Kind → Bool → List Line → Asked → Type 0
IsRequest hash begun lines asked = Tells (asked_step hash) (start_of begun) lines asked
