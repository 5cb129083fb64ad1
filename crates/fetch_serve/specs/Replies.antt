-- What a server answers.
use Rattle.std.specs.Prelude.{ℕ, Bool, false, not, ◌||◌, List, [], ◌∷◌, ◌++◌, length, filter, nat_le, ◌^◌, codes, slice_get, Option, Some}
use Rattle.std.specs.Prelude.{None, if◌then◌else◌}
use Rattle.std.specs.List.{flat_map, list_any}
use Rattle.hex.specs.Hex.{encode_lower}
use Rattle.fetch_base.specs.Id.{bytes_of}
use Rattle.fetch_objects.specs.Objects.{Stored}
use Rattle.fetch_base.specs.declared.id.ObjectId.{ObjectId}
use Rattle.fetch_pack.specs.Records.{limit_of, pack_text, payloads_of}
use Rattle.fetch_pack.specs.declared.version.PackVersion.{PackVersion}
use Rattle.fetch_reach.specs.Stored.{objects_at}
use Rattle.fetch_lines.specs.Requests.{text_line}
use Rattle.fetch_lines.specs.ServerLines.{BorderChange, bands_of, greeting_lines, last_lines, listing_lines_of, round_lines}
use Rattle.fetch_lines.specs.Written.{lines_text}
use Rattle.fetch_lines.specs.declared.lines.line.Line.{Line}
use Rattle.fetch_asked.specs.declared.asked.Asked.{Asked}
use Rattle.fetch_asked.specs.declared.asked.Asked.TheVariants.{First, Listing, Fetch}
use Rattle.fetch_asked.specs.declared.asked.FetchAsked.{FetchAsked}
use Rattle.fetch_asked.specs.declared.asked.DepthAsked.{DepthAsked}
use Rattle.fetch_serve.specs.Offered.{capabilities_of, offered_ids, offered_of}
use Rattle.fetch_serve.specs.Depths.{shallow_of, unshallow_of}
use Rattle.fetch_serve.specs.Packs.{known_haves, served_of}
use Rattle.fetch_asked.specs.Requests.{has_id}
use Rattle.fetch_serve.specs.Served.{Data}
use Rattle.fetch_asked.specs.Texts.{asked_in}

-- the one line of a server that fails
abbrev pub error_lines : List ℕ → List Line
error_lines text = text_line (codes "ERR " ++ text) ∷ []

-- what a server says of an id that it doesn't offer
abbrev pub not_offered : ObjectId → List ℕ
not_offered id = codes "want " ++ encode_lower (bytes_of id) ++ codes " not offered"

-- what a server says of a pack that its version can't hold
unfoldable pub too_large : List ℕ
too_large = codes "pack too large"

-- the first want that isn't offered
abbrev pub first_unoffered : Data → FetchAsked → Option ObjectId
first_unoffered d r = slice_get (filter (λ id. not (has_id id (offered_ids d))) r.wants) 0

-- whether a payload is too long for a version of the pack
abbrev pub is_too_long : PackVersion → Stored → Bool
is_too_long version o = nat_le (limit_of version) (length o.bytes)

-- Whether a version of the pack can't hold so many objects, or one of them. A pack of version 2 holds each that memory can.
abbrev pub is_too_large : PackVersion → List Stored → Bool
is_too_large version os = nat_le (2 ^ 32) (length os) || list_any (is_too_long version) os

-- The change of the border is told where the request has depth lines.
abbrev pub change_in : Data → FetchAsked → Option DepthAsked → Option BorderChange
change_in d r None = None
change_in d r (Some depth) = Some (record { shallow = shallow_of d r; unshallow = unshallow_of d r })

-- the pack of these objects, as the request asks for it
abbrev pub pack_with : Data → FetchAsked → List Stored → List ℕ
pack_with d r os = pack_text r.version d.hash (payloads_of os)

-- the reply with a pack of these objects, where it isn't too large
abbrev pub pack_lines : Data → FetchAsked → List Stored → List Line
pack_lines d r os =
    if is_too_large r.version os then error_lines too_large else last_lines (change_in d r r.depth) (bands_of (pack_with d r os))

-- the objects that are served
abbrev pub objects_of : Data → FetchAsked → List Stored
objects_of d r = objects_at d.objects (served_of d r)

-- a reply where each want is offered: the pack, or, before the client is done, the haves that are known
abbrev pub fetched_lines : Data → FetchAsked → List Line
fetched_lines d r = if r.done then pack_lines d r (objects_of d r) else round_lines (known_haves d r)

-- the reply to a fetch request
abbrev pub fetch_lines : Data → FetchAsked → Option ObjectId → List Line
fetch_lines d r (Some id) = error_lines (not_offered id)
fetch_lines d r None = fetched_lines d r

-- the reply to a request, line by line
unfoldable pub reply_lines : Data → Asked → List Line
reply_lines d First = greeting_lines (capabilities_of d.hash)
reply_lines d (Listing unborn prefixes) = listing_lines_of (offered_of d unborn prefixes)
reply_lines d (Fetch r) = fetch_lines d r (first_unoffered d r)

-- the same as it is written
abbrev pub reply_text : Data → Asked → List ℕ
reply_text d asked = lines_text (reply_lines d asked)

-- the replies to requests
abbrev pub replies_to : Data → List Asked → List ℕ
replies_to d requests = flat_map (reply_text d) requests

-- What a server gives for all that it heard from the first line on: the replies to all requests that are whole, in order.
abbrev pub replies_of : Data → List ℕ → List ℕ
replies_of d heard = replies_to d (asked_in d.hash false heard).whole
