-- How a report tells a refusal: the variant's name, and what it keeps after a space. A variant that only wraps another
-- refusal is told as that one.
use Rattle.std.specs.Prelude.{ℕ, List, ◌++◌, codes, decimal, Option, Some, None}
use Rattle.fetch_pack.specs.declared.error.PackError.{PackError}
use Rattle.fetch_pack.specs.declared.error.PackError.TheVariants as pack
use Rattle.fetch_base.specs.declared.id.Kind.{Kind}
use Rattle.fetch_base.specs.declared.id.Kind.TheVariants.{Sha1, Sha256}
use Rattle.fetch_refs.specs.declared.error.RefError.{RefError}
use Rattle.fetch_refs.specs.declared.error.RefError.TheVariants as refs
use Rattle.fetch_refs.specs.declared.target.Target.{Target}
use Rattle.fetch_update.specs.declared.update.Error.{Error as UpdateError}
use Rattle.fetch_update.specs.declared.update.Error.TheVariants as update
use Rattle.fetch_lines.specs.declared.error.WireError.{WireError}
use Rattle.fetch_lines.specs.declared.error.WireError.TheVariants as wire
use Rattle.fetch_conversation.specs.declared.fetch.Error.{Error as ReceiveError}
use Rattle.fetch_conversation.specs.declared.fetch.Error.TheVariants as receive
use Rattle.fetch_remote.specs.declared.fetching.fetch_error.FetchError.{FetchError}
use Rattle.fetch_remote.specs.declared.fetching.fetch_error.FetchError.TheVariants as errors
use Rattle.fetch_conversation.specs.declared.prepare.Error.{Error as PrepareError}
use Rattle.fetch_conversation.specs.declared.prepare.Error.TheVariants as prepare
use Rattle.fetch_conversation.specs.declared.ref_map.Error.{Error as RefMapError}
use Rattle.fetch_conversation.specs.declared.ref_map.Error.TheVariants as ref_map
use Rattle.fetch_base.specs.Digits.{hex_of}
use Rattle.fetch_cli.specs.ReportLines.{target_text}

-- a name and what it keeps, with a space between
unfoldable pub keeping : List ℕ → List ℕ → List ℕ
keeping word kept = word ++ codes " " ++ kept

-- a refusal of the wire
unfoldable pub wire_token : WireError → List ℕ
wire_token (wire.Malformed place) = keeping (codes "Malformed") (decimal place)
wire_token (wire.ServerError text) = keeping (codes "ServerError") text
wire_token (wire.ReplyTooLong bound) = keeping (codes "ReplyTooLong") (decimal bound)
wire_token (wire.MissingFeature name) = keeping (codes "MissingFeature") name
wire_token (wire.LineTooLong length) = keeping (codes "LineTooLong") (decimal length)
wire_token (wire.BadParameter text place) = keeping (keeping (codes "BadParameter") text) (decimal place)
wire_token wire.NoMemory = codes "NoMemory"

-- a refusal of a pack
unfoldable pub pack_token : PackError → List ℕ
pack_token (pack.Malformed place) = keeping (codes "Malformed") (decimal place)
pack_token (pack.PackDigest found computed) = keeping (keeping (codes "PackDigest") (hex_of found)) (hex_of computed)
pack_token (pack.IdMismatch written computed) = keeping (keeping (codes "IdMismatch") (hex_of written)) (hex_of computed)
pack_token (pack.Collision id) = keeping (codes "Collision") (hex_of id)
pack_token pack.NoMemory = codes "NoMemory"

-- a target as in a line of a reference, or `none`
unfoldable pub found_text : Option Target → List ℕ
found_text None = codes "none"
found_text (Some target) = target_text target

-- a refusal of references
unfoldable pub refs_token : RefError → List ℕ
refs_token (refs.Expectation index found) = keeping (keeping (codes "Expectation") (decimal index)) (found_text found)
refs_token (refs.Cycle name) = keeping (codes "Cycle") name
refs_token (refs.Depth name) = keeping (codes "Depth") name
refs_token (refs.Unborn name) = keeping (codes "Unborn") name
refs_token (refs.MissingObject id) = keeping (codes "MissingObject") (hex_of id)
refs_token (refs.TagCycle id) = keeping (codes "TagCycle") (hex_of id)
refs_token refs.NoMemory = codes "NoMemory"

-- a refusal of the policy
unfoldable pub update_token : UpdateError → List ℕ
update_token (update.FindReference name) = keeping (codes "FindReference") name
update_token (update.InvalidRefName name) = keeping (codes "InvalidRefName") name
update_token (update.FindCommit id) = keeping (codes "FindCommit") (hex_of id)
update_token (update.PeelToId name cause) = keeping (keeping (codes "PeelToId") name) (refs_token cause)
update_token update.WorktreeListing = codes "WorktreeListing"
update_token update.OpenWorktreeRepo = codes "OpenWorktreeRepo"
update_token update.FollowSymref = codes "FollowSymref"
update_token update.NoMemory = codes "NoMemory"

-- a refusal of the listing
unfoldable pub ref_map_token : RefMapError → List ℕ
ref_map_token (ref_map.Handshake e) = wire_token e
ref_map_token ref_map.Transport = codes "Transport"
ref_map_token ref_map.Interrupted = codes "Interrupted"
ref_map_token (ref_map.InitRefMap conflicts) = codes "InitRefMap"
ref_map_token ref_map.NoMemory = codes "NoMemory"

-- a refusal before the fetch request
unfoldable pub prepare_token : PrepareError → List ℕ
prepare_token prepare.MissingRefSpecs = codes "MissingRefSpecs"
prepare_token (prepare.RefMap e) = ref_map_token e
prepare_token prepare.NoMemory = codes "NoMemory"

-- the name of a hash
abbrev pub hash_text : Kind → List ℕ
hash_text Sha1 = codes "sha1"
hash_text Sha256 = codes "sha256"

-- a refusal from the fetch request on
unfoldable pub receive_token : ReceiveError → List ℕ
receive_token (receive.NoMapping refspecs count) = keeping (codes "NoMapping") (decimal count)
receive_token (receive.IncompatibleObjectHash local remote) =
    keeping (keeping (codes "IncompatibleObjectHash") (hash_text local)) (hash_text remote)
receive_token (receive.Disconnected link) = keeping (keeping (codes "Disconnected") (hex_of link.from)) (hex_of link.to)
receive_token (receive.RejectShallowRemoteConfig value) = keeping (codes "RejectShallowRemoteConfig") value
receive_token (receive.NegotiationAlgorithmConfig value) = keeping (codes "NegotiationAlgorithmConfig") value
receive_token (receive.PackThreads value) = keeping (codes "PackThreads") value
receive_token (receive.Fetch e) = wire_token e
receive_token receive.Client = codes "Client"
receive_token receive.Interrupted = codes "Interrupted"
receive_token (receive.RejectShallowRemote id) = keeping (codes "RejectShallowRemote") (hex_of id)
receive_token (receive.Pack e) = pack_token e
receive_token (receive.Collision id) = keeping (codes "Collision") (hex_of id)
receive_token (receive.KeepFile path) = keeping (codes "KeepFile") path
receive_token (receive.UpdateRefs e) = update_token e
receive_token (receive.RemovePackKeepFile path) = keeping (codes "RemovePackKeepFile") path
receive_token receive.NoMemory = codes "NoMemory"

-- a refusal of a fetch
unfoldable pub token : FetchError → List ℕ
token (errors.Prepare e) = prepare_token e
token (errors.Receive e) = receive_token e
token errors.NoMemory = codes "NoMemory"
