-- What kind of failure the errors of a fetch tell of.
use Rattle.fetch_pack.specs.declared.error.PackError.{PackError}
use Rattle.fetch_pack.specs.declared.error.PackError.TheVariants as pack
use Rattle.fetch_update.specs.declared.update.Error.{Error as UpdateError}
use Rattle.fetch_update.specs.declared.update.Error.TheVariants as update
use Rattle.fetch_lines.specs.declared.error.WireError.{WireError}
use Rattle.fetch_lines.specs.declared.error.WireError.TheVariants as wire
use Rattle.fetch_conversation.specs.declared.fetch.Error.{Error as ReceiveError}
use Rattle.fetch_conversation.specs.declared.fetch.Error.TheVariants as fetch
use Rattle.fetch_conversation.specs.declared.prepare.Error.{Error as PrepareError}
use Rattle.fetch_conversation.specs.declared.prepare.Error.TheVariants as prepare
use Rattle.fetch_conversation.specs.declared.ref_map.Error.{Error as RefMapError}
use Rattle.fetch_conversation.specs.declared.ref_map.Error.TheVariants as ref_map
use Rattle.fetch_remote.specs.declared.fetching.fetch_error.FetchError.{FetchError}
use Rattle.fetch_remote.specs.declared.fetching.fetch_error.FetchError.TheVariants as errors
use Rattle.fetch_host.specs.declared.failure.FailureKind.{FailureKind}
use Rattle.fetch_host.specs.declared.failure.FailureKind.TheVariants.{Peer, Stop, Local, Server, Size, Caller, Memory}

-- of lines and replies: a parameter is the caller's, and what is too long is so on either side
abbrev pub wire_kind : WireError → FailureKind
wire_kind (wire.Malformed place) = Server
wire_kind (wire.ServerError text) = Server
wire_kind (wire.ReplyTooLong bound) = Size
wire_kind (wire.MissingFeature name) = Server
wire_kind (wire.LineTooLong count) = Size
wire_kind (wire.BadParameter text place) = Caller
wire_kind wire.NoMemory = Memory

-- of a pack: the server's, unless memory ran out
abbrev pub pack_kind : PackError → FailureKind
pack_kind pack.NoMemory = Memory
pack_kind e = Server

-- of the verdicts: a destination is the caller's, a name of an unborn reference the server's, and what stands here is local
abbrev pub update_kind : UpdateError → FailureKind
update_kind (update.FindReference name) = Caller
update_kind (update.InvalidRefName name) = Server
update_kind (update.FindCommit id) = Local
update_kind (update.PeelToId name cause) = Local
update_kind update.WorktreeListing = Local
update_kind update.OpenWorktreeRepo = Local
update_kind update.FollowSymref = Local
update_kind update.NoMemory = Memory

-- of the listing and the mappings
abbrev pub listing_kind : RefMapError → FailureKind
listing_kind (ref_map.Handshake e) = wire_kind e
listing_kind ref_map.Transport = Peer
listing_kind ref_map.Interrupted = Stop
listing_kind (ref_map.InitRefMap conflicts) = Caller
listing_kind ref_map.NoMemory = Memory

-- before a pack was asked for
abbrev pub preparing_kind : PrepareError → FailureKind
preparing_kind prepare.MissingRefSpecs = Caller
preparing_kind (prepare.RefMap e) = listing_kind e
preparing_kind prepare.NoMemory = Memory

-- from the fetch request on: a setting that can't be read is the caller's
abbrev pub receiving_kind : ReceiveError → FailureKind
receiving_kind (fetch.NoMapping specs count) = Caller
receiving_kind (fetch.IncompatibleObjectHash own other) = Server
receiving_kind (fetch.Disconnected link) = Server
receiving_kind (fetch.RejectShallowRemoteConfig value) = Caller
receiving_kind (fetch.NegotiationAlgorithmConfig value) = Caller
receiving_kind (fetch.PackThreads value) = Caller
receiving_kind (fetch.Fetch e) = wire_kind e
receiving_kind fetch.Client = Peer
receiving_kind fetch.Interrupted = Stop
receiving_kind (fetch.RejectShallowRemote id) = Server
receiving_kind (fetch.Pack e) = pack_kind e
receiving_kind (fetch.Collision id) = Server
receiving_kind (fetch.KeepFile path) = Local
receiving_kind (fetch.UpdateRefs e) = update_kind e
receiving_kind (fetch.RemovePackKeepFile path) = Local
receiving_kind fetch.NoMemory = Memory

-- of a whole fetch
abbrev pub fetch_kind : FetchError → FailureKind
fetch_kind (errors.Prepare e) = preparing_kind e
fetch_kind (errors.Receive e) = receiving_kind e
fetch_kind errors.NoMemory = Memory
