-- How an inner refusal is told by an outer call, and which refusals have a count or nothing in place of a cause.
use Rattle.std.specs.Prelude.{Bool, true, false, Option, Some, None, Result, Ok, Err}
use Rattle.fetch_pack.specs.declared.error.PackError.{PackError}
use Rattle.fetch_pack.specs.declared.error.PackError.TheVariants as pack
use Rattle.fetch_update.specs.declared.update.Error.{Error as UpdateError}
use Rattle.fetch_update.specs.declared.update.Error.TheVariants as update
use Rattle.fetch_lines.specs.declared.error.WireError.{WireError}
use Rattle.fetch_lines.specs.declared.error.WireError.TheVariants as wire
use Rattle.fetch_conversation.specs.declared.drive.DriveError.{DriveError}
use Rattle.fetch_conversation.specs.declared.drive.DriveError.TheVariants as stops
use Rattle.fetch_conversation.specs.declared.fetch.Error.{Error as ReceiveError}
use Rattle.fetch_conversation.specs.declared.fetch.Error.TheVariants as fetch
use Rattle.fetch_conversation.specs.declared.prepare.Error.{Error as PrepareError}
use Rattle.fetch_conversation.specs.declared.prepare.Error.TheVariants as prepare
use Rattle.fetch_conversation.specs.declared.ref_map.Error.{Error as RefMapError}
use Rattle.fetch_conversation.specs.declared.ref_map.Error.TheVariants as ref_map

-- ---- an inner refusal; out of memory stays what it is

-- a refusal of the mapping, as one of the preparation
abbrev pub prepare_of : RefMapError → PrepareError
prepare_of ref_map.NoMemory = prepare.NoMemory
prepare_of e = prepare.RefMap e

-- a refusal of the wire, as one of the fetch
abbrev pub fetch_of_wire : WireError → ReceiveError
fetch_of_wire wire.NoMemory = fetch.NoMemory
fetch_of_wire e = fetch.Fetch e

-- a collision is told by itself
abbrev pub fetch_of_pack : PackError → ReceiveError
fetch_of_pack pack.NoMemory = fetch.NoMemory
fetch_of_pack (pack.Collision id) = fetch.Collision id
fetch_of_pack e = fetch.Pack e

-- a refusal of the policy, as one of the fetch
abbrev pub fetch_of_update : UpdateError → ReceiveError
fetch_of_update update.NoMemory = fetch.NoMemory
fetch_of_update e = fetch.UpdateRefs e

-- a refusal of the wire, as one of the preparation
abbrev pub prepare_of_wire : WireError → PrepareError
prepare_of_wire wire.NoMemory = prepare.NoMemory
prepare_of_wire e = prepare.RefMap (ref_map.Handshake e)

-- ---- why a session was driven no further

-- why a session stopped, as a refusal of the preparation
abbrev pub prepare_of_stop : DriveError → PrepareError
prepare_of_stop (stops.Refused e) = prepare_of_wire e
prepare_of_stop stops.Failed = prepare.RefMap ref_map.Transport
prepare_of_stop stops.Interrupted = prepare.RefMap ref_map.Interrupted

-- why a session stopped, as a refusal of the fetch
abbrev pub fetch_of_stop : DriveError → ReceiveError
fetch_of_stop (stops.Refused e) = fetch_of_wire e
fetch_of_stop stops.Failed = fetch.Client
fetch_of_stop stops.Interrupted = fetch.Interrupted

-- a fault of the peer
abbrev pub is_failed : DriveError → Bool
is_failed (stops.Refused e) = false
is_failed stops.Failed = true
is_failed stops.Interrupted = false

-- a yes of the interrupt
abbrev pub is_yes : DriveError → Bool
is_yes (stops.Refused e) = false
is_yes stops.Failed = false
is_yes stops.Interrupted = true

-- ---- while the references are listed

-- the peer's fault
abbrev pub is_transport_map : RefMapError → Bool
is_transport_map (ref_map.Handshake e) = false
is_transport_map ref_map.Transport = true
is_transport_map ref_map.Interrupted = false
is_transport_map (ref_map.InitRefMap conflicts) = false
is_transport_map ref_map.NoMemory = false

-- whether the peer failed while references were listed
abbrev pub is_transport : PrepareError → Bool
is_transport prepare.MissingRefSpecs = false
is_transport (prepare.RefMap e) = is_transport_map e
is_transport prepare.NoMemory = false

-- a yes of the interrupt
abbrev pub is_interrupted_map : RefMapError → Bool
is_interrupted_map (ref_map.Handshake e) = false
is_interrupted_map ref_map.Transport = false
is_interrupted_map ref_map.Interrupted = true
is_interrupted_map (ref_map.InitRefMap conflicts) = false
is_interrupted_map ref_map.NoMemory = false

-- whether the interrupt said yes while references were listed
abbrev pub is_interrupted : PrepareError → Bool
is_interrupted prepare.MissingRefSpecs = false
is_interrupted (prepare.RefMap e) = is_interrupted_map e
is_interrupted prepare.NoMemory = false

-- A free refusal has no cause in the conversation: out of memory has none at all, and a fault and a yes have a count.
abbrev pub is_free_map : RefMapError → Bool
is_free_map (ref_map.Handshake e) = false
is_free_map ref_map.Transport = true
is_free_map ref_map.Interrupted = true
is_free_map (ref_map.InitRefMap conflicts) = false
is_free_map ref_map.NoMemory = false

-- whether a refusal of the preparation is a free one
abbrev pub is_free_listing : PrepareError → Bool
is_free_listing prepare.MissingRefSpecs = false
is_free_listing (prepare.RefMap e) = is_free_map e
is_free_listing prepare.NoMemory = true

-- ---- from the fetch request on

-- a fault of the worktrees
abbrev pub is_worktree_fault : UpdateError → Bool
is_worktree_fault (update.FindReference name) = false
is_worktree_fault (update.InvalidRefName name) = false
is_worktree_fault (update.FindCommit id) = false
is_worktree_fault (update.PeelToId name cause) = false
is_worktree_fault update.WorktreeListing = true
is_worktree_fault update.OpenWorktreeRepo = true
is_worktree_fault update.FollowSymref = true
is_worktree_fault update.NoMemory = false

-- the peer's fault
abbrev pub is_client : ReceiveError → Bool
is_client fetch.Client = true
is_client (fetch.NoMapping specs count) = false
is_client (fetch.IncompatibleObjectHash local remote) = false
is_client (fetch.Disconnected link) = false
is_client (fetch.RejectShallowRemoteConfig value) = false
is_client (fetch.NegotiationAlgorithmConfig value) = false
is_client (fetch.PackThreads value) = false
is_client (fetch.Fetch e) = false
is_client fetch.Interrupted = false
is_client (fetch.RejectShallowRemote id) = false
is_client (fetch.Pack e) = false
is_client (fetch.Collision id) = false
is_client (fetch.KeepFile path) = false
is_client (fetch.UpdateRefs e) = false
is_client (fetch.RemovePackKeepFile path) = false
is_client fetch.NoMemory = false

-- a yes of the interrupt
abbrev pub is_stopped : ReceiveError → Bool
is_stopped fetch.Interrupted = true
is_stopped fetch.Client = false
is_stopped (fetch.NoMapping specs count) = false
is_stopped (fetch.IncompatibleObjectHash local remote) = false
is_stopped (fetch.Disconnected link) = false
is_stopped (fetch.RejectShallowRemoteConfig value) = false
is_stopped (fetch.NegotiationAlgorithmConfig value) = false
is_stopped (fetch.PackThreads value) = false
is_stopped (fetch.Fetch e) = false
is_stopped (fetch.RejectShallowRemote id) = false
is_stopped (fetch.Pack e) = false
is_stopped (fetch.Collision id) = false
is_stopped (fetch.KeepFile path) = false
is_stopped (fetch.UpdateRefs e) = false
is_stopped (fetch.RemovePackKeepFile path) = false
is_stopped fetch.NoMemory = false

-- A free refusal has no cause in the conversation: out of memory has none at all, and a fault and a yes have a count.
abbrev pub is_free_receiving : ReceiveError → Bool
is_free_receiving fetch.Client = true
is_free_receiving fetch.Interrupted = true
is_free_receiving fetch.NoMemory = true
is_free_receiving (fetch.KeepFile path) = false
is_free_receiving (fetch.RemovePackKeepFile path) = false
is_free_receiving (fetch.UpdateRefs e) = false
is_free_receiving (fetch.NoMapping specs count) = false
is_free_receiving (fetch.IncompatibleObjectHash local remote) = false
is_free_receiving (fetch.Disconnected link) = false
is_free_receiving (fetch.RejectShallowRemoteConfig value) = false
is_free_receiving (fetch.NegotiationAlgorithmConfig value) = false
is_free_receiving (fetch.PackThreads value) = false
is_free_receiving (fetch.Fetch e) = false
is_free_receiving (fetch.RejectShallowRemote id) = false
is_free_receiving (fetch.Pack e) = false
is_free_receiving (fetch.Collision id) = false

-- a server lacks what is needed
abbrev pub is_lacking : WireError → Bool
is_lacking (wire.MissingFeature name) = true
is_lacking _ = false

-- A refusal that comes before anything is sent for a pack.
abbrev pub is_unasked : ReceiveError → Bool
is_unasked (fetch.NoMapping specs count) = true
is_unasked (fetch.IncompatibleObjectHash local remote) = true
is_unasked (fetch.RejectShallowRemoteConfig value) = true
is_unasked (fetch.NegotiationAlgorithmConfig value) = true
is_unasked (fetch.PackThreads value) = true
is_unasked (fetch.Fetch e) = is_lacking e
is_unasked _ = false

-- Nothing was sent for a pack: it is refused before, or nothing is wanted.
abbrev pub asks_nothing : {X : Type 0} → Result (Option X) ReceiveError → Bool
asks_nothing (Ok None) = true
asks_nothing (Ok (Some x)) = false
asks_nothing (Err e) = is_unasked e
