-- Which errors tell of a fault of the peer, and which of a stop.
use Rattle.std.proofs.Common.{◌≡◌, Bool, true, false, refl, ◌∙◌, sym, ap}
use Rattle.std.specs.Prelude.{◌↔◌}
use Rattle.fetch_lines.specs.declared.error.WireError.{WireError}
use Rattle.fetch_lines.specs.declared.error.WireError.TheVariants as wire
use Rattle.fetch_pack.specs.declared.error.PackError.{PackError}
use Rattle.fetch_pack.specs.declared.error.PackError.TheVariants as pack
use Rattle.fetch_update.specs.declared.update.Error.{Error as UpdateError}
use Rattle.fetch_update.specs.declared.update.Error.TheVariants as update
use Rattle.fetch_conversation.specs.Errors.{is_transport_map, is_transport, is_client, is_interrupted_map, is_interrupted, is_stopped}
use Rattle.fetch_conversation.specs.declared.fetch.Error.{Error as ReceiveError}
use Rattle.fetch_conversation.specs.declared.fetch.Error.TheVariants as fetch
use Rattle.fetch_conversation.specs.declared.prepare.Error.{Error as PrepareError}
use Rattle.fetch_conversation.specs.declared.prepare.Error.TheVariants as prepare
use Rattle.fetch_conversation.specs.declared.ref_map.Error.{Error as RefMapError}
use Rattle.fetch_conversation.specs.declared.ref_map.Error.TheVariants as ref_map
use Rattle.fetch_remote.specs.Errors as fetched
use Rattle.fetch_remote.specs.declared.delete.Error.{Error as DeleteError}
use Rattle.fetch_remote.specs.declared.delete.Error.TheVariants as delete
use Rattle.fetch_remote.specs.declared.fetching.fetch_error.FetchError.{FetchError}
use Rattle.fetch_remote.specs.declared.fetching.fetch_error.FetchError.TheVariants as errors
use Rattle.fetch_remote.specs.declared.repository.open_error.OpenError.{OpenError}
use Rattle.fetch_remote.specs.declared.repository.open_error.OpenError.TheVariants as opening
use Rattle.fetch_journal.specs.Errors as shared
use Rattle.fetch_journal.specs.declared.error.SharedError.{SharedError}
use Rattle.fetch_journal.specs.declared.error.SharedError.TheVariants as sharing
use Rattle.fetch_host.specs.FetchFailures.{wire_kind, pack_kind, update_kind, listing_kind, preparing_kind, receiving_kind, fetch_kind}
use Rattle.fetch_host.specs.SharedFailures.{opening_kind, deleting_kind, shared_kind}
use Rattle.fetch_host.specs.declared.failure.FailureKind.{FailureKind}
use Rattle.fetch_host.specs.declared.failure.FailureKind.TheVariants.{Peer, Others, Stop, Local, Server, Size, Caller, Memory}

-- whether it is the peer that failed
abbrev is_peer : FailureKind → Bool
is_peer Peer = true
is_peer Others = false
is_peer Stop = false
is_peer Local = false
is_peer Server = false
is_peer Size = false
is_peer Caller = false
is_peer Memory = false

-- whether it is a stop
abbrev is_stop : FailureKind → Bool
is_stop Peer = false
is_stop Others = false
is_stop Stop = true
is_stop Local = false
is_stop Server = false
is_stop Size = false
is_stop Caller = false
is_stop Memory = false

peer_back : (k : FailureKind) → is_peer k ≡ true → k ≡ Peer
peer_back Peer is = refl
peer_back Others is = absurd cc
peer_back Stop is = absurd cc
peer_back Local is = absurd cc
peer_back Server is = absurd cc
peer_back Size is = absurd cc
peer_back Caller is = absurd cc
peer_back Memory is = absurd cc

stop_back : (k : FailureKind) → is_stop k ≡ true → k ≡ Stop
stop_back Peer is = absurd cc
stop_back Others is = absurd cc
stop_back Stop is = refl
stop_back Local is = absurd cc
stop_back Server is = absurd cc
stop_back Size is = absurd cc
stop_back Caller is = absurd cc
stop_back Memory is = absurd cc

wire_aside : (e : WireError) → (is_peer (wire_kind e) ≡ false) × (is_stop (wire_kind e) ≡ false)
wire_aside (wire.Malformed place) = (refl, refl)
wire_aside (wire.ServerError text) = (refl, refl)
wire_aside (wire.ReplyTooLong bound) = (refl, refl)
wire_aside (wire.MissingFeature name) = (refl, refl)
wire_aside (wire.LineTooLong count) = (refl, refl)
wire_aside (wire.BadParameter text place) = (refl, refl)
wire_aside wire.NoMemory = (refl, refl)

pack_aside : (e : PackError) → (is_peer (pack_kind e) ≡ false) × (is_stop (pack_kind e) ≡ false)
pack_aside (pack.Malformed place) = (refl, refl)
pack_aside (pack.PackDigest found computed) = (refl, refl)
pack_aside (pack.IdMismatch written computed) = (refl, refl)
pack_aside (pack.Collision id) = (refl, refl)
pack_aside pack.NoMemory = (refl, refl)

update_aside : (e : UpdateError) → (is_peer (update_kind e) ≡ false) × (is_stop (update_kind e) ≡ false)
update_aside (update.FindReference name) = (refl, refl)
update_aside (update.InvalidRefName name) = (refl, refl)
update_aside (update.FindCommit id) = (refl, refl)
update_aside (update.PeelToId name cause) = (refl, refl)
update_aside update.WorktreeListing = (refl, refl)
update_aside update.OpenWorktreeRepo = (refl, refl)
update_aside update.FollowSymref = (refl, refl)
update_aside update.NoMemory = (refl, refl)

opening_aside : (e : OpenError) → (is_peer (opening_kind e) ≡ false) × (is_stop (opening_kind e) ≡ false)
opening_aside opening.Io = (refl, refl)
opening_aside (opening.Missing path) = (refl, refl)
opening_aside (opening.Config line) = (refl, refl)
opening_aside (opening.Override text) = (refl, refl)
opening_aside opening.NoMemory = (refl, refl)

deleting_aside : (e : DeleteError) → (is_peer (deleting_kind e) ≡ false) × (is_stop (deleting_kind e) ≡ false)
deleting_aside (delete.NotLocal name) = (refl, refl)
deleting_aside delete.WorktreeListing = (refl, refl)
deleting_aside delete.OpenWorktreeRepo = (refl, refl)
deleting_aside delete.FollowSymref = (refl, refl)
deleting_aside (delete.CheckedOut name directories) = (refl, refl)
deleting_aside (delete.ConfigRead cause) = opening_aside cause
deleting_aside (delete.Cleanup references cause) = (refl, refl)
deleting_aside delete.NoMemory = (refl, refl)

listing_blame : (e : RefMapError) → (is_peer (listing_kind e) ≡ is_transport_map e) × (is_stop (listing_kind e) ≡ is_interrupted_map e)
listing_blame (ref_map.Handshake e) = wire_aside e
listing_blame ref_map.Transport = (refl, refl)
listing_blame ref_map.Interrupted = (refl, refl)
listing_blame (ref_map.InitRefMap conflicts) = (refl, refl)
listing_blame ref_map.NoMemory = (refl, refl)

preparing_blame : (e : PrepareError) → (is_peer (preparing_kind e) ≡ is_transport e) × (is_stop (preparing_kind e) ≡ is_interrupted e)
preparing_blame prepare.MissingRefSpecs = (refl, refl)
preparing_blame (prepare.RefMap e) = listing_blame e
preparing_blame prepare.NoMemory = (refl, refl)

receiving_blame : (e : ReceiveError) → (is_peer (receiving_kind e) ≡ is_client e) × (is_stop (receiving_kind e) ≡ is_stopped e)
receiving_blame (fetch.NoMapping specs count) = (refl, refl)
receiving_blame (fetch.IncompatibleObjectHash own other) = (refl, refl)
receiving_blame (fetch.Disconnected link) = (refl, refl)
receiving_blame (fetch.RejectShallowRemoteConfig value) = (refl, refl)
receiving_blame (fetch.NegotiationAlgorithmConfig value) = (refl, refl)
receiving_blame (fetch.PackThreads value) = (refl, refl)
receiving_blame (fetch.Fetch e) = wire_aside e
receiving_blame fetch.Client = (refl, refl)
receiving_blame fetch.Interrupted = (refl, refl)
receiving_blame (fetch.RejectShallowRemote id) = (refl, refl)
receiving_blame (fetch.Pack e) = pack_aside e
receiving_blame (fetch.Collision id) = (refl, refl)
receiving_blame (fetch.KeepFile path) = (refl, refl)
receiving_blame (fetch.UpdateRefs e) = update_aside e
receiving_blame (fetch.RemovePackKeepFile path) = (refl, refl)
receiving_blame fetch.NoMemory = (refl, refl)

fetch_blame : (e : FetchError) → (is_peer (fetch_kind e) ≡ fetched.is_of_peer e) × (is_stop (fetch_kind e) ≡ fetched.is_yes e)
fetch_blame (errors.Prepare e) = preparing_blame e
fetch_blame (errors.Receive e) = receiving_blame e
fetch_blame errors.NoMemory = (refl, refl)

shared_blame : (e : SharedError) → (is_peer (shared_kind e) ≡ shared.is_of_peer e) × (is_stop (shared_kind e) ≡ shared.is_yes e)
shared_blame (sharing.NotClosed link) = (refl, refl)
shared_blame (sharing.Disconnected link) = (refl, refl)
shared_blame (sharing.Collision id) = (refl, refl)
shared_blame (sharing.EditReferences name found) = (refl, refl)
shared_blame (sharing.Fetch e) = fetch_blame e
shared_blame (sharing.Delete e) = deleting_aside e
shared_blame sharing.NoMemory = (refl, refl)

-- the peer is blamed for its faults
pub peer_of_fetch : (e : FetchError) → (fetch_kind e ≡ Peer) ↔ (fetched.is_of_peer e ≡ true)
peer_of_fetch e = (λ k. sym (fetch_blame e).0 ∙ ap is_peer k, λ is. peer_back (fetch_kind e) ((fetch_blame e).0 ∙ is))

-- the same of a shared repository
pub peer_of_shared : (e : SharedError) → (shared_kind e ≡ Peer) ↔ (shared.is_of_peer e ≡ true)
peer_of_shared e = (λ k. sym (shared_blame e).0 ∙ ap is_peer k, λ is. peer_back (shared_kind e) ((shared_blame e).0 ∙ is))

-- a stop is a yes
pub stop_of_fetch : (e : FetchError) → (fetch_kind e ≡ Stop) ↔ (fetched.is_yes e ≡ true)
stop_of_fetch e = (λ k. sym (fetch_blame e).1 ∙ ap is_stop k, λ is. stop_back (fetch_kind e) ((fetch_blame e).1 ∙ is))

-- the same of a shared repository
pub stop_of_shared : (e : SharedError) → (shared_kind e ≡ Stop) ↔ (shared.is_yes e ≡ true)
stop_of_shared e = (λ k. sym (shared_blame e).1 ∙ ap is_stop k, λ is. stop_back (shared_kind e) ((shared_blame e).1 ∙ is))
