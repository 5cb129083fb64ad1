-- Which refusals of a fetch tell a yes, or the peer's fault.
use Rattle.std.proofs.Common.{◌≡◌, ◌≢◌, false, refl}
use Rattle.fetch_conversation.specs.Errors.{is_client, is_interrupted, is_stopped}
use Rattle.fetch_conversation.specs.declared.fetch.Error.{Error as ReceiveError}
use Rattle.fetch_conversation.specs.declared.fetch.Error.TheVariants as fetch
use Rattle.fetch_conversation.specs.declared.prepare.Error.{Error as PrepareError}
use Rattle.fetch_remote.specs.Errors.{preparing, receiving, is_yes}
use Rattle.fetch_remote.proofs.Blamed.{as_prepared, as_received}

pub listing_yes : (e : PrepareError) → is_interrupted e ≡ is_yes (preparing e)
listing_yes e = as_prepared is_yes e refl

pub receiving_yes : (e : ReceiveError) → is_stopped e ≡ is_yes (receiving e)
receiving_yes e = as_received is_yes e refl

-- where no conversation is held
pub applying_yes : (e : ReceiveError) → e ≢ fetch.Interrupted → is_yes (receiving e) ≡ false
applying_yes fetch.NoMemory isnt = refl
applying_yes fetch.Client isnt = refl
applying_yes fetch.Interrupted isnt = absurd (isnt refl)
applying_yes (fetch.NoMapping specs count) isnt = refl
applying_yes (fetch.IncompatibleObjectHash local remote) isnt = refl
applying_yes (fetch.Disconnected link) isnt = refl
applying_yes (fetch.RejectShallowRemoteConfig value) isnt = refl
applying_yes (fetch.NegotiationAlgorithmConfig value) isnt = refl
applying_yes (fetch.PackThreads value) isnt = refl
applying_yes (fetch.Fetch e) isnt = refl
applying_yes (fetch.RejectShallowRemote id) isnt = refl
applying_yes (fetch.Pack e) isnt = refl
applying_yes (fetch.Collision id) isnt = refl
applying_yes (fetch.KeepFile path) isnt = refl
applying_yes (fetch.UpdateRefs e) isnt = refl
applying_yes (fetch.RemovePackKeepFile path) isnt = refl

-- nor the peer
pub spares_peer : (e : ReceiveError) → e ≢ fetch.Client → is_client e ≡ false
spares_peer fetch.Client isnt = absurd (isnt refl)
spares_peer fetch.NoMemory isnt = refl
spares_peer fetch.Interrupted isnt = refl
spares_peer (fetch.NoMapping specs count) isnt = refl
spares_peer (fetch.IncompatibleObjectHash local remote) isnt = refl
spares_peer (fetch.Disconnected link) isnt = refl
spares_peer (fetch.RejectShallowRemoteConfig value) isnt = refl
spares_peer (fetch.NegotiationAlgorithmConfig value) isnt = refl
spares_peer (fetch.PackThreads value) isnt = refl
spares_peer (fetch.Fetch e) isnt = refl
spares_peer (fetch.RejectShallowRemote id) isnt = refl
spares_peer (fetch.Pack e) isnt = refl
spares_peer (fetch.Collision id) isnt = refl
spares_peer (fetch.KeepFile path) isnt = refl
spares_peer (fetch.UpdateRefs e) isnt = refl
spares_peer (fetch.RemovePackKeepFile path) isnt = refl
