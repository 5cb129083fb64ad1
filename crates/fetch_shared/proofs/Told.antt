-- How inner refusals are told: each as one of its own, a fault as one, and a yes as a yes.
use Rattle.std.proofs.Common.{◌≡◌, Bool, refl, sym, ap, ◌∙◌, subst}
use Rattle.fetch_base.specs.Faults.{Faults}
use Rattle.fetch_conversation.specs.Blame.{BlamesPeer}
use Rattle.fetch_conversation.specs.Errors.{is_transport, is_client, is_interrupted, is_stopped}
use Rattle.fetch_conversation.specs.declared.fetch.Error.{Error as ReceiveError}
use Rattle.fetch_conversation.specs.declared.fetch.Error.TheVariants as receive
use Rattle.fetch_conversation.specs.declared.prepare.Error.{Error as PrepareError}
use Rattle.fetch_conversation.specs.declared.prepare.Error.TheVariants as prepare
use Rattle.fetch_remote.specs.Errors.{preparing, receiving}
use Rattle.fetch_remote.specs.Errors as remote
use Rattle.fetch_remote.specs.declared.fetching.fetch_error.FetchError.{FetchError}
use Rattle.fetch_remote.specs.declared.fetching.fetch_error.FetchError.TheVariants as fetch
use Rattle.fetch_remote.specs.Blame.{keep_fault_in, keep_fault_told, fault_in, fault_told, fault_deleting}
use Rattle.fetch_remote.specs.declared.delete.Error.{Error as DeleteError}
use Rattle.fetch_remote.specs.declared.delete.Error.TheVariants as delete
use Rattle.fetch_remote.proofs.Asked.{listing_yes, receiving_yes}
use Rattle.fetch_remote.proofs.Blamed.{as_prepared, as_received}
use Rattle.fetch_journal.specs.declared.error.SharedError.{SharedError}
use Rattle.fetch_journal.specs.declared.error.SharedError.TheVariants as errors
use Rattle.fetch_journal.specs.Errors.{fetching, deleting, is_of_peer, is_yes, keep_fault, tree_fault, tree_fault_deleting}

-- ---- a refusal is told as one alone

told_fetch : (f x : FetchError) → fetching f ≡ errors.Fetch x → f ≡ x
told_fetch (fetch.Prepare e) x is = cc
told_fetch (fetch.Receive e) x is = cc
told_fetch fetch.NoMemory x is = absurd (cc)

told_receive : (e x : ReceiveError) → receiving e ≡ fetch.Receive x → e ≡ x
told_receive (receive.NoMapping specs count) x is = cc
told_receive (receive.IncompatibleObjectHash local remote) x is = cc
told_receive (receive.Disconnected link) x is = cc
told_receive (receive.RejectShallowRemoteConfig value) x is = cc
told_receive (receive.NegotiationAlgorithmConfig value) x is = cc
told_receive (receive.PackThreads value) x is = cc
told_receive (receive.Fetch e) x is = cc
told_receive receive.Client x is = cc
told_receive receive.Interrupted x is = cc
told_receive (receive.RejectShallowRemote id) x is = cc
told_receive (receive.Pack e) x is = cc
told_receive (receive.Collision id) x is = cc
told_receive (receive.KeepFile path) x is = cc
told_receive (receive.UpdateRefs e) x is = cc
told_receive (receive.RemovePackKeepFile path) x is = cc
told_receive receive.NoMemory x is = absurd (cc)

no_receive : (e : PrepareError) (x : ReceiveError) → preparing e ≡ fetch.Receive x → ⊥
no_receive prepare.MissingRefSpecs x is = absurd (cc)
no_receive (prepare.RefMap e) x is = absurd (cc)
no_receive prepare.NoMemory x is = absurd (cc)

-- a refusal of the listing isn't told as one behind it
pub listing_isnt : (cause : PrepareError) (x : ReceiveError) (e : SharedError) → e ≡ fetching (preparing cause) → e ≡ errors.Fetch (fetch.Receive x) → ⊥
listing_isnt cause x e told is = no_receive cause x (told_fetch (preparing cause) (fetch.Receive x) (sym told ∙ is))

-- what was told of one behind it
pub receiving_is : (cause x : ReceiveError) (e : SharedError) → e ≡ fetching (receiving cause) → e ≡ errors.Fetch (fetch.Receive x) → cause ≡ x
receiving_is cause x e told is = told_receive cause x (told_fetch (receiving cause) (fetch.Receive x) (sym told ∙ is))

pub receiving_was : (cause x : ReceiveError) (e : SharedError) → e ≡ fetching (receiving cause) → e ≡ errors.Fetch (fetch.Receive x) → receiving cause ≡ fetch.Receive x
receiving_was cause x e told is = told_fetch (receiving cause) (fetch.Receive x) (sym told ∙ is)

-- ---- a fault of the peer is told as one

fetching_as : {X : Type 0} (says : SharedError → X) (f : FetchError) → says errors.NoMemory ≡ says (errors.Fetch fetch.NoMemory) → says (errors.Fetch f) ≡ says (fetching f)
fetching_as says (fetch.Prepare e) same = refl
fetching_as says (fetch.Receive e) same = refl
fetching_as says fetch.NoMemory same = sym same

preparing_blames : (e : PrepareError) → is_transport e ≡ is_of_peer (fetching (preparing e))
preparing_blames e = as_prepared remote.is_of_peer e refl ∙ fetching_as is_of_peer (preparing e) refl

receiving_blames : (e : ReceiveError) → is_client e ≡ is_of_peer (fetching (receiving e))
receiving_blames e = as_received remote.is_of_peer e refl ∙ fetching_as is_of_peer (receiving e) refl

pub listing_blamed : (old new : Faults) (cause : PrepareError) (e : SharedError) → e ≡ fetching (preparing cause) → BlamesPeer old new (is_transport cause) → BlamesPeer old new (is_of_peer e)
listing_blamed old new cause e told h = subst (λ (b : Bool). BlamesPeer old new b) (preparing_blames cause ∙ sym (ap is_of_peer told)) h

pub receiving_blamed : (old new : Faults) (cause : ReceiveError) (e : SharedError) → e ≡ fetching (receiving cause) → BlamesPeer old new (is_client cause) → BlamesPeer old new (is_of_peer e)
receiving_blamed old new cause e told h = subst (λ (b : Bool). BlamesPeer old new b) (receiving_blames cause ∙ sym (ap is_of_peer told)) h

-- ---- a yes is told as a yes

pub listing_asks : (cause : PrepareError) (e : SharedError) → e ≡ fetching (preparing cause) → is_interrupted cause ≡ is_yes e
listing_asks cause e told = listing_yes cause ∙ (fetching_as is_yes (preparing cause) refl ∙ sym (ap is_yes told))

pub receiving_asks : (cause : ReceiveError) (e : SharedError) → e ≡ fetching (receiving cause) → is_stopped cause ≡ is_yes e
receiving_asks cause e told = receiving_yes cause ∙ (fetching_as is_yes (receiving cause) refl ∙ sym (ap is_yes told))

-- ---- a fault of the files or of the work trees is told as one

pub receiving_keeps : (cause : ReceiveError) → keep_fault_in cause ≡ keep_fault (fetching (receiving cause))
receiving_keeps cause = as_received keep_fault_told cause refl ∙ fetching_as keep_fault (receiving cause) refl

pub receiving_trees : (cause : ReceiveError) → fault_in cause ≡ tree_fault (fetching (receiving cause))
receiving_trees cause = as_received fault_told cause refl ∙ fetching_as tree_fault (receiving cause) refl

pub deleting_trees : (cause : DeleteError) → fault_deleting cause ≡ tree_fault_deleting (deleting cause)
deleting_trees (delete.NotLocal name) = refl
deleting_trees delete.WorktreeListing = refl
deleting_trees delete.OpenWorktreeRepo = refl
deleting_trees delete.FollowSymref = refl
deleting_trees (delete.CheckedOut name directories) = refl
deleting_trees (delete.ConfigRead cause) = refl
deleting_trees (delete.Cleanup references source) = refl
deleting_trees delete.NoMemory = refl

-- out of memory is told as no refusal of a fetch
pub memory_never : (e : SharedError) (x : FetchError) → e ≡ errors.NoMemory → e ≡ errors.Fetch x → ⊥
memory_never e x memory is = absurd (cc (memory, is))
