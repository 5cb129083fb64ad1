-- Refusals that a shared repository makes by itself: none of them is one of a fetch. Those behind the conversation are neither
-- the peer's fault nor a yes.
use Rattle.std.proofs.Common.{◌≡◌, ◌⊎◌, ℕ, Bool, false, true, List, Option, None, Some, Result, Ok, Err, IfErr, refl, subst, inl, inr}
use Rattle.fetch_base.specs.declared.id.ObjectId.{ObjectId}
use Rattle.fetch_store.specs.declared.missing.Missing.{Missing}
use Rattle.fetch_refs.specs.declared.edit.RefEdit.{RefEdit}
use Rattle.fetch_refs.specs.declared.log.Signature.{Signature}
use Rattle.fetch_refs.specs.declared.target.Target.{Target}
use Rattle.fetch_update.specs.declared.update.Error.{Error as UpdateError}
use Rattle.fetch_conversation.specs.declared.conversing.Received.{Received}
use Rattle.fetch_conversation.specs.declared.fetch.Error.{Error as ReceiveError}
use Rattle.fetch_conversation.specs.declared.fetch.Error.TheVariants as receive
use Rattle.fetch_remote.specs.Blame.{told_by}
use Rattle.fetch_remote.specs.Errors.{receiving}
use Rattle.fetch_remote.specs.Applying.{to_take, pack_of}
use Rattle.fetch_remote.specs.declared.fetching.fetch_error.FetchError.{FetchError}
use Rattle.fetch_remote.specs.declared.fetching.fetch_error.FetchError.TheVariants as fetch
use Rattle.fetch_remote.proofs.Blamed.{tells_no_keep, tells_no_trees}
use Rattle.fetch_journal.specs.declared.error.SharedError.{SharedError}
use Rattle.fetch_journal.specs.declared.error.SharedError.TheVariants as errors
use Rattle.fetch_shared.specs.PackTaken.{IsPackUntaken}
use Rattle.fetch_journal.specs.Errors.{fetching, is_of_peer, is_yes, keep_fault, tree_fault, tree_fault_deleting}
use Rattle.fetch_journal.specs.Machine.{held}
use Rattle.fetch_journal.specs.Machine.Event.{Take, Commit}
use Rattle.fetch_shared.specs.Passes.{Holder}
use Rattle.fetch_shared.specs.Seen.{IsRefusedAt}
use Rattle.fetch_shared.specs.Applying.{Matter, Course, IsUnapplied, IsUnmoved, IsOfJudging, is_early, unmade, unremoved}
use Rattle.fetch_shared.proofs.Applied.{take_refused, commit_refused}

pub unbrought_own : (before after : Holder) (dry_run : Bool) (wants : List ObjectId) (r : Option Received) (e : SharedError) (x : FetchError) → IsPackUntaken before after dry_run wants r e → e ≡ errors.Fetch x → ⊥
unbrought_own before after dry_run wants r e x h is = by h.why
  where
    hit_or_gap : ((id : ObjectId) × (e ≡ errors.Collision id)) ⊎ ((link : Missing) × (e ≡ errors.Disconnected link)) → ⊥
    hit_or_gap (inl (id, other)) = absurd (cc)
    hit_or_gap (inr (link, other)) = absurd (cc)

    by : (e ≡ errors.NoMemory) ⊎ ((reply : Received) × (to_take dry_run r ≡ Some reply) × IsRefusedAt before.shared.opening before.front after.front (Take before.number wants (pack_of reply)) e) → ⊥
    by (inl other) = absurd (cc)
    by (inr (reply, same, refused)) = hit_or_gap (take_refused (held refused.found.repository) wants (pack_of reply) e refused.cause)

unmoved_is : (dry_run : Bool) (before after : Holder) (edits : List RefEdit) (committer : Signature) (e : SharedError) → IsUnmoved dry_run before after edits committer e
    → (e ≡ errors.NoMemory) ⊎ ((name : List ℕ) × (found : Option Target) × (e ≡ errors.EditReferences name found))
unmoved_is dry_run before after edits committer e h = by h.why
  where
    by : (e ≡ errors.NoMemory) ⊎ ((dry_run ≡ false) × IsRefusedAt before.shared.opening before.front after.front (Commit before.number edits committer) e)
        → (e ≡ errors.NoMemory) ⊎ ((name : List ℕ) × (found : Option Target) × (e ≡ errors.EditReferences name found))
    by (inl is) = inl is
    by (inr (wet, refused)) = inr (commit_refused refused.found.repository.state.refs.names edits e refused.cause)

pub unmoved_own : (dry_run : Bool) (before after : Holder) (edits : List RefEdit) (committer : Signature) (e : SharedError) (x : FetchError) → IsUnmoved dry_run before after edits committer e → e ≡ errors.Fetch x → ⊥
unmoved_own dry_run before after edits committer e x h is = by (unmoved_is dry_run before after edits committer e h)
  where
    by : (e ≡ errors.NoMemory) ⊎ ((name : List ℕ) × (found : Option Target) × (e ≡ errors.EditReferences name found)) → ⊥
    by (inl other) = absurd (cc)
    by (inr (name, found, other)) = absurd (cc)

-- a refusal of the edits comes behind the keep file
pub unmoved_late : (dry_run : Bool) (before after : Holder) (edits : List RefEdit) (committer : Signature) (e : SharedError) → IsUnmoved dry_run before after edits committer e → is_early e ≡ true → ⊥
unmoved_late dry_run before after edits committer e h early = by (unmoved_is dry_run before after edits committer e h)
  where
    by : (e ≡ errors.NoMemory) ⊎ ((name : List ℕ) × (found : Option Target) × (e ≡ errors.EditReferences name found)) → ⊥
    by (inl is) = let k : is_early errors.NoMemory ≡ true = subst (λ (x : SharedError). is_early x ≡ true) is early in absurd (cc (k))
    by (inr (name, found, is)) = let k : is_early (errors.EditReferences name found) ≡ true = subst (λ (x : SharedError). is_early x ≡ true) is early in absurd (cc (k))

-- and so does one of judging
pub judging_late : (cause : ReceiveError) (e : SharedError) → e ≡ fetching (receiving cause) → IsOfJudging cause → is_early e ≡ true → ⊥
judging_late cause e told h early = by cause h (subst (λ (x : SharedError). is_early x ≡ true) told early)
  where
    by : (x : ReceiveError) → IsOfJudging x → is_early (fetching (receiving x)) ≡ true → ⊥
    by (receive.KeepFile path) k is = absurd (cc)
    by (receive.UpdateRefs cause') k is = absurd (cc)
    by receive.NoMemory k is = absurd (cc)
    by (receive.NoMapping specs count) k is = absurd k
    by (receive.IncompatibleObjectHash local remote) k is = absurd k
    by (receive.Disconnected link) k is = absurd k
    by (receive.RejectShallowRemoteConfig value) k is = absurd k
    by (receive.NegotiationAlgorithmConfig value) k is = absurd k
    by (receive.PackThreads value) k is = absurd k
    by (receive.Fetch x) k is = absurd k
    by receive.Client k is = absurd k
    by receive.Interrupted k is = absurd k
    by (receive.RejectShallowRemote id) k is = absurd k
    by (receive.Pack x) k is = absurd k
    by (receive.Collision id) k is = absurd k
    by (receive.RemovePackKeepFile path) k is = absurd k

-- ---- behind the conversation

pub unapplied_calm : (m : Matter) (c : Course) (judged place : Option ℕ) (e : SharedError) → IsUnapplied m c judged place e → (is_of_peer e ≡ false) × (is_yes e ≡ false)
unapplied_calm m c judged place (errors.NotClosed link) h = (refl, refl)
unapplied_calm m c judged place (errors.Disconnected link) h = (refl, refl)
unapplied_calm m c judged place (errors.Collision id) h = (refl, refl)
unapplied_calm m c judged place (errors.EditReferences name found) h = (refl, refl)
unapplied_calm m c judged place (errors.Delete cause) h = (refl, refl)
unapplied_calm m c judged place errors.NoMemory h = (refl, refl)
unapplied_calm m c judged place (errors.Fetch fetch.NoMemory) h = (refl, refl)
unapplied_calm m c judged place (errors.Fetch (fetch.Prepare cause)) h = absurd h
unapplied_calm m c judged place (errors.Fetch (fetch.Receive (receive.NoMapping specs count))) h = (refl, refl)
unapplied_calm m c judged place (errors.Fetch (fetch.Receive (receive.IncompatibleObjectHash local remote))) h = (refl, refl)
unapplied_calm m c judged place (errors.Fetch (fetch.Receive (receive.Disconnected link))) h = (refl, refl)
unapplied_calm m c judged place (errors.Fetch (fetch.Receive (receive.RejectShallowRemoteConfig value))) h = (refl, refl)
unapplied_calm m c judged place (errors.Fetch (fetch.Receive (receive.NegotiationAlgorithmConfig value))) h = (refl, refl)
unapplied_calm m c judged place (errors.Fetch (fetch.Receive (receive.PackThreads value))) h = (refl, refl)
unapplied_calm m c judged place (errors.Fetch (fetch.Receive (receive.Fetch x))) h = (refl, refl)
unapplied_calm m c judged place (errors.Fetch (fetch.Receive receive.Client)) h = absurd h
unapplied_calm m c judged place (errors.Fetch (fetch.Receive receive.Interrupted)) h = absurd h
unapplied_calm m c judged place (errors.Fetch (fetch.Receive (receive.RejectShallowRemote id))) h = (refl, refl)
unapplied_calm m c judged place (errors.Fetch (fetch.Receive (receive.Pack x))) h = (refl, refl)
unapplied_calm m c judged place (errors.Fetch (fetch.Receive (receive.Collision id))) h = (refl, refl)
unapplied_calm m c judged place (errors.Fetch (fetch.Receive (receive.KeepFile path))) h = (refl, refl)
unapplied_calm m c judged place (errors.Fetch (fetch.Receive (receive.UpdateRefs cause))) h = (refl, refl)
unapplied_calm m c judged place (errors.Fetch (fetch.Receive (receive.RemovePackKeepFile path))) h = (refl, refl)
unapplied_calm m c judged place (errors.Fetch (fetch.Receive receive.NoMemory)) h = (refl, refl)

-- ---- files and work trees

-- a refusal that is none of a fetch tells no keep file
pub own_keep : (e : SharedError) → ((x : FetchError) → e ≡ errors.Fetch x → ⊥) → keep_fault e ≡ None
own_keep (errors.Fetch x) isnt = absurd (isnt x refl)
own_keep (errors.NotClosed link) isnt = refl
own_keep (errors.Disconnected link) isnt = refl
own_keep (errors.Collision id) isnt = refl
own_keep (errors.EditReferences name found) isnt = refl
own_keep (errors.Delete cause) isnt = refl
own_keep errors.NoMemory isnt = refl

-- nor a fault of the work trees
pub own_trees : (e : SharedError) → ((x : FetchError) → e ≡ errors.Fetch x → ⊥) → tree_fault e ≡ None
own_trees (errors.Fetch x) isnt = absurd (isnt x refl)
own_trees (errors.NotClosed link) isnt = refl
own_trees (errors.Disconnected link) isnt = refl
own_trees (errors.Collision id) isnt = refl
own_trees (errors.EditReferences name found) isnt = refl
own_trees (errors.Delete cause) isnt = refl
own_trees errors.NoMemory isnt = refl

-- memory that ran out in a turn tells none either
pub memory_trees : {A B : Type 0} (result : Result A (B × SharedError)) → IfErr result (λ x. x.1 ≡ errors.NoMemory) → told_by (λ (x : B × SharedError). tree_fault_deleting x.1) result ≡ None
memory_trees (Ok x) memory = refl
memory_trees (Err x) memory = rw memory refl

-- a refusal that tells no keep file
pub keep_unless : (e : SharedError) → ((path : List ℕ) → e ≡ unmade path → ⊥) → ((path : List ℕ) → e ≡ unremoved path → ⊥) → keep_fault e ≡ None
keep_unless (errors.Fetch (fetch.Receive x)) isnt stays = tells_no_keep x (λ path is. isnt path (rw is refl)) (λ path is. stays path (rw is refl))
keep_unless (errors.Fetch (fetch.Prepare x)) isnt stays = refl
keep_unless (errors.Fetch fetch.NoMemory) isnt stays = refl
keep_unless (errors.NotClosed link) isnt stays = refl
keep_unless (errors.Disconnected link) isnt stays = refl
keep_unless (errors.Collision id) isnt stays = refl
keep_unless (errors.EditReferences name found) isnt stays = refl
keep_unless (errors.Delete cause) isnt stays = refl
keep_unless errors.NoMemory isnt stays = refl

-- one that tells no fault of the work trees
pub trees_unless : (e : SharedError) → ((cause : UpdateError) → e ≡ errors.Fetch (fetch.Receive (receive.UpdateRefs cause)) → ⊥) → tree_fault e ≡ None
trees_unless (errors.Fetch (fetch.Receive x)) isnt = tells_no_trees x (λ cause is. isnt cause (rw is refl))
trees_unless (errors.Fetch (fetch.Prepare x)) isnt = refl
trees_unless (errors.Fetch fetch.NoMemory) isnt = refl
trees_unless (errors.NotClosed link) isnt = refl
trees_unless (errors.Disconnected link) isnt = refl
trees_unless (errors.Collision id) isnt = refl
trees_unless (errors.EditReferences name found) isnt = refl
trees_unless (errors.Delete cause) isnt = refl
trees_unless errors.NoMemory isnt = refl
