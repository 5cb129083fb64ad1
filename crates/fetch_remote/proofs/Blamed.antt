-- Who is blamed: in no call, by another answer, and which refusals tell nobody.
use Rattle.std.proofs.Common.{◌≡◌, ℕ, Bool, true, false, List, Option, Some, None, Result, Ok, Err, IfErr, refl, sym, ap, ◌∙◌, subst, inl, inr}
use Rattle.std.specs.Prelude.{is_some}
use Rattle.fetch_base.specs.Faults.{Faults, Counts-none}
use Rattle.fetch_files.specs.Trees.{Tree}
use Rattle.fetch_update.specs.declared.update.Error.{Error as UpdateError}
use Rattle.fetch_update.specs.declared.worktrees.Worktree.{Worktree}
use Rattle.fetch_update.specs.declared.worktrees.WorktreeFault.{WorktreeFault}
use Rattle.fetch_update.specs.declared.worktrees.WorktreeFault.TheVariants as faults
use Rattle.fetch_conversation.specs.Blame.{BlamesPeer, is_told}
use Rattle.fetch_conversation.specs.declared.fetch.Error.{Error as ReceiveError}
use Rattle.fetch_conversation.specs.declared.fetch.Error.TheVariants as receive
use Rattle.fetch_conversation.specs.declared.prepare.Error.{Error as PrepareError}
use Rattle.fetch_conversation.specs.declared.prepare.Error.TheVariants as prepare
use Rattle.fetch_remote.specs.Blame.{LentFiles, LentTrees, KeepFault, BlamesFiles, BlamesWorktrees, told_by, keep_fault_in, fault_in, fault_deleting}
use Rattle.fetch_remote.specs.DeletionSteps.{IsHeldIn, IsNotGone, IsUnlocal, listing_refusal}
use Rattle.fetch_remote.specs.Errors.{preparing, receiving}
use Rattle.fetch_remote.specs.Applying.{IsOfJudging}
use Rattle.fetch_remote.specs.declared.delete.Error.{Error as DeleteError}
use Rattle.fetch_remote.specs.declared.delete.Error.TheVariants as delete
use Rattle.fetch_remote.specs.declared.fetching.fetch_error.FetchError.{FetchError}
use Rattle.fetch_remote.specs.declared.fetching.fetch_error.FetchError.TheVariants as errors

-- ---- no call

pub files_still : (a : LentFiles) (blamed : Option KeepFault) → blamed ≡ None → BlamesFiles a a blamed
files_still a blamed none = record {
  may_fail = refl;
  counts = Counts-none a.faults;
  cause = λ is. let k : false ≡ true = sym (ap (λ (b : Option KeepFault). is_some b) none) ∙ is in absurd (cc);
  in_the_way = λ path is. absurd (cc);
  removable = λ is never. absurd (cc);
}

pub trees_still : (a : LentTrees) (blamed : Option WorktreeFault) → blamed ≡ None → BlamesWorktrees a a blamed
trees_still a blamed none = record {
  told = refl;
  asked_once = inl refl;
  listing_counts = Counts-none a.listing;
  open_repo_counts = Counts-none a.open_repo;
  follow_symref_counts = Counts-none a.follow_symref;
  listing = λ is. absurd (cc);
  open_repo = λ is. absurd (cc);
  follow_symref = λ is. absurd (cc);
}

-- ---- told by another answer

pub peer_as : (a b : Faults) (blamed blamed' : Bool) → blamed ≡ blamed' → BlamesPeer a b blamed → BlamesPeer a b blamed'
peer_as a b blamed blamed' same h = subst (λ (x : Bool). BlamesPeer a b x) same h

pub files_as : (a b : LentFiles) (blamed blamed' : Option KeepFault) → blamed ≡ blamed' → BlamesFiles a b blamed → BlamesFiles a b blamed'
files_as a b blamed blamed' same h = subst (λ (x : Option KeepFault). BlamesFiles a b x) same h

pub trees_as : (a b : LentTrees) (blamed blamed' : Option WorktreeFault) → blamed ≡ blamed' → BlamesWorktrees a b blamed → BlamesWorktrees a b blamed'
trees_as a b blamed blamed' same h = subst (λ (x : Option WorktreeFault). BlamesWorktrees a b x) same h

-- a refusal that isn't of this kind
pub none_told : {T E : Type 0} (says : E → Bool) (result : Result T E) → IfErr result (λ e. says e ≡ false) → false ≡ is_told says result
none_told says (Ok x) own = refl
none_told says (Err e) own = sym own

-- ---- what a stage tells is what the fetch tells

pub as_prepared : {X : Type 0} (says : FetchError → X) (e : PrepareError) → says errors.NoMemory ≡ says (errors.Prepare prepare.NoMemory) → says (errors.Prepare e) ≡ says (preparing e)
as_prepared says prepare.MissingRefSpecs same = refl
as_prepared says (prepare.RefMap e) same = refl
as_prepared says prepare.NoMemory same = sym same

pub as_received : {X : Type 0} (says : FetchError → X) (e : ReceiveError) → says errors.NoMemory ≡ says (errors.Receive receive.NoMemory) → says (errors.Receive e) ≡ says (receiving e)
as_received says receive.NoMemory same = sym same
as_received says receive.Client same = refl
as_received says receive.Interrupted same = refl
as_received says (receive.NoMapping specs count) same = refl
as_received says (receive.IncompatibleObjectHash local remote) same = refl
as_received says (receive.Disconnected link) same = refl
as_received says (receive.RejectShallowRemoteConfig value) same = refl
as_received says (receive.NegotiationAlgorithmConfig value) same = refl
as_received says (receive.PackThreads value) same = refl
as_received says (receive.Fetch e) same = refl
as_received says (receive.RejectShallowRemote id) same = refl
as_received says (receive.Pack e) same = refl
as_received says (receive.Collision id) same = refl
as_received says (receive.KeepFile path) same = refl
as_received says (receive.UpdateRefs e) same = refl
as_received says (receive.RemovePackKeepFile path) same = refl

-- ---- refusals that tell nobody

-- no fault of the work trees, unless judging was refused
pub tells_no_trees : (e : ReceiveError) → ((cause : UpdateError) → e ≡ receive.UpdateRefs cause → ⊥) → fault_in e ≡ None
tells_no_trees receive.NoMemory isnt = refl
tells_no_trees receive.Client isnt = refl
tells_no_trees receive.Interrupted isnt = refl
tells_no_trees (receive.NoMapping specs count) isnt = refl
tells_no_trees (receive.IncompatibleObjectHash local remote) isnt = refl
tells_no_trees (receive.Disconnected link) isnt = refl
tells_no_trees (receive.RejectShallowRemoteConfig value) isnt = refl
tells_no_trees (receive.NegotiationAlgorithmConfig value) isnt = refl
tells_no_trees (receive.PackThreads value) isnt = refl
tells_no_trees (receive.Fetch e) isnt = refl
tells_no_trees (receive.RejectShallowRemote id) isnt = refl
tells_no_trees (receive.Pack e) isnt = refl
tells_no_trees (receive.Collision id) isnt = refl
tells_no_trees (receive.KeepFile path) isnt = refl
tells_no_trees (receive.UpdateRefs cause) isnt = absurd (isnt cause refl)
tells_no_trees (receive.RemovePackKeepFile path) isnt = refl

-- no keep file, unless one wasn't made or not removed
pub tells_no_keep : (e : ReceiveError) → ((path : List ℕ) → e ≡ receive.KeepFile path → ⊥) → ((path : List ℕ) → e ≡ receive.RemovePackKeepFile path → ⊥) → keep_fault_in e ≡ None
tells_no_keep receive.NoMemory unmade unremoved = refl
tells_no_keep receive.Client unmade unremoved = refl
tells_no_keep receive.Interrupted unmade unremoved = refl
tells_no_keep (receive.NoMapping specs count) unmade unremoved = refl
tells_no_keep (receive.IncompatibleObjectHash local remote) unmade unremoved = refl
tells_no_keep (receive.Disconnected link) unmade unremoved = refl
tells_no_keep (receive.RejectShallowRemoteConfig value) unmade unremoved = refl
tells_no_keep (receive.NegotiationAlgorithmConfig value) unmade unremoved = refl
tells_no_keep (receive.PackThreads value) unmade unremoved = refl
tells_no_keep (receive.Fetch e) unmade unremoved = refl
tells_no_keep (receive.RejectShallowRemote id) unmade unremoved = refl
tells_no_keep (receive.Pack e) unmade unremoved = refl
tells_no_keep (receive.Collision id) unmade unremoved = refl
tells_no_keep (receive.KeepFile path) unmade unremoved = absurd (unmade path refl)
tells_no_keep (receive.UpdateRefs cause) unmade unremoved = refl
tells_no_keep (receive.RemovePackKeepFile path) unmade unremoved = absurd (unremoved path refl)

-- judging tells no keep file
pub judging_keeps : (e : ReceiveError) → IsOfJudging e → keep_fault_in e ≡ None
judging_keeps e (inl is) = rw is refl
judging_keeps e (inr (cause, is)) = rw is refl

-- ---- a deletion

-- a branch that is no local one
pub unlocal_trees : (found : Option (List ℕ)) (e : DeleteError) → IsUnlocal found e → fault_deleting e ≡ None
unlocal_trees found (delete.NotLocal name) h = refl
unlocal_trees found delete.WorktreeListing h = absurd h
unlocal_trees found delete.OpenWorktreeRepo h = absurd h
unlocal_trees found delete.FollowSymref h = absurd h
unlocal_trees found (delete.CheckedOut name directories) h = absurd h
unlocal_trees found (delete.ConfigRead cause) h = absurd h
unlocal_trees found (delete.Cleanup references source) h = absurd h
unlocal_trees found delete.NoMemory h = refl

-- a list of work trees that was told
pub held_trees : {T : Type 0} (trees : List Worktree) (names : List (List ℕ)) (result : Result T DeleteError) → IfErr result (IsHeldIn trees names) → told_by fault_deleting result ≡ None
held_trees trees names (Ok x) h = refl
held_trees trees names (Err (delete.NotLocal name)) h = absurd h
held_trees trees names (Err delete.WorktreeListing) h = absurd h
held_trees trees names (Err delete.OpenWorktreeRepo) h = absurd h
held_trees trees names (Err delete.FollowSymref) h = absurd h
held_trees trees names (Err (delete.CheckedOut name directories)) h = refl
held_trees trees names (Err (delete.ConfigRead cause)) h = absurd h
held_trees trees names (Err (delete.Cleanup references source)) h = absurd h
held_trees trees names (Err delete.NoMemory) h = refl

-- what comes once the work trees were asked
pub gone_trees : {T : Type 0} (told : Option Tree) (git_dir : List ℕ) (names : List (List ℕ)) (result : Result T DeleteError) → IfErr result (IsNotGone told git_dir names) → told_by fault_deleting result ≡ None
gone_trees told git_dir names (Ok x) h = refl
gone_trees told git_dir names (Err (delete.NotLocal name)) h = absurd h
gone_trees told git_dir names (Err delete.WorktreeListing) h = absurd h
gone_trees told git_dir names (Err delete.OpenWorktreeRepo) h = absurd h
gone_trees told git_dir names (Err delete.FollowSymref) h = absurd h
gone_trees told git_dir names (Err (delete.CheckedOut name directories)) h = absurd h
gone_trees told git_dir names (Err (delete.ConfigRead cause)) h = refl
gone_trees told git_dir names (Err (delete.Cleanup references source)) h = refl
gone_trees told git_dir names (Err delete.NoMemory) h = refl

-- a fault of the work trees is told as itself
pub fault_is : (fault told : WorktreeFault) → fault_deleting (listing_refusal fault) ≡ Some told → fault ≡ told
fault_is faults.Listing told is = cc
fault_is faults.OpenRepo told is = cc
fault_is faults.FollowSymref told is = cc
fault_is faults.NoMemory told is = absurd (cc)
