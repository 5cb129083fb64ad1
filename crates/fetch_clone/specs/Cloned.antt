-- A clone that was fetched into, or wasn't.
use Rattle.std.specs.Prelude.{◌≡◌, ◌⊎◌, ℕ, Bool, List, Option, Some, None}
use Rattle.fetch_base.specs.Faults.{Faults, Counts}
use Rattle.fetch_files.specs.Trees.{Tree}
use Rattle.fetch_base.specs.declared.id.Kind.{Kind}
use Rattle.fetch_base.specs.declared.id.Kind.TheVariants as hashes
use Rattle.fetch_config.specs.Contents.{Contents}
use Rattle.fetch_update.specs.declared.worktrees.Worktree.{Worktree}
use Rattle.fetch_map.specs.declared.mapping.RefMap.{RefMap}
use Rattle.fetch_remote.specs.Repositories.{reopened}
use Rattle.fetch_remote.specs.RepositoryValues.{RepositoryValue, Setup}
use Rattle.fetch_remote.specs.declared.fetching.outcome.Outcome.{Outcome}
use Rattle.fetch_remote.specs.declared.fetching.prepared.Prepared.{Prepared}
use Rattle.fetch_clone.specs.Heeded.{IsHeededOver}
use Rattle.fetch_init.specs.HeadUpdates.{IsHeadUpdated, IsHeadRefusal}
use Rattle.fetch_clone.specs.Listed.{Query, query, IsListed, IsUnprepared}
use Rattle.fetch_clone.specs.Planned.{Answering}
use Rattle.fetch_clone.specs.Reached.{Ways, Line}
use Rattle.fetch_clone.specs.Received.{IsTaken, IsNotTaken, message_of}
use Rattle.fetch_create.specs.Replacing.{replaced}
use Rattle.fetch_clone.specs.Saving.{IsSaved, IsNotSaved}
use Rattle.fetch_clone.specs.Stages.{ref_name_of, revision_of}
use Rattle.fetch_clone.specs.Targets.{HeedsFirst}
use Rattle.fetch_init.specs.declared.clone.fetch.Error.{Error}
use Rattle.fetch_init.specs.declared.clone.fetch.Error.TheVariants as errors
use Rattle.fetch_clone.specs.declared.clone_state.CloneState.{CloneState}
use Rattle.fetch_clone.specs.declared.fetching.saving.Saved.{Saved}

-- ---- what is left to do once all is fetched

-- The section took its place in the configuration in memory; where there is none, all is as before.
abbrev pub IsInForce : Option Contents → Setup → Setup → Type 0
IsInForce None before after = after ≡ before
IsInForce (Some section) before after = reopened before (replaced section.sections before.local) ≡ Some after

-- the remote's section, unless the file `config` was written for another hash: that was read again, and has it
abbrev pub section_left : Contents → Kind → Kind → Option Contents
section_left section hashes.Sha1 hashes.Sha1 = Some section
section_left section hashes.Sha256 hashes.Sha256 = Some section
section_left section hashes.Sha1 hashes.Sha256 = None
section_left section hashes.Sha256 hashes.Sha1 = None

-- The configuration in memory took the remote's section, and then `HEAD` what it is to take.
pub record IsFinished (files files_left : Option Tree) (draft : CloneState) (name : List ℕ) (section : Option Contents) (map : RefMap)
    (before after : RepositoryValue) : Type 0 where
  pub between : RepositoryValue
  pub state : between.state ≡ before.state
  pub in_force : IsInForce section before.setup between.setup
  pub head : IsHeadUpdated files files_left between after map (message_of draft) name (ref_name_of draft.choices.wanted)
      (revision_of draft.choices.wanted)

-- The configuration in memory took the section, and `HEAD` wasn't updated, or the branch's section not written.
pub record IsUnheaded (may_fail : Bool) (files files_left : Option Tree) (draft : CloneState) (name : List ℕ) (section : Option Contents)
    (map : RefMap) (before after : RepositoryValue) (e : Error) : Type 0 where
  pub between : RepositoryValue
  pub state : between.state ≡ before.state
  pub in_force : IsInForce section before.setup between.setup
  pub why : IsHeadRefusal may_fail files files_left between after map (message_of draft) name (ref_name_of draft.choices.wanted)
      (revision_of draft.choices.wanted) e

-- Memory ran out before anything was changed.
pub record IsUntouched (files files_left : Option Tree) (before after : RepositoryValue) (e : Error) : Type 0 where
  pub memory : e ≡ errors.NoMemory
  pub state : after.state ≡ before.state
  pub setup : after.setup ≡ before.setup
  pub tree : files_left ≡ files

-- Why it isn't finished: `HEAD` wasn't updated, the branch's section wasn't written, or memory ran out.
pub record IsUnfinished (may_fail : Bool) (files files_left : Option Tree) (draft : CloneState) (name : List ℕ) (section : Option Contents)
    (map : RefMap) (before after : RepositoryValue) (e : Error) : Type 0 where
  pub by : IsUntouched files files_left before after e ⊎ IsUnheaded may_fail files files_left draft name section map before after e

-- ---- from the saved remote on

-- what the references are listed for
abbrev pub query_of : CloneState → Saved → Setup → Query
query_of draft saved setup = query saved.name draft.choices saved.remote setup

-- The references were listed by a peer, and what is wanted of them was fetched from it: the headline of a fetch holds of that
-- peer, from where it stood before it was asked. Then it was taken back.
pub record HasFetched {G P : Type 0} (w : Ways G P) (before after : Line G P) (known : Option (List Worktree))
    (files files_left : Option Tree) (draft : CloneState) (saved : Saved) (asked repo : RepositoryValue) (outcome : Outcome) : Type 0 where
  pub between : Line G P
  pub peer : P
  pub prepared : Prepared
  pub listed : IsListed w before between (query_of draft saved asked.setup) peer prepared
  pub taken : IsTaken w.told w.answers (w.told listed.first) between.taken after.taken known files files_left draft saved.remote prepared
      asked repo outcome
  pub same_left : after.left ≡ between.left
  pub same_addresses : after.addresses ≡ between.addresses
  pub same_closure : after.closure ≡ between.closure

-- The references were listed and fetched, and then `HEAD` took what it is to take. The interrupt said no before each receive.
pub record IsCompleted {G P : Type 0} (will will' : ℕ → Type 0) (w : Ways G P) (before after : Line G P) (known : Option (List Worktree))
    (files files_left : Option Tree) (draft : CloneState) (saved : Saved) (asked repo : RepositoryValue) (outcome : Outcome) : Type 0 where
  pub between : RepositoryValue
  pub stood : Option Tree
  pub fetched : HasFetched w before after known files stood draft saved asked between outcome
  pub finished : IsFinished stood files_left draft saved.name
      (section_left saved.section asked.state.hash between.state.hash) outcome.ref_map between repo
  pub questions : IsHeededOver will will' (w.told fetched.listed.first) (w.told fetched.taken.last)

-- The references were listed, and not fetched; the peer was taken back.
pub record IsListedAlone {G P : Type 0} (w : Ways G P) (before after : Line G P) (known : Option (List Worktree)) (may_fail : Bool)
    (files files_left : Option Tree) (draft : CloneState) (saved : Saved) (asked repo : RepositoryValue) (e : Error) : Type 0 where
  pub between : Line G P
  pub peer : P
  pub prepared : Prepared
  pub listed : IsListed w before between (query_of draft saved asked.setup) peer prepared
  pub why : IsNotTaken w.told w.answers (w.told listed.first) between.taken after.taken known may_fail files files_left draft saved.remote
      prepared asked repo e
  pub same_left : after.left ≡ between.left
  pub same_addresses : after.addresses ≡ between.addresses
  pub same_closure : after.closure ≡ between.closure

-- The references were fetched, and then something was refused.
pub record IsFetchedAlone {G P : Type 0} (w : Ways G P) (before after : Line G P) (known : Option (List Worktree)) (may_fail : Bool)
    (files files_left : Option Tree) (draft : CloneState) (saved : Saved) (asked repo : RepositoryValue) (e : Error) : Type 0 where
  pub between : RepositoryValue
  pub stood : Option Tree
  pub outcome : Outcome
  pub fetched : HasFetched w before after known files stood draft saved asked between outcome
  pub why : IsUnfinished may_fail stood files_left draft saved.name
      (section_left saved.section asked.state.hash between.state.hash) outcome.ref_map between repo e

-- No references were listed, and nothing else has changed; or they weren't fetched; or something was refused then.
pub record IsUncompleted {G P : Type 0} (w : Ways G P) (was is : Faults) (before after : Line G P) (known : Option (List Worktree))
    (may_fail : Bool) (files files_left : Option Tree) (draft : CloneState) (saved : Saved) (asked repo : RepositoryValue)
    (e : Error) : Type 0 where
  pub by : (IsUnprepared w was is before after (query_of draft saved asked.setup) e × (repo ≡ asked) × (files_left ≡ files))
      ⊎ (IsListedAlone w before after known may_fail files files_left draft saved asked repo e
      ⊎ IsFetchedAlone w before after known may_fail files files_left draft saved asked repo e)

-- ---- all of it

-- The remote was saved, and then all was completed. Will and will' are the questions that the interrupt will say yes to, before and
-- after: it said no before each receive, of the peer that listed before, and of the one that was fetched from.
pub record IsCloned {G P : Type 0} (will will' : ℕ → Type 0) (answers : Answering) (w : Ways G P) (before after : Line G P)
    (known : Option (List Worktree)) (files files_left : Option Tree) (draft : CloneState) (found repo : RepositoryValue)
    (outcome : Outcome) : Type 0 where
  pub saved : Saved
  pub asked : RepositoryValue
  pub between : Line G P
  pub written : Option Tree
  pub is_saved : IsSaved answers w before between files written draft found asked saved
  pub listing : HeedsFirst will will' is_saved.named.targeted
  pub completed : IsCompleted will will' w between after known written files_left draft saved asked repo outcome

-- The remote was saved, and then something was refused; the maker had failed so often before.
pub record IsSavedAlone {G P : Type 0} (answers : Answering) (w : Ways G P) (was is : Faults) (before after : Line G P)
    (known : Option (List Worktree)) (may_fail : Bool) (files files_left : Option Tree) (draft : CloneState) (found repo : RepositoryValue)
    (e : Error) : Type 0 where
  pub saved : Saved
  pub asked : RepositoryValue
  pub between : Line G P
  pub written : Option Tree
  pub failed : Faults
  pub earlier : Counts was failed
  pub is_saved : IsSaved answers w before between files written draft found asked saved
  pub why : IsUncompleted w failed is between after known may_fail written files_left draft saved asked repo e

-- The remote wasn't saved; or it was, and something was refused then. Each comes after the steps before it. Uncalled is what holds
-- of the closure for the remote where it wasn't called.
pub record IsUncloned {G P : Type 0} (answers : Answering) (uncalled : Type 0) (w : Ways G P) (was is : Faults) (before after : Line G P)
    (known : Option (List Worktree)) (may_fail : Bool) (files files_left : Option Tree) (draft : CloneState) (found repo : RepositoryValue)
    (e : Error) : Type 0 where
  pub by : IsNotSaved answers uncalled w was is before after may_fail files files_left draft found repo e
      ⊎ IsSavedAlone answers w was is before after known may_fail files files_left draft found repo e
