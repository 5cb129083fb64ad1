-- What a clone's peer listed is fetched, and the peer is taken back.
use Rattle.std.specs.Prelude.{◌≡◌, ◌⊎◌, ℕ, Bool, true, false, List, ◌++◌, codes, Option, Some, None, is_some, ⊤, Ok, Err}
use Rattle.fetch_files.specs.FileCalls.{IsRefused as IsBlocked}
use Rattle.fetch_files.specs.Trees.{Tree}
use Rattle.fetch_update.specs.declared.message.RefLogMessage.TheVariants.{Override}
use Rattle.fetch_update.specs.declared.worktrees.Worktree.{Worktree}
use Rattle.fetch_lines.specs.Talks.{Talk}
use Rattle.fetch_map.specs.declared.mapping.RefMap.{RefMap}
use Rattle.fetch_conversation.specs.declared.fetch.Error.{Error as ReceiveError}
use Rattle.fetch_conversation.specs.declared.fetch.Error.TheVariants as fetch
use Rattle.fetch_remote.specs.Connecting.{TakesBack}
use Rattle.fetch_remote.specs.Errors.{is_free, receiving as fetch_refusal}
use Rattle.fetch_remote.specs.Fetched.{IsFetched}
use Rattle.fetch_remote.specs.Form.{Given}
use Rattle.fetch_remote.specs.Keeping.{with_keep}
use Rattle.fetch_remote.specs.Refused.{IsRefused}
use Rattle.fetch_remote.specs.Remotes.{RemoteValue}
use Rattle.fetch_remote.specs.Repositories.{State, in_force}
use Rattle.fetch_remote.specs.RepositoryValues.{RepositoryValue, Setup, resolved_of}
use Rattle.fetch_remote.specs.Stages.{inquiry_of}
use Rattle.fetch_remote.specs.Valid.{HasValidInput}
use Rattle.fetch_remote.specs.Steps.{HasListed}
use Rattle.fetch_remote.specs.declared.fetching.options.FetchOptions.{FetchOptions}
use Rattle.fetch_remote.specs.declared.fetching.outcome.Outcome.{Outcome}
use Rattle.fetch_remote.specs.declared.fetching.prepared.Prepared.{Prepared}
use Rattle.fetch_remote.specs.declared.repository.Resolved.{Resolved}
use Rattle.fetch_remote.specs.declared.repository.open_error.OpenError.{OpenError}
use Rattle.fetch_init.specs.HeadTargets.{revision_id}
use Rattle.fetch_clone.specs.Hashed.{IsHashed, IsUnhashed}
use Rattle.fetch_init.specs.Mapped.{IsMeant, IsUnmappedRevision, IsUnmeant}
use Rattle.fetch_init.specs.Refusals.{receiving, reopening}
use Rattle.fetch_clone.specs.declared.choices.CloneTarget.{CloneTarget}
use Rattle.fetch_clone.specs.declared.choices.CloneTarget.TheVariants.{Everything, RefName, Revision}
use Rattle.fetch_init.specs.declared.clone.fetch.Error.{Error}
use Rattle.fetch_init.specs.declared.clone.fetch.Error.TheVariants as errors
use Rattle.fetch_clone.specs.declared.clone_state.CloneState.{CloneState}

-- ---- what is fetched by

-- what reflogs say
abbrev pub message_of : CloneState → List ℕ
message_of draft = codes "clone: from " ++ draft.url

-- References are written packed, reflogs say where the clone is from, and the depth changes as the clone was asked.
abbrev pub options_of : CloneState → FetchOptions → FetchOptions
options_of draft options = record options {
  write_packed_refs_only = true;
  reflog_message = Some (Override (message_of draft));
  shallow = draft.choices.shallow;
}

-- what the fetch is given
abbrev pub given : CloneState → RemoteValue → Prepared → Setup → Given
given draft remote prepared setup = record { remote = remote; options = options_of draft prepared.options; setup = setup }

-- ---- what is mapped

-- The ref name means one of the mapped references; the revision is mapped.
abbrev pub IsMapped : CloneTarget → RefMap → Type 0
IsMapped Everything map = ⊤
IsMapped (RefName name) map = IsMeant name map
IsMapped (Revision spec) map = is_some (revision_id map spec) ≡ true

-- Nothing that is mapped is meant by the ref name, or there are several; the revision isn't mapped.
abbrev pub IsUnmappedFor : CloneTarget → RefMap → Error → Type 0
IsUnmappedFor Everything map e = ⊥
IsUnmappedFor (RefName name) map e = IsUnmeant name map e
IsUnmappedFor (Revision spec) map e = IsUnmappedRevision spec map e

-- the same, unless memory ran out
abbrev pub IsUnmapped : CloneTarget → RefMap → Error → Type 0
IsUnmapped wanted map e = (e ≡ errors.NoMemory) ⊎ IsUnmappedFor wanted map e

-- ---- the hash, and the file that is read again for it

-- The file was resolved with the base and the overrides of this setup.
abbrev pub IsResolvedIn : Setup → Option Resolved → Type 0
IsResolvedIn setup None = ⊤
IsResolvedIn setup (Some reread) = resolved_of setup.base reread.file setup.overrides ≡ Some reread.config

-- the setup, with the file in force that was read again
abbrev pub with_reread : Setup → Option Resolved → Setup
with_reread setup None = setup
with_reread setup (Some reread) = in_force setup reread.file reread.config

-- What is wanted is mapped, and the repository stands as it is asked from: it took the remote's hash, where it was to.
pub record IsReady (files files_left : Option Tree) (draft : CloneState) (prepared : Prepared) (found asked : RepositoryValue)
    (reread : Option Resolved) : Type 0 where
  pub mapped : IsMapped draft.choices.wanted prepared.listed.ref_map
  pub hashed : IsHashed files files_left prepared.listed.ref_map.object_hash found asked reread

-- ---- what is received

-- What was listed was fetched, once all was ready, and then the file was put in force that was read again.
pub record IsReceived (answers : Bool) (old new : Option Talk) (known : Option (List Worktree)) (files files_left : Option Tree)
    (draft : CloneState) (remote : RemoteValue) (prepared : Prepared) (found repo : RepositoryValue) (outcome : Outcome) : Type 0 where
  pub asked : RepositoryValue
  pub written : Option Tree
  pub reread : Option Resolved
  pub ready : IsReady files written draft prepared found asked reread
  pub fetched : IsFetched answers old new known written files_left (given draft remote prepared asked.setup) asked.state repo.state outcome
  pub setup : repo.setup ≡ with_reread asked.setup reread

-- What is wanted isn't mapped, or memory ran out before anything was changed: all is as found.
pub record IsNotMapped (files files_left : Option Tree) (draft : CloneState) (prepared : Prepared) (found repo : RepositoryValue)
    (e : Error) : Type 0 where
  pub why : IsUnmapped draft.choices.wanted prepared.listed.ref_map e
  pub repository : repo ≡ found
  pub tree : files_left ≡ files

-- What is wanted is mapped, and the remote's hash couldn't be taken: the repository is as found.
pub record IsNotHashed (may_fail : Bool) (files files_left : Option Tree) (draft : CloneState) (prepared : Prepared)
    (found repo : RepositoryValue) (e : Error) : Type 0 where
  pub mapped : IsMapped draft.choices.wanted prepared.listed.ref_map
  pub why : IsUnhashed may_fail files files_left prepared.listed.ref_map.object_hash found e
  pub repository : repo ≡ found

-- The fetch was refused, for a cause that is told.
pub record IsFetchRefused (answers : Bool) (old new : Option Talk) (known : Option (List Worktree)) (may_fail : Bool)
    (files files_left : Option Tree) (g : Given) (before after : State) (e : Error) : Type 0 where
  pub cause : ReceiveError
  pub told : e ≡ receiving cause
  pub refused : IsRefused answers old new known files files_left g before after (fetch_refusal cause)
  -- Valid input is refused for what has a count or nothing in place of a cause alone.
  pub complete : HasValidInput old new known g before → is_free (fetch_refusal cause) ≡ true
  -- Files that fail at nothing by themselves have something in the way of a keep file, and remove each one that they told.
  pub in_the_way : (path : List ℕ) → cause ≡ fetch.KeepFile path → IsBlocked may_fail files (with_keep (Some path))
  pub removable : (path : List ℕ) → cause ≡ fetch.RemovePackKeepFile path → may_fail ≡ false → files ≡ None

-- All was ready, and what was listed wasn't fetched; then too the file was put in force that was read again.
pub record IsUnfetched (answers : Bool) (old new : Option Talk) (known : Option (List Worktree)) (may_fail : Bool)
    (files files_left : Option Tree) (draft : CloneState) (remote : RemoteValue) (prepared : Prepared) (found repo : RepositoryValue)
    (e : Error) : Type 0 where
  pub asked : RepositoryValue
  pub written : Option Tree
  pub reread : Option Resolved
  pub ready : IsReady files written draft prepared found asked reread
  pub unfetched : IsFetchRefused answers old new known may_fail written files_left (given draft remote prepared asked.setup)
      asked.state repo.state e
  pub setup : repo.setup ≡ with_reread asked.setup reread

-- Why nothing is received, in the order of the steps.
pub record IsUnreceived (answers : Bool) (old new : Option Talk) (known : Option (List Worktree)) (may_fail : Bool)
    (files files_left : Option Tree) (draft : CloneState) (remote : RemoteValue) (prepared : Prepared) (found repo : RepositoryValue)
    (e : Error) : Type 0 where
  pub by : IsNotMapped files files_left draft prepared found repo e
      ⊎ (IsNotHashed may_fail files files_left draft prepared found repo e
      ⊎ IsUnfetched answers old new known may_fail files files_left draft remote prepared found repo e)

-- The refusal is of what is mapped, of the hash, or one of a fetch.
abbrev pub IsOfReceiving : CloneTarget → RefMap → Error → Type 0
IsOfReceiving wanted map e = IsUnmapped wanted map e
    ⊎ (((cause : OpenError) × (e ≡ reopening cause)) ⊎ ((cause : ReceiveError) × (e ≡ receiving cause)))

-- ---- the peer

-- The references were listed by a peer that stood so before it was asked.
abbrev pub WasListed : Bool → Option Talk → Option Talk → RemoteValue → Setup → Prepared → Type 0
WasListed answers begun now remote setup prepared =
    HasListed answers begun now (inquiry_of remote setup.settings prepared.options.map) prepared.listed

-- What was listed was fetched, from a peer that stood so before it was asked for references; and the peer was taken back.
pub record IsTaken {P : Type 0} (told : P → Option Talk) (answers : Bool) (begun : Option Talk) (before after : Option (List P))
    (known : Option (List Worktree)) (files files_left : Option Tree) (draft : CloneState) (remote : RemoteValue) (prepared : Prepared)
    (found repo : RepositoryValue) (outcome : Outcome) : Type 0 where
  pub last : P
  pub received : IsReceived answers begun (told last) known files files_left draft remote prepared found repo outcome
  pub returned : TakesBack before after last

-- Nothing was received; and the peer was taken back.
pub record IsNotTaken {P : Type 0} (told : P → Option Talk) (answers : Bool) (begun : Option Talk) (before after : Option (List P))
    (known : Option (List Worktree)) (may_fail : Bool) (files files_left : Option Tree) (draft : CloneState) (remote : RemoteValue)
    (prepared : Prepared) (found repo : RepositoryValue) (e : Error) : Type 0 where
  pub last : P
  pub why : IsUnreceived answers begun (told last) known may_fail files files_left draft remote prepared found repo e
  pub returned : TakesBack before after last
