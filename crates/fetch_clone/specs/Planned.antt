-- The remote that a clone fetches by, as it is to be saved.
use Rattle.std.specs.Prelude.{◌≡◌, ◌⊎◌, ℕ, not, List, [], ◌∷◌, ◌++◌, find, Option, Some, None, ⊤, Result, Ok, Err}
use Rattle.fetch_base.specs.Faults.{Faults}
use Rattle.fetch_specs.specs.Parses.{parsed}
use Rattle.fetch_specs.specs.Specs.{Spec}
use Rattle.fetch_specs.specs.declared.operation.Operation.TheVariants.{Fetch}
use Rattle.fetch_specs.specs.declared.tags.Tags.TheVariants as tags
use Rattle.fetch_lookup.specs.Names.{IsNameRefusal, name_refusal}
use Rattle.fetch_remote.specs.Overriding.{overridden}
use Rattle.fetch_remote.specs.Remotes.{RemoteValue, nameless}
use Rattle.fetch_remote.specs.RepositoryValues.{RepositoryValue, is_override}
use Rattle.fetch_clone.specs.Reached.{Ways, Line}
use Rattle.fetch_clone.specs.Stages.{remote_name}
use Rattle.fetch_clone.specs.Targets.{HasTarget, HasNoTarget}
use Rattle.fetch_create.specs.RemoteNames.{spec_text}
use Rattle.fetch_clone.specs.declared.choices.CloneTarget.{CloneTarget}
use Rattle.fetch_clone.specs.declared.choices.CloneTarget.TheVariants.{Everything, RefName, Revision}
use Rattle.fetch_init.specs.declared.clone.fetch.Error.{Error}
use Rattle.fetch_init.specs.declared.clone.fetch.Error.TheVariants as errors
use Rattle.fetch_clone.specs.declared.clone_state.CloneState.{CloneState}
use Rattle.fetch_clone.specs.declared.prepare_fetch.ConfigureFault.{ConfigureFault}
use Rattle.fetch_clone.specs.declared.prepare_fetch.ConfigureFault.TheVariants as faults

-- ---- overrides

-- the overrides that the repository was opened with, and then those of the clone
abbrev pub overrides_of : CloneState → List (List ℕ)
overrides_of draft = draft.opened ++ draft.choices.overrides

-- The first override that isn't one is told.
abbrev pub IsUnoverridden : List (List ℕ) → Error → Type 0
IsUnoverridden texts (errors.ParseConfig text) = find (λ t. not (is_override t)) texts ≡ Some text
IsUnoverridden texts errors.NoMemory = ⊤
IsUnoverridden texts e = ⊥

-- ---- the name

-- Why the remote can't be called so.
abbrev pub IsUnnamed : List ℕ → Error → Type 0
IsUnnamed name (errors.RemoteName e) = IsNameRefusal name e
IsUnnamed name errors.NoMemory = ⊤
IsUnnamed name e = ⊥

-- ---- the remote

-- a remote at this address, by one refspec
pub record IsBySpec (url text : List ℕ) (remote : RemoteValue) : Type 0 where
  pub spec : Spec
  pub says : parsed Fetch text ≡ Ok spec
  pub is : remote ≡ nameless (url ∷ []) (spec ∷ []) tags.Included

-- The remote that the closure is given: at the clone's address, by the refspec of the target or of all branches; for a revision
-- by none.
abbrev pub IsProposedFor : CloneTarget → List ℕ → List ℕ → Option (List ℕ) → RemoteValue → Type 0
IsProposedFor (Revision spec) url name target remote = remote ≡ nameless (url ∷ []) [] tags.Included
IsProposedFor Everything url name target remote = IsBySpec url (spec_text name target) remote
IsProposedFor (RefName wanted) url name target remote = IsBySpec url (spec_text name target) remote

-- The remote that the closure is given, as the draft asks for it.
abbrev pub IsProposed : CloneState → List ℕ → Option (List ℕ) → RemoteValue → Type 0
IsProposed draft name target remote = IsProposedFor draft.choices.wanted draft.url name target remote

-- without refspecs to fetch by, and without tags
abbrev pub unspecified : RemoteValue → RemoteValue
unspecified remote = record remote { fetch_specs = []; tags = tags.None }

-- For a revision the refspecs go, and no tags are fetched.
abbrev pub restricted : CloneTarget → RemoteValue → RemoteValue
restricted (Revision spec) remote = unspecified remote
restricted Everything remote = remote
restricted (RefName wanted) remote = remote

-- ---- the name and the target

-- The overrides are in force, the remote has a valid name, and its target is told.
pub record IsNamed {G P : Type 0} (w : Ways G P) (before after : Line G P) (draft : CloneState) (found repo : RepositoryValue)
    (name : List ℕ)
    (target : Option (List ℕ)) : Type 0 where
  pub state : repo.state ≡ found.state
  pub overridden : overridden found.setup (overrides_of draft) ≡ Some repo.setup
  pub called : name ≡ remote_name draft.choices repo.setup.settings.config
  pub accepted : name_refusal name ≡ None
  pub targeted : HasTarget w before after draft repo target

-- An override isn't one, and all is as before.
pub record IsOverrideRefused {G P : Type 0} (before after : Line G P) (draft : CloneState) (found repo : RepositoryValue)
    (e : Error) : Type 0 where
  pub why : IsUnoverridden (overrides_of draft) e
  pub state : repo.state ≡ found.state
  pub setup : repo.setup ≡ found.setup
  pub same : after ≡ before

-- The overrides are in force, and the remote can't be called so.
pub record HasBadName {G P : Type 0} (before after : Line G P) (draft : CloneState) (found repo : RepositoryValue)
    (e : Error) : Type 0 where
  pub state : repo.state ≡ found.state
  pub overridden : overridden found.setup (overrides_of draft) ≡ Some repo.setup
  pub why : IsUnnamed (remote_name draft.choices repo.setup.settings.config) e
  pub same : after ≡ before

-- The remote has a name, and no target is told.
pub record IsWithoutTarget {G P : Type 0} (w : Ways G P) (was is : Faults) (before after : Line G P) (draft : CloneState)
    (found repo : RepositoryValue) (e : Error) : Type 0 where
  pub state : repo.state ≡ found.state
  pub overridden : overridden found.setup (overrides_of draft) ≡ Some repo.setup
  pub accepted : name_refusal (remote_name draft.choices repo.setup.settings.config) ≡ None
  pub why : HasNoTarget w was is before after draft repo e

-- An override isn't one; or the remote can't be called so; or no target is told.
pub record IsNotNamed {G P : Type 0} (w : Ways G P) (was is : Faults) (before after : Line G P) (draft : CloneState)
    (found repo : RepositoryValue) (e : Error) : Type 0 where
  pub by : IsOverrideRefused before after draft found repo e
      ⊎ (HasBadName before after draft found repo e ⊎ IsWithoutTarget w was is before after draft found repo e)

-- ---- the closure for the remote

-- what the closure for remotes, called once, answered of a remote
abbrev pub Answering : Type 1
Answering = RemoteValue → Result RemoteValue ConfigureFault → Type 0

-- The closure agreed to the remote that was proposed, and answered the one that is to be saved.
pub record IsChosen (answers : Answering) (draft : CloneState) (name : List ℕ) (target : Option (List ℕ))
    (remote : RemoteValue) : Type 0 where
  pub proposed : RemoteValue
  pub proposes : IsProposed draft name target proposed
  pub answer : RemoteValue
  pub agreed : answers proposed (Ok answer)
  pub restricts : remote ≡ restricted draft.choices.wanted answer

-- The closure refused the remote that was proposed.
pub record IsTurnedDown (answers : Answering) (draft : CloneState) (name : List ℕ) (target : Option (List ℕ)) (text : List ℕ) : Type 0 where
  pub proposed : RemoteValue
  pub proposes : IsProposed draft name target proposed
  pub refused : answers proposed (Err (faults.Refused text))

-- Why no remote was chosen: the closure refused, or memory ran out.
abbrev pub IsUnchosen : Answering → CloneState → List ℕ → Option (List ℕ) → Error → Type 0
IsUnchosen answers draft name target (errors.RemoteConfiguration text) = IsTurnedDown answers draft name target text
IsUnchosen answers draft name target errors.NoMemory = ⊤
IsUnchosen answers draft name target e = ⊥
