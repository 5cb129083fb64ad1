-- A clone that was prepared: an empty repository, and what is asked of it.
use Rattle.std.specs.Prelude.{◌≡◌, ℕ, ◌==◌, ◌||◌, Bool, true, false, ◌⊎◌, List, [], ◌∷◌, Option, Some, None, IfSome, is_some, unwrap_or}
use Rattle.std.specs.Prelude.{if◌then◌else◌}
use Rattle.std.specs.List.{list_any}
use Rattle.fetch_files.specs.FileCalls.{IsRefused}
use Rattle.fetch_base.specs.Faults.{Faults, Counts, Rose}
use Rattle.fetch_files.specs.Paths.{parts_of}
use Rattle.fetch_files.specs.Trees.{Tree, without_all}
use Rattle.fetch_refs.specs.declared.log.Signature.{Signature}
use Rattle.fetch_remote.specs.Finding.{is_no_address}
use Rattle.fetch_remote.specs.declared.repository.OpenOptions.{OpenOptions}
use Rattle.fetch_clone.specs.Choices.{plain}
use Rattle.fetch_create.specs.Creation.{Reaches, TellsStill, listed_in}
use Rattle.fetch_init.specs.Initial.{IsInitial, IsInitRefusal, is_init_fault, new_of}
use Rattle.fetch_create.specs.Plans.{steps_of}
use Rattle.fetch_init.specs.declared.clone.Error.{Error}
use Rattle.fetch_init.specs.declared.clone.Error.TheVariants.{Url, Init, NoMemory}
use Rattle.fetch_clone.specs.declared.choices.Choices.{Choices}
use Rattle.fetch_create.specs.declared.create.Kind.{Kind as Layout}
use Rattle.fetch_create.specs.declared.create.Options.{Options}
use Rattle.fetch_clone.specs.declared.clone_state.CloneState.{CloneState}
use Rattle.fetch_clone.specs.declared.clone_state.Making.{Making}
use Rattle.fetch_init.specs.declared.init.Error.{Error as InitError}
use Rattle.fetch_init.specs.declared.init.Error.TheVariants as initial

-- whether a text has a NUL or a line feed
abbrev pub has_nul_or_feed : List ℕ → Bool
has_nul_or_feed text = list_any (λ b. b == 0) text || list_any (λ b. b == 10) text

-- nothing stands there, or a directory without an entry
abbrev pub is_free : Option (Option (List (List ℕ))) → Bool
is_free None = false
is_free (Some None) = true
is_free (Some (Some [])) = true
is_free (Some (Some (name ∷ names))) = false

-- Before anything is made it is noted whether the place is free; where the listing failed, which its count tells, it isn't.
abbrev pub IsNoted : Faults → Faults → Option Tree → List ℕ → Bool → Type 0
IsNoted was is before place free = ((is.count ≡ was.count) × IfSome before (λ t. free ≡ is_free (listed_in t place)))
    ⊎ ((free ≡ false) × Rose was is)

-- A clone's place has to be empty, unless the options say otherwise.
abbrev pub strict : Options → Options
strict options = record options { destination_must_be_empty = Some (unwrap_or options.destination_must_be_empty true) }

-- A draft has the repository that was created at its place.
pub record HasNewRepository (place : List ℕ) (making : Making) (now : Option Tree) (draft : CloneState) : Type 0 where
  -- It was opened.
  pub opened : is_some draft.repo ≡ true
  -- It is the one that a creation leaves there.
  pub repo : IfSome draft.repo (IsInitial now (new_of place making.kind (strict making.options) making.committer making.open_options))
  -- The overrides that it was opened with are noted.
  pub overrides : IfSome draft.repo (λ r. draft.opened ≡ r.setup.overrides)

-- A draft is of this address and place, and nothing is chosen yet.
pub record IsUnchosen (url place : List ℕ) (draft : CloneState) : Type 0 where
  -- It is of this address.
  pub url_kept : draft.url ≡ url
  -- It is of this place.
  pub place_kept : draft.place ≡ place
  -- No builder has chosen anything.
  pub choices : draft.choices ≡ plain
  -- No closure for the remote is set.
  pub unset : draft.configures_remote ≡ false

-- The place was noted, and an empty repository was created and opened there.
pub record IsPrepared (was is : Faults) (before : Option Tree) (url place : List ℕ) (making : Making) (now : Option Tree)
    (draft : CloneState) : Type 0 where
  -- The address is one.
  pub address : is_no_address url ≡ false
  -- The files had failed so often once the place was noted.
  pub failed : Faults
  -- The draft tells whether the place was free.
  pub noted : IsNoted was failed before place draft.free
  -- The files' count stayed or rose while the repository was made.
  pub later : Counts failed is
  -- All steps of its creation were made.
  pub created : Reaches before (steps_of place making.kind (strict making.options)) now
  -- The draft has the repository.
  pub found : HasNewRepository place making now draft
  -- The draft is at its beginning.
  pub begun : IsUnchosen url place draft

-- The place was noted, and no repository was created or opened there.
pub record IsUnprepared (was is : Faults) (may_fail : Bool) (before : Option Tree) (place : List ℕ) (making : Making) (now : Option Tree)
    (e : InitError) : Type 0 where
  pub free : Bool
  pub failed : Faults
  pub noted : IsNoted was failed before place free
  pub later : Counts failed is
  pub why : IsInitRefusal may_fail before (steps_of place making.kind (strict making.options))
      (new_of place making.kind (strict making.options) making.committer making.open_options) now e

-- Why a clone wasn't prepared: its address is none, and then nothing was asked of the files; or the repository wasn't created
-- or opened.
abbrev pub IsPrepareRefusal : Faults → Faults → Bool → Option Tree → List ℕ → List ℕ → Making → Option Tree → Error → Type 0
IsPrepareRefusal was is may_fail before url place making now Url = (is_no_address url ≡ true) × (now ≡ before)
IsPrepareRefusal was is may_fail before url place making now (Init initial.NoMemory) = ⊥
IsPrepareRefusal was is may_fail before url place making now (Init e) = (is_no_address url ≡ false)
    × IsUnprepared was is may_fail before place making now e
IsPrepareRefusal was is may_fail before url place making now NoMemory = TellsStill before now

-- whether the cause is a fault of the files
abbrev pub is_clone_fault : Error → Bool
is_clone_fault Url = false
is_clone_fault (Init e) = is_init_fault e
is_clone_fault NoMemory = false

-- ---- giving up

-- Without success the place is removed where it was free.
abbrev pub is_removed : CloneState → Bool
is_removed draft = if draft.free then is_some draft.repo else false

-- The removal was asked for: the place is gone with all that is in it.
abbrev pub IsGone : Option Tree → List ℕ → Option Tree → Type 0
IsGone before place now = TellsStill before now × IfSome before (λ t. without_all t (parts_of place) ≡ now)

-- The removal was refused, and all stays: its fault is counted, and something is in the way, unless the files fail by themselves.
abbrev pub IsNotGone : Faults → Faults → Bool → Option Tree → List ℕ → Option Tree → Type 0
IsNotGone was is may_fail before place now = Rose was is
    × ((now ≡ before) × IsRefused may_fail before (λ t. without_all t (parts_of place)))

-- The place is gone, or its removal was refused.
abbrev pub IsRemoved : Faults → Faults → Bool → Option Tree → List ℕ → Option Tree → Type 0
IsRemoved was is may_fail before place now = IsGone before place now ⊎ IsNotGone was is may_fail before place now

-- ---- a prepared clone

-- how a repository is created and opened
abbrev pub making_of : Layout → Options → OpenOptions → Signature → Making
making_of kind options opened committer = record { kind = kind; options = options; open_options = opened; committer = committer }

-- a clone with other choices
abbrev pub with_choices : CloneState → Choices → CloneState
with_choices draft choices = record draft { choices = choices }

-- the same without its repository
abbrev pub without_repo : CloneState → CloneState
without_repo draft = record draft { repo = None }
