-- The reference that a clone of another depth is of, as a first connection lists it.
use Rattle.std.specs.Prelude.{◌≡◌, ◌⊎◌, ℕ, Bool, true, false, List, [], ◌∷◌, codes, Option, Some, None, is_some, unwrap_or, Result, Ok, ⊤}
use Rattle.fetch_base.specs.Faults.{Faults}
use Rattle.fetch_specs.specs.Parses.{parsed}
use Rattle.fetch_map.specs.declared.mapping.RefMap.{RefMap}
use Rattle.fetch_specs.specs.Specs.{Spec}
use Rattle.fetch_specs.specs.declared.operation.Operation.TheVariants.{Fetch}
use Rattle.fetch_specs.specs.declared.tags.Tags.TheVariants as tags
use Rattle.fetch_conversation.specs.ListStage.{LsRefsValue, ListedValue}
use Rattle.fetch_conversation.specs.declared.ref_map.Error.{Error as MapError}
use Rattle.fetch_conversation.specs.declared.ref_map.Options.{Options}
use Rattle.fetch_conversation.specs.declared.settings.Settings.{Settings}
use Rattle.fetch_remote.specs.Remotes.{RemoteValue, nameless}
use Rattle.fetch_remote.specs.RepositoryValues.{State, Setup, RepositoryValue}
use Rattle.fetch_remote.specs.Stages.{inquiry_of}
use Rattle.fetch_remote.specs.Steps.{HasInquired, IsUninquired}
use Rattle.fetch_init.specs.HeadUpdates.{LacksHeadTarget, head_target_of}
use Rattle.fetch_clone.specs.Heeded.{IsHeededOver}
use Rattle.fetch_clone.specs.Reached.{Ways, Line, IsReached, IsReturned, IsTurnedAway, IsUnreached}
use Rattle.fetch_clone.specs.Stages.{lists_first, ref_name_of}
use Rattle.fetch_init.specs.Refusals.{listing}
use Rattle.fetch_init.specs.declared.head_target.HeadTarget.{HeadTarget}
use Rattle.fetch_init.specs.declared.head_target.HeadTarget.TheVariants.{Nothing, Id, Name}
use Rattle.fetch_init.specs.declared.head_target.HeadError.{HeadError}
use Rattle.fetch_clone.specs.declared.choices.Choices.{Choices}
use Rattle.fetch_init.specs.declared.clone.fetch.Error.{Error}
use Rattle.fetch_init.specs.declared.clone.fetch.Error.TheVariants as errors
use Rattle.fetch_clone.specs.declared.clone_state.CloneState.{CloneState}

-- ---- what is asked

-- the nameless remote at an address, without refspecs and tags
abbrev pub bare : List ℕ → RemoteValue
bare url = nameless (url ∷ []) [] tags.None

-- the text of the refspec of the first listing: the ref name, or `HEAD`
abbrev pub first_text : Choices → List ℕ
first_text choices = unwrap_or (ref_name_of choices.wanted) (codes "HEAD")

-- the options of the first listing: one extra refspec, no parameters, filtered, with the bound that was given
abbrev pub first_options : Choices → Spec → Options
first_options choices spec = record {
  prefix_from_spec_as_filter_on_remote = true;
  handshake_parameters = [];
  extra_refspecs = spec ∷ [];
  max_reply_bytes = choices.options.max_reply_bytes;
}

-- These are the options of the first listing.
abbrev pub AreFirstOptions : Choices → Options → Type 0
AreFirstOptions choices options = (spec : Spec) × (parsed Fetch (first_text choices) ≡ Ok spec) × (options ≡ first_options choices spec)

-- what the first peer is asked
abbrev pub first_inquiry : List ℕ → Choices → Settings → Spec → LsRefsValue
first_inquiry url choices settings spec = inquiry_of (bare url) settings (first_options choices spec)

-- ---- what is found

-- the name that is aimed at, where one is
abbrev pub name_in : HeadTarget → Option (List ℕ)
name_in Nothing = None
name_in (Id id) = None
name_in (Name name id) = Some name

-- This name is aimed at, where one is.
abbrev pub IsHeadTarget : Result HeadTarget HeadError → Option (List ℕ) → Type 0
IsHeadTarget found target = (head_target : HeadTarget) × (found ≡ Ok head_target) × (target ≡ name_in head_target)

-- the name that a ref name means, where it is no full name, has a refusal of its own
abbrev pub told_again : Bool → Error → Error
told_again true (errors.InvalidHeadRef name) = errors.ReferenceName name
told_again is_named e = e

-- A peer was reached, was asked for this, and was taken back.
pub record IsAsked {G P : Type 0} (w : Ways G P) (before after : Line G P) (url : List ℕ) (choices : Choices) : Type 0 where
  pub spec : Spec
  pub says : parsed Fetch (first_text choices) ≡ Ok spec
  pub between : Line G P
  pub peer : P
  pub reached : IsReached w (Some url) before between peer
  pub last : P
  pub returned : IsReturned between after last

-- The references were listed.
pub record HasListedFirst {G P : Type 0} (w : Ways G P) (before after : Line G P) (draft : CloneState) (setup : Setup)
    (listed : ListedValue) : Type 0 where
  pub asked : IsAsked w before after draft.url draft.choices
  pub heard : HasInquired w.answers (w.told asked.peer) (w.told asked.last)
      (first_inquiry draft.url draft.choices setup.settings asked.spec) listed

-- what the listing aims at
abbrev pub first_head_target : CloneState → State → ListedValue → Result HeadTarget HeadError
first_head_target draft state listed = head_target_of state listed.ref_map (ref_name_of draft.choices.wanted) None

-- The references were listed, and this name is aimed at.
pub record HasHeadTarget {G P : Type 0} (w : Ways G P) (before after : Line G P) (draft : CloneState) (repo : RepositoryValue)
    (target : Option (List ℕ)) : Type 0 where
  pub listed : ListedValue
  pub heard : HasListedFirst w before after draft repo.setup listed
  pub head_target : HeadTarget
  pub head_target_is : first_head_target draft repo.state listed ≡ Ok head_target
  pub tells : target ≡ name_in head_target

-- Nothing is asked where the references aren't listed before.
abbrev pub HasTargetBy : {G P : Type 0} → Bool → Ways G P → Line G P → Line G P → CloneState → RepositoryValue → Option (List ℕ) → Type 0
HasTargetBy false w before after draft repo target = (after ≡ before) × (target ≡ None)
HasTargetBy true w before after draft repo target = HasHeadTarget w before after draft repo target

-- The target of a clone, where one is told before.
pub record HasTarget {G P : Type 0} (w : Ways G P) (before after : Line G P) (draft : CloneState) (repo : RepositoryValue)
    (target : Option (List ℕ)) : Type 0 where
  pub by : HasTargetBy (lists_first draft.choices) w before after draft repo target

-- Where a first peer listed, the interrupt said no before each receive of that peer.
abbrev pub HeedsBy : {G P : Type 0} → (ℕ → Type 0) → (ℕ → Type 0) → (first : Bool) → (w : Ways G P) → (before after : Line G P)
    → (draft : CloneState) → (repo : RepositoryValue) → (target : Option (List ℕ))
    → HasTargetBy first w before after draft repo target → Type 0
HeedsBy will will' false w before after draft repo target t = ⊤
HeedsBy will will' true w before after draft repo target t = IsHeededOver will will' (w.told t.heard.asked.peer) (w.told t.heard.asked.last)

-- the same of the target of a clone
pub record HeedsFirst {G P : Type 0} {w : Ways G P} {before after : Line G P} {draft : CloneState} {repo : RepositoryValue}
    {target : Option (List ℕ)} (will will' : ℕ → Type 0) (t : HasTarget w before after draft repo target) : Type 0 where
  pub heeds : HeedsBy will will' (lists_first draft.choices) w before after draft repo target t.by

-- ---- why there is none

-- The listing broke off.
pub record IsUnlisted {G P : Type 0} (w : Ways G P) (before after : Line G P) (draft : CloneState) (setup : Setup)
    (e : MapError) : Type 0 where
  pub asked : IsAsked w before after draft.url draft.choices
  pub broke : IsUninquired w.answers (w.told asked.peer) (w.told asked.last)
      (first_inquiry draft.url draft.choices setup.settings asked.spec) e

-- What is aimed at is refused; the name that a ref name means, where it is no full name, has a refusal of its own.
abbrev pub IsHeadTargetRefusedBy : State → RefMap → Option (List ℕ) → Error → Type 0
IsHeadTargetRefusedBy s map ref_name e = (cause : Error) × LacksHeadTarget s map ref_name None cause
    × (e ≡ told_again (is_some ref_name) cause)

-- The references were listed, and what they aim at is refused.
pub record IsHeadTargetRefused {G P : Type 0} (w : Ways G P) (before after : Line G P) (draft : CloneState) (repo : RepositoryValue)
    (e : Error) : Type 0 where
  pub listed : ListedValue
  pub heard : HasListedFirst w before after draft repo.setup listed
  pub why : IsHeadTargetRefusedBy repo.state listed.ref_map (ref_name_of draft.choices.wanted) e

-- Why there is no target, where the references are listed before: no peer was reached; or it didn't list; or what it lists is
-- refused.
abbrev pub IsUntargeted : {G P : Type 0} → Ways G P → Faults → Faults → Line G P → Line G P → CloneState → RepositoryValue → Error → Type 0
IsUntargeted w was is before after draft repo e =
    IsUnreached (IsTurnedAway w (Some draft.url) before after) (after ≡ before) was is (Some draft.url) e
    ⊎ (((cause : MapError) × (e ≡ listing cause) × IsUnlisted w before after draft repo.setup cause)
    ⊎ IsHeadTargetRefused w before after draft repo e)

-- the same, and the references are listed before
pub record HasNoTarget {G P : Type 0} (w : Ways G P) (was is : Faults) (before after : Line G P) (draft : CloneState)
    (repo : RepositoryValue)
    (e : Error) : Type 0 where
  pub first : lists_first draft.choices ≡ true
  pub why : IsUntargeted w was is before after draft repo e
