-- The references that a clone fetches, as they are listed, and the peer that listed them.
use Rattle.std.specs.Prelude.{◌≡◌, ◌⊎◌, ℕ, Bool, true, false, not, ◌&&◌, List, [], ◌∷◌, ◌++◌, codes, filter, if◌then◌else◌, Option, Some}
use Rattle.std.specs.Prelude.{None, slice_get, Ok}
use Rattle.std.specs.List.{list_any}
use Rattle.std.specs.Str.{bytes_eq}
use Rattle.fetch_base.specs.Faults.{Faults, Counts}
use Rattle.fetch_update.specs.Policy.{is_forced}
use Rattle.fetch_lines.specs.Talks.{Talk}
use Rattle.fetch_specs.specs.Parses.{parsed}
use Rattle.fetch_specs.specs.Specs.{Spec}
use Rattle.fetch_specs.specs.declared.conflict.Conflict.{Conflict}
use Rattle.fetch_specs.specs.declared.operation.Operation.TheVariants.{Fetch}
use Rattle.fetch_conversation.specs.ListStage.{LsRefsValue}
use Rattle.fetch_conversation.specs.declared.prepare.Error.{Error as PrepareError}
use Rattle.fetch_conversation.specs.declared.prepare.Error.TheVariants as prepare
use Rattle.fetch_conversation.specs.declared.ref_map.Error.TheVariants as ref_map
use Rattle.fetch_conversation.specs.declared.ref_map.Options.{Options}
use Rattle.fetch_remote.specs.Connecting.{Makes, MakesAtFirst, TakesBack}
use Rattle.fetch_remote.specs.Remotes.{RemoteValue}
use Rattle.fetch_remote.specs.RepositoryValues.{Setup}
use Rattle.fetch_remote.specs.Stages.{inquiry_of}
use Rattle.fetch_remote.specs.Steps.{HasListed, BreaksOff, options_with}
use Rattle.fetch_remote.specs.declared.connect.Error.{Error as ConnectError}
use Rattle.fetch_remote.specs.declared.fetching.prepared.Prepared.{Prepared}
use Rattle.fetch_init.specs.HeadTargets.{is_same_side}
use Rattle.fetch_clone.specs.Reached.{Ways, Line, IsMade, IsReached, IsReturned, IsTurnedAway, IsUnreached}
use Rattle.fetch_clone.specs.Stages.{ref_name_of}
use Rattle.fetch_init.specs.Refusals.{preparing}
use Rattle.fetch_create.specs.RemoteNames.{tracking_of}
use Rattle.fetch_clone.specs.declared.choices.Choices.{Choices}
use Rattle.fetch_clone.specs.declared.choices.CloneTarget.{CloneTarget}
use Rattle.fetch_clone.specs.declared.choices.CloneTarget.TheVariants.{Everything, RefName, Revision}
use Rattle.fetch_init.specs.declared.clone.fetch.Error.{Error}

-- ---- the extra refspecs

-- where the remote's `HEAD` is kept
abbrev pub head_at : List ℕ → List ℕ
head_at name = tracking_of name (codes "HEAD")

-- the text of the refspec of the remote's `HEAD`, which is kept at this place
abbrev pub head_text : List ℕ → List ℕ
head_text place = codes "HEAD:" ++ place

-- whether a refspec is that of the remote's `HEAD`: one by force is the caller's own
abbrev pub is_head : List ℕ → Spec → Bool
is_head place spec = not (is_forced spec.mode)
    && (is_same_side spec.source (Some (codes "HEAD")) && is_same_side spec.destination (Some place))

-- These are the refspecs that a text says, where there is one.
abbrev pub Says : Option (List ℕ) → List Spec → Type 0
Says None specs = specs ≡ []
Says (Some text) specs = (spec : Spec) × (parsed Fetch text ≡ Ok spec) × (specs ≡ spec ∷ [])

-- Those are added.
abbrev pub Adds : Option (List ℕ) → List Spec → List Spec → Type 0
Adds text before after = (specs : List Spec) × Says text specs × (after ≡ before ++ specs)

-- the refspecs that were given; without the one of the remote's `HEAD` where that is left out
abbrev pub given_by : Bool → List ℕ → List Spec → List Spec
given_by true place specs = specs
given_by false place specs = filter (λ s. not (is_head place s)) specs

-- the refspec of the remote's `HEAD` is added, unless it is there or is left out
abbrev pub head_added : Bool → List ℕ → List Spec → Option (List ℕ)
head_added true place specs = if list_any (is_head place) specs then None else Some (head_text place)
head_added false place specs = None

-- those given, the one of the remote's `HEAD`, and then that of the ref name
pub record IsExtra (with_head : Bool) (place : List ℕ) (choices : Choices) (extra : List Spec) : Type 0 where
  pub heads : List Spec
  pub of_head : Says (head_added with_head place choices.options.extra_refspecs) heads
  pub names : List Spec
  pub of_name : Says (ref_name_of choices.wanted) names
  pub all : extra ≡ given_by with_head place choices.options.extra_refspecs ++ heads ++ names

-- For a revision it is that alone.
abbrev pub IsExtraFor : CloneTarget → Bool → List ℕ → Choices → List Spec → Type 0
IsExtraFor (Revision spec) with_head place choices extra = extra ≡ spec ∷ []
IsExtraFor Everything with_head place choices extra = IsExtra with_head place choices extra
IsExtraFor (RefName wanted) with_head place choices extra = IsExtra with_head place choices extra

-- These are the options of the clone, with the extra refspecs that it needs.
pub record AreOptions (with_head : Bool) (place : List ℕ) (choices : Choices) (options : Options) : Type 0 where
  pub extra : IsExtraFor choices.wanted with_head place choices options.extra_refspecs
  pub rest : options ≡ record choices.options { extra_refspecs = options.extra_refspecs }

-- ---- the listing

-- what the remote is asked
abbrev pub asked : RemoteValue → Setup → Options → LsRefsValue
asked remote setup options = inquiry_of remote setup.settings options

-- whether there is one conflict, and it is at this place
abbrev pub is_only_at : List ℕ → List Conflict → Bool
is_only_at place [] = false
is_only_at place (c ∷ []) = bytes_eq c.destination place
is_only_at place (c ∷ d ∷ cs) = false

-- whether all that stands against the listing is a conflict at this place
abbrev pub is_conflict_at : List ℕ → PrepareError → Bool
is_conflict_at place (prepare.RefMap (ref_map.InitRefMap conflicts)) = is_only_at place conflicts
is_conflict_at place e = false

-- what is listed for: the remote with its name, what the clone is asked for, and the setup of the repository
pub record Query : Type 0 where
  pub name : List ℕ
  pub choices : Choices
  pub remote : RemoteValue
  pub setup : Setup

-- a query of these parts
abbrev pub query : List ℕ → Choices → RemoteValue → Setup → Query
query name choices remote setup = record { name = name; choices = choices; remote = remote; setup = setup }

-- the address that the remote is fetched from
abbrev pub url_of : Query → Option (List ℕ)
url_of q = slice_get q.remote.urls 0

-- These are the options that the query asks by.
abbrev pub AreAsked : Bool → Query → Options → Type 0
AreAsked with_head q options = AreOptions with_head (head_at q.name) q.choices options

-- The listing broke off, asked by these options, of a peer that stood so before, and stands so.
pub record BreaksAt {P : Type 0} (told : P → Option Talk) (answers : Bool) (with_head : Bool) (q : Query) (first last : P)
    (e : PrepareError) : Type 0 where
  pub options : Options
  pub asks : AreAsked with_head q options
  pub broke : BreaksOff answers (told first) (told last) (asked q.remote q.setup options) e

-- The references were listed, asked by these options, by a peer that stood so before, and stands so.
pub record ListsAt {P : Type 0} (told : P → Option Talk) (answers : Bool) (with_head : Bool) (q : Query) (first last : P)
    (prepared : Prepared) : Type 0 where
  pub options : Options
  pub asks : AreAsked with_head q options
  pub listed : HasListed answers (told first) (told last) (asked q.remote q.setup options) prepared.listed
  pub usual : prepared.options ≡ options_with options

-- ---- the first peer

-- The listing of a peer that the closure agreed to broke off, and the peer was taken back.
pub record IsBroken {G P : Type 0} (w : Ways G P) (before after : Line G P) (q : Query) (e : PrepareError) : Type 0 where
  pub between : Line G P
  pub peer : P
  pub reached : IsReached w (url_of q) before between peer
  pub last : P
  pub broke : BreaksAt w.told w.answers true q peer last e
  pub returned : IsReturned between after last

-- There was a conflict on the remote's `HEAD` alone.
pub record IsConflicting {G P : Type 0} (w : Ways G P) (before after : Line G P) (q : Query) : Type 0 where
  pub cause : PrepareError
  pub conflict : is_conflict_at (head_at q.name) cause ≡ true
  pub broke : IsBroken w before after q cause

-- ---- the second peer, which is asked without the remote's `HEAD`, and without the closure

-- It was made, and listed the references.
pub record IsListedAgain {P : Type 0} (told : P → Option Talk) (answers : Bool) (left left_after taken taken_after : Option (List P))
    (addresses addresses_after : Option (List (List ℕ))) (q : Query) (peer : P) (prepared : Prepared) : Type 0 where
  pub first : P
  pub made : Makes {E = ConnectError} left left_after (Ok first)
  pub at : MakesAtFirst {E = ConnectError} (url_of q) addresses addresses_after (Ok first)
  pub kept : taken_after ≡ taken
  pub lists : ListsAt told answers false q first peer prepared

-- It was made, the listing broke off, and it was taken back.
pub record IsBrokenAgain {P : Type 0} (told : P → Option Talk) (answers : Bool) (left left_after taken taken_after : Option (List P))
    (addresses addresses_after : Option (List (List ℕ))) (q : Query) (e : PrepareError) : Type 0 where
  pub first : P
  pub made : Makes {E = ConnectError} left left_after (Ok first)
  pub at : MakesAtFirst {E = ConnectError} (url_of q) addresses addresses_after (Ok first)
  pub last : P
  pub broke : BreaksAt told answers false q first last e
  pub given : TakesBack taken taken_after last

-- ---- all of it

-- The first peer listed them; or there was that conflict, and the second did.
abbrev pub IsListedBy : {G P : Type 0} → Ways G P → Line G P → Line G P → Query → P → Prepared → Bool → P → Type 0
IsListedBy w before after q peer prepared true first = IsReached w (url_of q) before after first
    × ListsAt w.told w.answers true q first peer prepared
IsListedBy {G} {P} w before after q peer prepared false first =
    (between : Line G P) × IsConflicting w before between q × IsMade (url_of q) between after first
    × ListsAt w.told w.answers false q first peer prepared × (after.closure ≡ between.closure)

-- The references were listed, by a peer that is kept; it stood so before anything was asked: as the closure left it, or as it
-- was made.
pub record IsListed {G P : Type 0} (w : Ways G P) (before after : Line G P) (q : Query) (peer : P) (prepared : Prepared) : Type 0 where
  pub with_head : Bool
  pub first : P
  pub by : IsListedBy w before after q peer prepared with_head first

-- Why the first peer listed none: it wasn't reached; or the listing broke off, and not by that conflict alone.
abbrev pub IsUnpreparedFirst : {G P : Type 0} → Ways G P → Faults → Faults → Line G P → Line G P → Query → Error → Type 0
IsUnpreparedFirst w was is before after q e =
    IsUnreached (IsTurnedAway w (url_of q) before after) (after ≡ before) was is (url_of q) e
    ⊎ ((cause : PrepareError) × (e ≡ preparing cause) × IsBroken w before after q cause × (is_conflict_at (head_at q.name) cause ≡ false))

-- Why the second peer listed none: it wasn't made; or the listing broke off.
pub record IsUnpreparedAgain {P : Type 0} (told : P → Option Talk) (answers : Bool) (was is : Faults)
    (left left_after taken taken_after : Option (List P)) (addresses addresses_after : Option (List (List ℕ))) (q : Query)
    (e : Error) : Type 0 where
  pub by : IsUnreached (λ fault. ⊥) ((left_after ≡ left) × (taken_after ≡ taken) × (addresses_after ≡ addresses)) was is (url_of q) e
      ⊎ ((cause : PrepareError) × (e ≡ preparing cause)
      × IsBrokenAgain told answers left left_after taken taken_after addresses addresses_after q cause)

-- There was that conflict, and then the second peer listed none; the maker had failed so often before.
pub record IsUnlistedAgain {G P : Type 0} (w : Ways G P) (was is : Faults) (before after : Line G P) (q : Query) (e : Error) : Type 0 where
  pub between : Line G P
  pub failed : Faults
  pub earlier : Counts was failed
  pub conflicting : IsConflicting w before between q
  pub why : IsUnpreparedAgain w.told w.answers failed is between.left after.left between.taken after.taken between.addresses
      after.addresses q e
  pub same_closure : after.closure ≡ between.closure

-- The first peer listed none; or there was that conflict, and the second listed none.
pub record IsUnprepared {G P : Type 0} (w : Ways G P) (was is : Faults) (before after : Line G P) (q : Query) (e : Error) : Type 0 where
  pub by : IsUnpreparedFirst w was is before after q e ⊎ IsUnlistedAgain w was is before after q e
