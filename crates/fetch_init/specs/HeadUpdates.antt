-- A repository whose `HEAD` takes what a remote listed.
use Rattle.std.specs.Prelude.{◌≡◌, ℕ, Bool, true, false, List, [], Option, Some, None, IfSome, unwrap_or, Result, Ok, Err, ⊤, ◌⊎◌}
use Rattle.std.specs.Option.{option_map}
use Rattle.fetch_files.specs.FileCalls.{IsRefused}
use Rattle.fetch_store.specs.Graph.{graph_of}
use Rattle.fetch_files.specs.Paths.{parts_of}
use Rattle.fetch_files.specs.Trees.{Tree, written}
use Rattle.fetch_specs.specs.Specs.{Spec}
use Rattle.fetch_config.specs.Contents.{Contents}
use Rattle.fetch_config.specs.Print.{text_of}
use Rattle.fetch_refs.specs.Logs.{after}
use Rattle.fetch_refs.specs.declared.edit.PackedRefs.TheVariants as places
use Rattle.fetch_refs.specs.declared.edit.RefEdit.{RefEdit}
use Rattle.fetch_map.specs.declared.mapping.RefMap.{RefMap}
use Rattle.fetch_remote.specs.Finding.{existing_in}
use Rattle.fetch_remote.specs.Paths.{config_path}
use Rattle.fetch_remote.specs.Remotes.{RemoteValue}
use Rattle.fetch_remote.specs.Repositories.{state_of, setup_of, with_refs, reopened, resolved_of}
use Rattle.fetch_remote.specs.RepositoryValues.{State, Setup, RepositoryValue}
use Rattle.fetch_remote.specs.declared.find.existing.Error.{Error as FindError}
use Rattle.fetch_init.specs.HeadTargets.{head_target_in, edits_of, takes_memory}
use Rattle.fetch_create.specs.Creation.{TellsStill}
use Rattle.fetch_create.specs.Upstreams.{following}
use Rattle.fetch_init.specs.declared.head_target.HeadTarget.{HeadTarget}
use Rattle.fetch_init.specs.declared.head_target.HeadTarget.TheVariants.{Nothing, Id, Name}
use Rattle.fetch_init.specs.declared.head_target.HeadError.{HeadError}
use Rattle.fetch_init.specs.declared.head_target.HeadError.TheVariants as head_errors
use Rattle.fetch_init.specs.declared.clone.fetch.Error.{Error}
use Rattle.fetch_init.specs.declared.clone.fetch.Error.TheVariants as errors
use Rattle.fetch_init.specs.declared.head_update.NewConfig.{NewConfig}
use Rattle.fetch_init.specs.declared.named_ref.RefNameError.TheVariants as ref_name_errors

-- ---- references

-- The references after edits, which are written packed.
abbrev pub edited : Setup → State → List RefEdit → State
edited setup s edits = with_refs s (after setup.settings.committer setup.logging places.Only s.refs edits)

-- the state once `HEAD` took its aim
abbrev pub moved : Setup → State → List ℕ → HeadTarget → State
moved setup s message head_target = edited setup s (edits_of message head_target)

-- ---- the branch's section

-- the refspecs that a remote was saved with
abbrev pub specs_of : Result RemoteValue FindError → List Spec
specs_of (Ok remote) = remote.fetch_specs
specs_of (Err e) = []

-- the refspecs of the remote that was saved
abbrev pub saved_specs : Setup → List ℕ → List Spec
saved_specs setup remote = specs_of (existing_in setup.settings.config.sections remote)

-- the local file with the section of the branch that `HEAD` leads to, where it gets one
abbrev pub followed : Setup → List ℕ → HeadTarget → Option Contents
followed setup remote Nothing = None
followed setup remote (Id id) = None
followed setup remote (Name name id) = following setup.local remote (saved_specs setup remote) setup.settings.kind name

-- The text is written into the file `config`.
abbrev pub IsWritten : Option Tree → List ℕ → Contents → Option Tree → Type 0
IsWritten before git_dir local now = TellsStill before now
    × IfSome before (λ t. written t (parts_of (config_path git_dir)) (text_of local.sections) ≡ now)

-- Where there is such a section, it stands in the file `config`, which is written anew, and in memory; else both are as before.
abbrev pub FollowsIf : Setup → Setup → Option Tree → Option Tree → Option Contents → Type 0
FollowsIf before after told now None = (after ≡ before) × (now ≡ told)
FollowsIf before after told now (Some local) = (reopened before local ≡ Some after) × IsWritten told before.settings.git_dir local now

-- the local file that a new file `config` puts into force
abbrev pub local_of : Option NewConfig → Option Contents
local_of new = option_map (λ n. n.resolved.file) new

-- It has that file's text, at the repository's place for it, and that file is resolved with the base and the overrides.
abbrev pub IsReadyIn : Setup → Option NewConfig → Type 0
IsReadyIn setup None = ⊤
IsReadyIn setup (Some new) =
    (new.path ≡ config_path setup.settings.git_dir) × (new.text ≡ text_of new.resolved.file.sections)
    × (resolved_of setup.base new.resolved.file setup.overrides ≡ Some new.resolved.config)

-- ---- all of it

-- what `HEAD` is to take, over what is stored
abbrev pub head_target_of : State → RefMap → Option (List ℕ) → Option Spec → Result HeadTarget HeadError
head_target_of s map ref_name revision = head_target_in map (graph_of s.objects) ref_name revision

-- `HEAD` took what was aimed at.
pub record IsHeadUpdated (told now : Option Tree) (before after : RepositoryValue) (map : RefMap) (message remote : List ℕ)
    (ref_name : Option (List ℕ)) (revision : Option Spec) : Type 0 where
  pub head_target : HeadTarget
  pub takes : head_target_of (state_of before) map ref_name revision ≡ Ok head_target
  pub state : state_of after ≡ moved (setup_of before) (state_of before) message head_target
  pub follows : FollowsIf (setup_of before) (setup_of after) told now (followed (setup_of before) remote head_target)

-- ---- refusals

-- a refusal that tells what was asked for
abbrev pub wanting : Option (List ℕ) → (List ℕ → Error) → Error
wanting None e = errors.NoMemory
wanting (Some wanted) e = e wanted

-- the text that a revision is told with: its source, which is empty where it has none
abbrev pub source_of : Option Spec → List ℕ
source_of None = []
source_of (Some revision) = unwrap_or revision.source []

-- how a refusal to aim is told: a ref name and a revision with what was wanted
abbrev pub told_as : Option (List ℕ) → Option Spec → HeadError → Error
told_as ref_name revision (head_errors.Name ref_name_errors.Missing) = wanting ref_name errors.RefNameMissing
told_as ref_name revision (head_errors.Name (ref_name_errors.Ambiguous candidates)) =
    wanting ref_name (λ wanted. errors.RefNameAmbiguous wanted candidates)
told_as ref_name revision (head_errors.Name ref_name_errors.NoMemory) = errors.NoMemory
told_as ref_name revision (head_errors.InvalidHead name) = errors.InvalidHeadRef name
told_as ref_name revision head_errors.Revision = errors.RevisionMissing (source_of revision)
told_as ref_name revision (head_errors.Find id) = errors.FindRevision id
told_as ref_name revision (head_errors.Peel id) = errors.PeelRevision id
told_as ref_name revision head_errors.NoMemory = errors.NoMemory

-- whether a refusal is told with a copy of what was wanted, or is out of memory itself
abbrev pub takes_memory_to_tell : HeadError → Bool
takes_memory_to_tell (head_errors.Name e) = true
takes_memory_to_tell (head_errors.InvalidHead name) = false
takes_memory_to_tell head_errors.Revision = true
takes_memory_to_tell (head_errors.Find id) = false
takes_memory_to_tell (head_errors.Peel id) = false
takes_memory_to_tell head_errors.NoMemory = true

-- told so, unless memory ran out for that
abbrev pub IsToldAs : Option (List ℕ) → Option Spec → HeadError → Error → Type 0
IsToldAs ref_name revision cause errors.NoMemory = takes_memory_to_tell cause ≡ true
IsToldAs ref_name revision cause errors.SaveConfigIo = ⊥
IsToldAs ref_name revision cause e = e ≡ told_as ref_name revision cause

-- why a local file isn't saved
abbrev pub IsUnsaved : Bool → Option Tree → List ℕ → Option Contents → Error → Type 0
IsUnsaved may_fail told git_dir local errors.NoMemory = (file : Contents) × (local ≡ Some file)
IsUnsaved may_fail told git_dir local errors.SaveConfigIo = (file : Contents) × (local ≡ Some file)
    × IsRefused may_fail told (λ t. written t (parts_of (config_path git_dir)) (text_of file.sections))
IsUnsaved may_fail told git_dir local e = ⊥

-- Why there is nothing to aim at.
pub record HasNoHeadTarget (s : State) (map : RefMap) (ref_name : Option (List ℕ)) (revision : Option Spec) (e : Error) : Type 0 where
  pub cause : HeadError
  pub refused : head_target_of s map ref_name revision ≡ Err cause
  pub as_told : e ≡ told_as ref_name revision cause

-- the same, or memory ran out, where some is taken
abbrev pub LacksHeadTarget : State → RefMap → Option (List ℕ) → Option Spec → Error → Type 0
LacksHeadTarget s map ref_name revision errors.NoMemory = takes_memory (head_target_of s map ref_name revision) ≡ true
LacksHeadTarget s map ref_name revision errors.SaveConfigIo = ⊥
LacksHeadTarget s map ref_name revision e = HasNoHeadTarget s map ref_name revision e

-- There was nothing to aim at, and nothing has changed.
pub record IsHeadTargetRefused (told now : Option Tree) (before after : RepositoryValue) (map : RefMap) (ref_name : Option (List ℕ))
    (revision : Option Spec) (e : Error) : Type 0 where
  pub why : HasNoHeadTarget (state_of before) map ref_name revision e
  pub state : state_of after ≡ state_of before
  pub setup : setup_of after ≡ setup_of before
  pub tree : now ≡ told

-- `HEAD` took what was aimed at, and then the branch's section couldn't be written.
pub record IsUnwritten (may_fail : Bool) (told now : Option Tree) (before after : RepositoryValue) (map : RefMap) (message remote : List ℕ)
    (ref_name : Option (List ℕ)) (revision : Option Spec) : Type 0 where
  pub head_target : HeadTarget
  pub takes : head_target_of (state_of before) map ref_name revision ≡ Ok head_target
  pub state : state_of after ≡ moved (setup_of before) (state_of before) message head_target
  pub setup : setup_of after ≡ setup_of before
  pub local : Contents
  pub follows : followed (setup_of before) remote head_target ≡ Some local
  pub tree : now ≡ told
  pub refused : IsRefused may_fail told (λ t.
      written t (parts_of (config_path (setup_of before).settings.git_dir)) (text_of local.sections))

-- Nothing has changed.
pub record IsUnmoved (told now : Option Tree) (before after : RepositoryValue) : Type 0 where
  pub state : state_of after ≡ state_of before
  pub setup : setup_of after ≡ setup_of before
  pub tree : now ≡ told

-- `HEAD` took what was aimed at, and the configuration in memory is as before: the branch's section was still to be saved.
pub record IsMovedOnly (told now : Option Tree) (before after : RepositoryValue) (map : RefMap) (message remote : List ℕ)
    (ref_name : Option (List ℕ)) (revision : Option Spec) : Type 0 where
  pub head_target : HeadTarget
  pub takes : head_target_of (state_of before) map ref_name revision ≡ Ok head_target
  pub state : state_of after ≡ moved (setup_of before) (state_of before) message head_target
  pub setup : setup_of after ≡ setup_of before
  pub local : Contents
  pub follows : followed (setup_of before) remote head_target ≡ Some local
  pub tree : now ≡ told

-- Memory ran out before anything was changed, or when the branch's section was written.
abbrev pub IsWanting : Option Tree → Option Tree → RepositoryValue → RepositoryValue → RefMap → List ℕ → List ℕ → Option (List ℕ)
    → Option Spec → Type 0
IsWanting told now before after map message remote ref_name revision = IsUnmoved told now before after
    ⊎ IsMovedOnly told now before after map message remote ref_name revision

-- Why `HEAD` didn't take its aim.
abbrev pub IsHeadRefusal : Bool → Option Tree → Option Tree → RepositoryValue → RepositoryValue → RefMap → List ℕ → List ℕ → Option (List ℕ)
    → Option Spec → Error → Type 0
IsHeadRefusal may_fail told now before after map message remote ref_name revision errors.NoMemory =
    IsWanting told now before after map message remote ref_name revision
IsHeadRefusal may_fail told now before after map message remote ref_name revision errors.SaveConfigIo =
    IsUnwritten may_fail told now before after map message remote ref_name revision
IsHeadRefusal may_fail told now before after map message remote ref_name revision e =
    IsHeadTargetRefused told now before after map ref_name revision e
