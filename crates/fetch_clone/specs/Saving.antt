-- A clone's remote is named, chosen and saved.
use Rattle.std.specs.Prelude.{◌≡◌, ◌⊎◌, ℕ, Bool, not, ◌&&◌, List, Option, is_none, if◌then◌else◌}
use Rattle.fetch_base.specs.Faults.{Faults}
use Rattle.fetch_files.specs.Trees.{Tree}
use Rattle.fetch_lookup.specs.Saved.{valid_name}
use Rattle.fetch_specs.specs.declared.tags.Tags.TheVariants as tags
use Rattle.fetch_remote.specs.Remotes.{RemoteValue, renamed}
use Rattle.fetch_remote.specs.RepositoryValues.{RepositoryValue, Setup}
use Rattle.fetch_init.specs.RemoteSections.{IsSectionWritten, IsSectionRefusal, section_of}
use Rattle.fetch_clone.specs.Planned.{Answering, IsChosen, IsNamed, IsNotNamed, IsUnchosen}
use Rattle.fetch_clone.specs.Reached.{Ways, Line}
use Rattle.fetch_clone.specs.Stages.{revision_of}
use Rattle.fetch_init.specs.declared.clone.fetch.Error.{Error}
use Rattle.fetch_clone.specs.declared.clone_state.CloneState.{CloneState}
use Rattle.fetch_clone.specs.declared.fetching.saving.Saved.{Saved}

-- Once the remote is saved, all tags are fetched, unless a revision is, or the builder set a closure.
abbrev pub takes_all_tags : CloneState → Bool
takes_all_tags draft = not draft.configures_remote && is_none (revision_of draft.choices.wanted)

-- the remote with the tags that are fetched
abbrev pub tagged : CloneState → RemoteValue → RemoteValue
tagged draft remote = if takes_all_tags draft then record remote { tags = tags.All } else remote

-- A remote was chosen, its section was written into the file `config`, and it is fetched from under that name.
pub record IsSavedAs (answers : Answering) (files files_left : Option Tree) (draft : CloneState) (setup : Setup) (name : List ℕ)
    (target : Option (List ℕ)) (saved : Saved) : Type 0 where
  pub chosen : RemoteValue
  pub is_chosen : IsChosen answers draft name target chosen
  pub section : saved.section ≡ section_of setup chosen name
  pub written : IsSectionWritten files setup files_left saved.section
  pub called : saved.name ≡ name
  pub remote : saved.remote ≡ tagged draft (renamed (valid_name name) chosen)

-- A remote was chosen, and couldn't be saved.
pub record IsNotWritten (answers : Answering) (may_fail : Bool) (files files_left : Option Tree) (draft : CloneState) (setup : Setup)
    (name : List ℕ) (target : Option (List ℕ)) (e : Error) : Type 0 where
  pub chosen : RemoteValue
  pub is_chosen : IsChosen answers draft name target chosen
  pub why : IsSectionRefusal may_fail files setup chosen name files_left e

-- No remote was chosen; or it couldn't be saved.
pub record IsNotSavedAs (answers : Answering) (may_fail : Bool) (files files_left : Option Tree) (draft : CloneState) (setup : Setup)
    (name : List ℕ) (target : Option (List ℕ)) (e : Error) : Type 0 where
  pub by : (IsUnchosen answers draft name target e × (files_left ≡ files))
      ⊎ IsNotWritten answers may_fail files files_left draft setup name target e

-- The remote was named, chosen and saved.
pub record IsSaved {G P : Type 0} (answers : Answering) (w : Ways G P) (before after : Line G P) (files files_left : Option Tree)
    (draft : CloneState) (found repo : RepositoryValue) (saved : Saved) : Type 0 where
  pub name : List ℕ
  pub target : Option (List ℕ)
  pub named : IsNamed w before after draft found repo name target
  pub saved_as : IsSavedAs answers files files_left draft repo.setup name target saved

-- The remote was named, and then not chosen or not saved.
pub record IsNamedAlone {G P : Type 0} (answers : Answering) (w : Ways G P) (before after : Line G P) (may_fail : Bool)
    (files files_left : Option Tree) (draft : CloneState) (found repo : RepositoryValue) (e : Error) : Type 0 where
  pub name : List ℕ
  pub target : Option (List ℕ)
  pub named : IsNamed w before after draft found repo name target
  pub why : IsNotSavedAs answers may_fail files files_left draft repo.setup name target e

-- The remote wasn't named, and then the closure for it wasn't called; or it was named, and wasn't chosen or saved.
pub record IsNotSaved {G P : Type 0} (answers : Answering) (uncalled : Type 0) (w : Ways G P) (was is : Faults) (before after : Line G P)
    (may_fail : Bool) (files files_left : Option Tree) (draft : CloneState) (found repo : RepositoryValue) (e : Error) : Type 0 where
  pub by : (IsNotNamed w was is before after draft found repo e × (files_left ≡ files) × uncalled)
      ⊎ IsNamedAlone answers w before after may_fail files files_left draft found repo e
