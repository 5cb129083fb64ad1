-- A remote's section is written into the file `config` of a repository.
use Rattle.std.specs.Prelude.{◌≡◌, ◌⊎◌, ℕ, Bool, List, [], Option, ⊤, Ok, Err}
use Rattle.fetch_files.specs.FileCalls.{IsRefused}
use Rattle.fetch_files.specs.Paths.{parts_of as parts_of_path}
use Rattle.fetch_files.specs.Trees.{Tree, read_in, written}
use Rattle.fetch_config.specs.Contents.{Contents}
use Rattle.fetch_config.specs.Print.{text_of}
use Rattle.fetch_lookup.specs.Saved.{saved, save_as_verdict}
use Rattle.fetch_remote.specs.Paths.{config_path}
use Rattle.fetch_remote.specs.Reloads.{HasRead, IsRefusedAt}
use Rattle.fetch_remote.specs.Remotes.{RemoteValue, parts_of}
use Rattle.fetch_remote.specs.RepositoryValues.{Setup}
use Rattle.fetch_remote.specs.declared.repository.open_error.OpenError.TheVariants as opening
use Rattle.fetch_init.specs.HeadUpdates.{IsWritten}
use Rattle.fetch_create.specs.Replacing.{replaced}
use Rattle.fetch_init.specs.declared.clone.fetch.Error.{Error}
use Rattle.fetch_init.specs.declared.clone.fetch.Error.TheVariants as errors

-- what a remote is saved as by itself
abbrev pub section_of : Setup → RemoteValue → List ℕ → Contents
section_of setup remote name = saved (record { meta = setup.local.meta; sections = [] }) name (parts_of remote)

-- where the file `config` is
abbrev pub path_of : Setup → List ℕ
path_of setup = config_path setup.settings.git_dir

-- The file `config` was read, and written anew with these sections in place of those of their names and subsections.
pub record IsSectionWritten (told : Option Tree) (setup : Setup) (now : Option Tree) (section : Contents) : Type 0 where
  pub local : Contents
  pub read : HasRead told (path_of setup) setup.local.meta local
  pub written : IsWritten told setup.settings.git_dir (replaced section.sections local) now

-- The file was read, and couldn't be written.
pub record IsSectionUnwritten (may_fail : Bool) (told : Option Tree) (setup : Setup) (section : Contents) (now : Option Tree) : Type 0 where
  pub local : Contents
  pub read : HasRead told (path_of setup) setup.local.meta local
  pub tree : now ≡ told
  pub refused : IsRefused may_fail told (λ t.
      written t (parts_of_path (path_of setup)) (text_of (replaced section.sections local).sections))

-- The remote can be saved under this name.
abbrev pub IsSaveable : RemoteValue → List ℕ → Type 0
IsSaveable remote name = save_as_verdict name (parts_of remote) ≡ Ok tt

-- Why sections aren't written into the file: it is missing, can't be read or breaks the grammar; or it can't be written.
abbrev pub IsUnwritten : Bool → Option Tree → Setup → Contents → Option Tree → Error → Type 0
IsUnwritten may_fail told setup section now errors.NoMemory = now ≡ told
IsUnwritten may_fail told setup section now (errors.LoadConfig opening.Io) = (now ≡ told)
    × IsRefused may_fail told (λ t. read_in t (parts_of_path (path_of setup)))
IsUnwritten may_fail told setup section now (errors.LoadConfig opening.NoMemory) = ⊥
IsUnwritten may_fail told setup section now (errors.LoadConfig e) = (now ≡ told) × IsRefusedAt told (path_of setup) e
IsUnwritten may_fail told setup section now errors.SaveConfigIo = IsSectionUnwritten may_fail told setup section now
IsUnwritten may_fail told setup section now e = ⊥

-- why a remote isn't saved by itself
abbrev pub IsUnsavedAs : RemoteValue → List ℕ → Error → Type 0
IsUnsavedAs remote name errors.NoMemory = ⊤
IsUnsavedAs remote name (errors.SaveConfig e) = save_as_verdict name (parts_of remote) ≡ Err e
IsUnsavedAs remote name e = ⊥

-- The remote can't be saved; or it can, and its section isn't written into the file.
abbrev pub IsSectionRefusal : Bool → Option Tree → Setup → RemoteValue → List ℕ → Option Tree → Error → Type 0
IsSectionRefusal may_fail told setup remote name now e =
    ((now ≡ told) × IsUnsavedAs remote name e)
    ⊎ (IsSaveable remote name × IsUnwritten may_fail told setup (section_of setup remote name) now e)
