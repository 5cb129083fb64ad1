-- A file that was read, and couldn't be written for another hash.
use Rattle.std.proofs.Common.{◌≡◌, Bool, Option, Some, refl, subst}
use Rattle.fetch_files.specs.FileCalls.{IsRefused}
use Rattle.fetch_files.specs.Paths.{parts_of}
use Rattle.fetch_files.specs.Trees.{Tree, written}
use Rattle.fetch_base.specs.declared.id.Kind.{Kind}
use Rattle.fetch_config.specs.Contents.{Contents}
use Rattle.fetch_config.specs.Print.{text_of}
use Rattle.fetch_remote.specs.RepositoryValues.{Setup}
use Rattle.fetch_remote.specs.declared.repository.open_error.OpenError.TheVariants as opening
use Rattle.fetch_clone.specs.Hashed.{IsLocal, IsUnversioned}
use Rattle.fetch_init.specs.HeadUpdates.{IsUnsaved}
use Rattle.fetch_init.specs.RemoteSections.{path_of}
use Rattle.fetch_create.specs.Versioned.{versioned}
use Rattle.fetch_init.specs.declared.clone.fetch.Error.TheVariants as errors

module _ (may_fail : Bool) (told now : Option Tree) (kind : Kind) (setup : Setup) (local file : Contents) (read : IsLocal told setup local) (is : file ≡ versioned kind local) where
  pub unversioned : now ≡ told → IsUnsaved may_fail told setup.settings.git_dir (Some file) errors.SaveConfigIo → IsUnversioned may_fail told now kind setup (errors.ReopenWithObjectHash opening.Io)
  unversioned tree why =
      let e : why.0 ≡ versioned kind local = cc in
      record { local = local; read = read; tree = tree; refused = subst (λ (f : Contents). IsRefused may_fail told (λ t. written t (parts_of (path_of setup)) (text_of f.sections))) e why.2; cause = refl }
