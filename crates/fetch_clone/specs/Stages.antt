-- What a clone was asked for.
use Rattle.std.specs.Prelude.{ℕ, Bool, true, false, not, ◌&&◌, List, codes, Option, Some, None, is_none, unwrap_or}
use Rattle.fetch_specs.specs.Specs.{Spec}
use Rattle.fetch_config.specs.Contents.{Contents}
use Rattle.fetch_negotiate.specs.declared.algorithm.Shallow.{Shallow}
use Rattle.fetch_negotiate.specs.declared.algorithm.Shallow.TheVariants as depths
use Rattle.fetch_conversation.specs.ListStage.{is_nil}
use Rattle.fetch_create.specs.RemoteNames.{default_remote_of}
use Rattle.fetch_clone.specs.declared.choices.Choices.{Choices}
use Rattle.fetch_clone.specs.declared.choices.CloneTarget.{CloneTarget}
use Rattle.fetch_clone.specs.declared.choices.CloneTarget.TheVariants.{Everything, RefName, Revision}

-- the ref name that is wanted
abbrev pub ref_name_of : CloneTarget → Option (List ℕ)
ref_name_of Everything = None
ref_name_of (RefName wanted) = Some wanted
ref_name_of (Revision spec) = None

-- the revision that is wanted
abbrev pub revision_of : CloneTarget → Option Spec
revision_of Everything = None
revision_of (RefName wanted) = None
revision_of (Revision spec) = Some spec

-- whether the depth is to stay
abbrev pub keeps_depth : Shallow → Bool
keeps_depth depths.NoChange = true
keeps_depth _ = false

-- The references are listed before where the depth is to change, and neither more refspecs nor a revision are given.
abbrev pub lists_first : Choices → Bool
lists_first choices = not (keeps_depth choices.shallow) && (is_nil choices.options.extra_refspecs && is_none (revision_of choices.wanted))

-- the name that was given, or that the configuration says, or `origin`
abbrev pub name_or : Option (List ℕ) → Contents → List ℕ
name_or (Some given) config = given
name_or None config = unwrap_or (default_remote_of config) (codes "origin")

-- the name of the clone's remote
abbrev pub remote_name : Choices → Contents → List ℕ
remote_name choices config = name_or choices.remote_name config
