-- What a clone is asked for beside its place.
use Rattle.std.specs.Prelude.{◌≡◌, ℕ, List, [], Option, Some, None, Result, Ok, Err, true, false, ⊤}
use Rattle.fetch_specs.specs.Names.{name_trouble}
use Rattle.fetch_specs.specs.Specs.{Spec}
use Rattle.fetch_specs.specs.declared.error.NameError.{NameError}
use Rattle.fetch_specs.specs.declared.error.NameError.TheVariants as names
use Rattle.fetch_negotiate.specs.declared.algorithm.Shallow.TheVariants.{NoChange}
use Rattle.fetch_init.specs.Revisions.{revision_of}
use Rattle.fetch_clone.specs.declared.choices.Choices.{Choices}
use Rattle.fetch_clone.specs.declared.choices.CloneTarget.{CloneTarget}
use Rattle.fetch_clone.specs.declared.choices.CloneTarget.TheVariants.{Everything, RefName, Revision}

-- all branches with their whole history, as the configuration says
abbrev pub plain : Choices
plain = record {
  remote_name = None;
  shallow = NoChange;
  overrides = [];
  wanted = Everything;
  options = record {
    prefix_from_spec_as_filter_on_remote = true;
    handshake_parameters = [];
    extra_refspecs = [];
    max_reply_bytes = 268435456;
  };
}

-- A ref name that was chosen is taken back, and a revision stays.
abbrev pub without_ref_name : CloneTarget → CloneTarget
without_ref_name Everything = Everything
without_ref_name (RefName name) = Everything
without_ref_name (Revision spec) = Revision spec

-- A revision that was chosen is taken back, and a ref name stays.
abbrev pub without_revision : CloneTarget → CloneTarget
without_revision Everything = Everything
without_revision (RefName name) = RefName name
without_revision (Revision spec) = Everything

-- with another choice of references
abbrev pub with_wanted : Choices → CloneTarget → Choices
with_wanted choices wanted = record choices { wanted = wanted }

-- A name takes the place of whatever was chosen, and None takes a name back.
abbrev pub ref_name_chosen : CloneTarget → Option (List ℕ) → CloneTarget
ref_name_chosen before (Some name) = RefName name
ref_name_chosen before None = without_ref_name before

-- A revision takes the place of whatever was chosen, where the text is one; None takes a revision back.
abbrev pub ChoosesRevision : CloneTarget → Option (List ℕ) → CloneTarget → Type 0
ChoosesRevision before None now = now ≡ without_revision before
ChoosesRevision before (Some text) now = (found : Spec) × (revision_of text ≡ Ok found) × (now ≡ Revision found)

-- A text that is a name is refused only where memory runs out; one that isn't is refused with its place; None is never refused.
abbrev pub IsNameRefusalAt : Option ℕ → NameError → Type 0
IsNameRefusalAt None e = e ≡ names.NoMemory
IsNameRefusalAt (Some place) e = e ≡ names.Invalid place

-- Whether a ref name is accepted, and why it isn't.
abbrev pub RefNameVerdict : {X Y : Type 0} → Option (List ℕ) → Result X (Y × NameError) → Type 0
RefNameVerdict None (Ok x) = ⊤
RefNameVerdict None (Err e) = ⊥
RefNameVerdict (Some text) (Ok x) = name_trouble false text ≡ None
RefNameVerdict (Some text) (Err e) = IsNameRefusalAt (name_trouble false text) e.1
