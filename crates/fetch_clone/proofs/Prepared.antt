-- A clone that is prepared, or isn't.
use Rattle.std.proofs.Common.{◌≡◌, ℕ, Bool, false, List, inl, inr, Option, IsTrue}
use Rattle.std.specs.Prelude.{OnErr, Result, Ok, Err}
use Rattle.std.proofs.lemmas.Bool.{false≢true}
use Rattle.fetch_files.specs.FileCalls.{Changes, IsRefused}
use Rattle.fetch_files.specs.Paths.{parts_of}
use Rattle.fetch_base.specs.declared.failed.Failed.{Failed}
use Rattle.fetch_base.specs.Faults.{Faults, Counts, Rose}
use Rattle.fetch_files.specs.Trees.{Tree, without_all}
use Rattle.fetch_remote.specs.Finding.{is_no_address}
use Rattle.fetch_clone.specs.CloneStates.{IsNoted, IsPrepareRefusal, IsRemoved, is_clone_fault, strict}
use Rattle.fetch_init.specs.Refusals.{init_refusal}
use Rattle.fetch_init.specs.Initial.{IsInitRefusal, is_init_fault, new_of}
use Rattle.fetch_create.specs.Plans.{steps_of}
use Rattle.fetch_clone.specs.declared.clone_state.Making.{Making}
use Rattle.fetch_init.specs.declared.clone.Error.TheVariants as clones
use Rattle.fetch_init.specs.declared.init.Error.{Error}
use Rattle.fetch_init.specs.declared.init.Error.TheVariants as initial

-- ---- the clone

-- No repository was created or opened at the place that was noted.
pub unprepared : (was failed is : Faults) (may_fail : Bool) (before now : Option Tree) (url place : List ℕ) (free : Bool) (making : Making) (e : Error) → is_no_address url ≡ false
    → IsNoted was failed before place free → Counts failed is → IsInitRefusal may_fail before (steps_of place making.kind (strict making.options)) (new_of place making.kind (strict making.options) making.committer making.open_options) now e
    → IsPrepareRefusal was is may_fail before url place making now (init_refusal e)
unprepared was failed is may_fail before now url place free making (initial.Init x) address noted later why = (address, record { free = free; failed = failed; noted = noted; later = later; why = why })
unprepared was failed is may_fail before now url place free making (initial.Open x) address noted later why = (address, record { free = free; failed = failed; noted = noted; later = later; why = why })
unprepared was failed is may_fail before now url place free making (initial.InvalidBranchName x) address noted later why = (address, record { free = free; failed = failed; noted = noted; later = later; why = why })
unprepared was failed is may_fail before now url place free making initial.NoMemory address noted later why = why

pub preparing-fault : (was is : Faults) (e : Error) → (IsTrue (is_init_fault e) → Rose was is) → IsTrue (is_clone_fault (init_refusal e)) → Rose was is
preparing-fault was is (initial.Init x) rose t = rose t
preparing-fault was is (initial.Open x) rose t = rose t
preparing-fault was is (initial.InvalidBranchName x) rose t = rose t
preparing-fault was is initial.NoMemory rose t = absurd (false≢true t)

-- What isn't created or opened isn't refused for its address.
pub has-address : (e : Error) → init_refusal e ≡ clones.Url → ⊥
has-address (initial.Init x) is = absurd cc
has-address (initial.Open x) is = absurd cc
has-address (initial.InvalidBranchName x) is = absurd cc
has-address initial.NoMemory is = absurd cc

-- ---- giving up

-- what the call of the files leaves of the place
pub removed : (was is : Faults) (may_fail : Bool) (before now : Option Tree) (place : List ℕ) (r : Result (Unit {0}) Failed) → Changes before now (λ t. without_all t (parts_of place)) r → OnErr r (Rose was is)
    → OnErr r (IsRefused may_fail before (λ t. without_all t (parts_of place))) → IsRemoved was is may_fail before place now
removed was is may_fail before now place (Ok x) changes rose way = inl changes
removed was is may_fail before now place (Err e) changes rose way = inr (rose, (changes, way))
