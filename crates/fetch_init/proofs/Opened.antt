-- Why a repository isn't opened, once it is created.
use Rattle.std.proofs.Common.{◌≡◌, Bool, List, Option, Some, Result, Ok, Err, IfErr, IsTrue, refl, ap, ◌∙◌}
use Rattle.std.specs.Prelude.{is_some}
use Rattle.std.proofs.lemmas.Bool.{false≢true}
use Rattle.fetch_files.specs.FileCalls.{IsRefused}
use Rattle.fetch_base.specs.Faults.{Faults, Rose}
use Rattle.fetch_files.specs.Paths.{parts_of}
use Rattle.fetch_files.specs.Trees.{Tree, read_in}
use Rattle.fetch_config.specs.Contents.{Contents}
use Rattle.fetch_remote.specs.Reloads.{IsRefusedAt}
use Rattle.fetch_remote.specs.Repositories.{IsOpenRefusal, setup_in}
use Rattle.fetch_remote.specs.RepositoryValues.{Setup}
use Rattle.fetch_remote.specs.declared.repository.open_error.OpenError.{OpenError}
use Rattle.fetch_remote.specs.declared.repository.open_error.OpenError.TheVariants as opening
use Rattle.fetch_create.specs.Branches.{default_branch_of, branch_of}
use Rattle.fetch_create.specs.Creation.{Reaches, IsStopped, IsStopAt, TellsStill, is_fault}
use Rattle.fetch_init.specs.Initial.{IsLocal, IsUnopened, IsUnready, IsBranchRefusal, IsInitRefusal, parts_with, config_of, creation_refusal, opening_refusal, is_init_fault}
use Rattle.fetch_create.specs.declared.create.Error.{Error as CreateError}
use Rattle.fetch_create.specs.declared.create.Error.TheVariants as creating
use Rattle.fetch_init.specs.declared.init.Error.{Error}
use Rattle.fetch_init.specs.declared.init.Error.TheVariants as initial
use Rattle.fetch_init.specs.declared.init.opening.New.{New}
use Rattle.fetch_create.specs.declared.create.step.Step.{Step}
use Rattle.fetch_create.specs.declared.create.step.Step.TheVariants.{Clear, Vacant, Directory, File}

-- what holds of each error that another fact holds of
pub each-err : {X E : Type 0} (P Q : E → Type 0) → ((e : E) → P e → Q e) → (r : Result X E) → IfErr r P → IfErr r Q
each-err P Q f (Ok x) p = tt
each-err P Q f (Err e) p = f e p

-- ---- reading

-- a file that wasn't read
pub unread : (may_fail : Bool) (stood now : Option Tree) (new : New) (e : OpenError) → IsRefusedAt stood (config_of new) e → now ≡ stood
    → (e ≡ opening.Io → IsRefused may_fail stood (λ t. read_in t (parts_of (config_of new)))) → IsUnready may_fail stood new now (opening_refusal e)
unread may_fail stood now new opening.Io refused same way = (same, way refl)
unread may_fail stood now new (opening.Missing name) refused same way = (same, refused)
unread may_fail stood now new (opening.Config line) refused same way = (same, refused)
unread may_fail stood now new (opening.Override text) refused same way = absurd refused
unread may_fail stood now new opening.NoMemory refused same way = same

pub unread-fault : (was is : Faults) (e : OpenError) → (e ≡ opening.Io → Rose was is) → IsTrue (is_init_fault (opening_refusal e)) → Rose was is
unread-fault was is opening.Io rose t = rose refl
unread-fault was is (opening.Missing name) rose t = absurd (false≢true t)
unread-fault was is (opening.Config line) rose t = absurd (false≢true t)
unread-fault was is (opening.Override text) rose t = absurd (false≢true t)
unread-fault was is opening.NoMemory rose t = absurd (false≢true t)

-- ---- opening what was read

-- an override that isn't one
pub not-overridden : (new : New) (local : Contents) (e : OpenError) → IsOpenRefusal new.options.api_config_overrides e → IsUnopened new local (opening_refusal e)
not-overridden new local opening.Io refused = absurd refused
not-overridden new local (opening.Missing name) refused = absurd refused
not-overridden new local (opening.Config line) refused = absurd refused
not-overridden new local (opening.Override text) refused = refused
not-overridden new local opening.NoMemory refused = tt

-- a branch that can't be called so
pub not-headed : (new : New) (local : Contents) (setup : Setup) (e : Error) → setup_in (parts_with new local) ≡ Some setup → IsBranchRefusal (default_branch_of setup.settings.config) e → IsUnopened new local e
not-headed new local setup (initial.Init e) opened refused = absurd refused
not-headed new local setup (initial.Open e) opened refused = absurd refused
not-headed new local setup (initial.InvalidBranchName name) opened refused = record { setup = setup; opened = opened; named = refused.0; bad = ap branch_of refused.0 ∙ refused.1 }
not-headed new local setup initial.NoMemory opened refused = tt

-- What was read wasn't opened.
pub unopened : (may_fail : Bool) (stood now : Option Tree) (new : New) (local : Contents) (e : Error) → now ≡ stood → IsLocal stood new local → IsUnopened new local e → IsUnready may_fail stood new now e
unopened may_fail stood now new local (initial.Init e) same read why = absurd why
unopened may_fail stood now new local (initial.Open opening.Io) same read why = absurd why
unopened may_fail stood now new local (initial.Open (opening.Missing name)) same read why = absurd why
unopened may_fail stood now new local (initial.Open (opening.Config line)) same read why = absurd why
unopened may_fail stood now new local (initial.Open (opening.Override text)) same read why = record { same = same; local = local; read = read; why = why }
unopened may_fail stood now new local (initial.Open opening.NoMemory) same read why = absurd why
unopened may_fail stood now new local (initial.InvalidBranchName name) same read why = record { same = same; local = local; read = read; why = why }
unopened may_fail stood now new local initial.NoMemory same read why = same

-- No call of the files failed there.
pub no-fault : (was is : Faults) (new : New) (local : Contents) (e : Error) → IsUnopened new local e → IsTrue (is_init_fault e) → Rose was is
no-fault was is new local (initial.Init e) why t = absurd why
no-fault was is new local (initial.Open opening.Io) why t = absurd why
no-fault was is new local (initial.Open (opening.Missing name)) why t = absurd (false≢true t)
no-fault was is new local (initial.Open (opening.Config line)) why t = absurd (false≢true t)
no-fault was is new local (initial.Open (opening.Override text)) why t = absurd (false≢true t)
no-fault was is new local (initial.Open opening.NoMemory) why t = absurd (false≢true t)
no-fault was is new local (initial.InvalidBranchName name) why t = absurd (false≢true t)
no-fault was is new local initial.NoMemory why t = absurd (false≢true t)

-- ---- creating and opening

-- what out of memory leaves of the files
stopped-told : (may_fail : Bool) (stood now : Option Tree) (step : Step) → IsStopAt may_fail stood step now creating.NoMemory → TellsStill stood now
stopped-told may_fail stood now (Clear path) w = ap is_some w
stopped-told may_fail stood now (Vacant path) w = ap is_some w
stopped-told may_fail stood now (Directory path) w = ap is_some w
stopped-told may_fail stood now (File path bytes) w = ap is_some w

-- It wasn't created.
pub uncreated : (may_fail : Bool) (before now : Option Tree) (steps : List Step) (new : New) (e : CreateError) → IsStopped may_fail before steps now e → IsInitRefusal may_fail before steps new now (creation_refusal e)
uncreated may_fail before now steps new (creating.IoOpen path) s = s
uncreated may_fail before now steps new (creating.IoWrite path) s = s
uncreated may_fail before now steps new (creating.CreateDirectory path) s = s
uncreated may_fail before now steps new (creating.DirectoryNotEmpty path) s = s
uncreated may_fail before now steps new (creating.DirectoryExists path) s = s
uncreated may_fail before now steps new creating.NoMemory s = stopped-told may_fail s.stood now s.step s.why ∙ s.done.told

-- Such a refusal is a fault of the files where that of the creation is one.
pub creating-fault : (was is : Faults) (e : CreateError) → (IsTrue (is_fault e) → Rose was is) → IsTrue (is_init_fault (creation_refusal e)) → Rose was is
creating-fault was is (creating.IoOpen path) rose t = rose t
creating-fault was is (creating.IoWrite path) rose t = rose t
creating-fault was is (creating.CreateDirectory path) rose t = rose t
creating-fault was is (creating.DirectoryNotEmpty path) rose t = rose t
creating-fault was is (creating.DirectoryExists path) rose t = rose t
creating-fault was is creating.NoMemory rose t = absurd (false≢true t)

-- It was created and not opened.
pub created-only : (may_fail : Bool) (before stood now : Option Tree) (steps : List Step) (new : New) (e : Error) → Reaches before steps stood → IsUnready may_fail stood new now e → IsInitRefusal may_fail before steps new now e
created-only may_fail before stood now steps new (initial.Init e) r u = absurd u
created-only may_fail before stood now steps new (initial.Open e) r u = record { stood = stood; created = r; why = u }
created-only may_fail before stood now steps new (initial.InvalidBranchName name) r u = record { stood = stood; created = r; why = u }
created-only may_fail before stood now steps new initial.NoMemory r u = ap is_some u ∙ r.told
