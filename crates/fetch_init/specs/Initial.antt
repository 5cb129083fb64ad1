-- A repository that was created and opened.
use Rattle.std.specs.Prelude.{◌≡◌, ℕ, Bool, true, false, not, find, List, [], Option, Some, None, ⊤, unwrap_or, codes}
use Rattle.std.specs.FinMap as map
use Rattle.std.specs.FinSet as set
use Rattle.fetch_files.specs.FileCalls.{IsRefused}
use Rattle.fetch_files.specs.Paths.{parts_of}
use Rattle.fetch_files.specs.Trees.{Tree, read_in}
use Rattle.fetch_base.specs.declared.id.Kind.{Kind}
use Rattle.fetch_base.specs.declared.id.Kind.TheVariants as hashes
use Rattle.fetch_config.specs.Contents.{Contents}
use Rattle.fetch_config.specs.declared.meta.Meta.{Meta}
use Rattle.fetch_config.specs.declared.meta.Origin.TheVariants.{Local}
use Rattle.fetch_refs.specs.declared.edit.Change.TheVariants.{Update}
use Rattle.fetch_refs.specs.declared.edit.PreviousValue.TheVariants.{Any}
use Rattle.fetch_refs.specs.declared.edit.RefEdit.{RefEdit}
use Rattle.fetch_refs.specs.declared.edit.RefLog.TheVariants.{AndReference}
use Rattle.fetch_refs.specs.declared.log.Signature.{Signature}
use Rattle.fetch_refs.specs.declared.target.Target.TheVariants.{Symbolic}
use Rattle.fetch_remote.specs.Paths.{config_path}
use Rattle.fetch_remote.specs.Reloads.{HasRead, IsRefusedAt}
use Rattle.fetch_remote.specs.Repositories.{state_of, setup_of, state_in, setup_in, is_override}
use Rattle.fetch_remote.specs.RepositoryValues.{State, Setup, RepositoryValue}
use Rattle.fetch_remote.specs.declared.repository.open_error.OpenError.{OpenError}
use Rattle.fetch_remote.specs.declared.repository.open_error.OpenError.TheVariants as opening
use Rattle.fetch_remote.specs.declared.repository.OpenOptions.{OpenOptions}
use Rattle.fetch_remote.specs.declared.repository.Parts.{Parts}
use Rattle.fetch_create.specs.Branches.{default_branch_of, branch_of}
use Rattle.fetch_create.specs.Creation.{Reaches, IsStopped, TellsStill, is_fault}
use Rattle.fetch_create.specs.Plans.{path_of}
use Rattle.fetch_create.specs.declared.create.Error.{Error as CreateError}
use Rattle.fetch_create.specs.declared.create.Error.TheVariants as creating
use Rattle.fetch_create.specs.declared.create.Kind.{Kind as Layout}
use Rattle.fetch_create.specs.declared.create.Options.{Options}
use Rattle.fetch_init.specs.declared.init.opening.New.{New}
use Rattle.fetch_create.specs.declared.create.step.Step.{Step}
use Rattle.fetch_init.specs.declared.init.Error.{Error}
use Rattle.fetch_init.specs.declared.init.Error.TheVariants.{Init, Open, InvalidBranchName, NoMemory}

-- ---- what it is made of

-- the hash of a new repository
abbrev pub hash_of : Options → Kind
hash_of options = unwrap_or options.object_hash hashes.Sha1

-- what a repository is opened with, once its files are created
abbrev pub new_of : List ℕ → Layout → Options → Signature → OpenOptions → New
new_of directory kind options committer opened =
    record { path = path_of directory kind; hash = hash_of options; committer = committer; options = opened }

-- the path of its configuration
abbrev pub config_of : New → List ℕ
config_of new = config_path new.path.git_dir

-- The repository's own file is trusted.
abbrev pub local_meta : List ℕ → Meta
local_meta path = record { source = Local; level = 0; path = Some path; trusted = true }

-- The file at a path was read as the local file.
abbrev pub IsLocalAt : Option Tree → List ℕ → Contents → Type 0
IsLocalAt told path local = HasRead told path (local_meta path) local

-- This is the configuration that the files have.
abbrev pub IsLocal : Option Tree → New → Contents → Type 0
IsLocal told new local = IsLocalAt told (config_of new) local

-- this local file, no objects, no references and no border
abbrev pub parts_with : New → Contents → Parts
parts_with new local =
    record {
      store = record { hash = new.hash; objects = map.empty; spare = 0; spare_bytes = 0 };
      refs = record { hash = new.hash; names = map.empty; logs = map.empty; packed = map.empty };
      border = set.empty;
      local = local;
      committer = new.committer;
      git_dir = new.path.git_dir;
      workdir = new.path.workdir;
      options = new.options;
    }

-- ---- what it is

-- by which `HEAD` leads to a branch, whatever stood there
abbrev pub leading : List ℕ → RefEdit
leading branch = record {
  change = Update (record { mode = AndReference; force_create_reflog = false; message = [] }) Any (Symbolic branch);
  name = codes "HEAD";
}

-- `HEAD` leads to a branch, and its reflog gets no line.
abbrev pub with_head : State → List ℕ → State
with_head s branch = record s { refs = record s.refs { names = map.insert s.refs.names (codes "HEAD") (Symbolic branch) } }

-- the branch that the configuration in force names
abbrev pub head_branch : Setup → Option (List ℕ)
head_branch setup = branch_of (default_branch_of setup.settings.config)

-- The repository has nothing but its local file and a `HEAD` that leads to the branch which the configuration in force names.
pub record IsNew (new : New) (local : Contents) (repo : RepositoryValue) : Type 0 where
  pub setup : setup_in (parts_with new local) ≡ Some (setup_of repo)
  pub branch : List ℕ
  pub named : head_branch (setup_of repo) ≡ Some branch
  pub state : state_of repo ≡ with_head (state_in (parts_with new local)) branch

-- The file `config` was read, and the repository is the new one with it.
pub record IsInitial (told : Option Tree) (new : New) (repo : RepositoryValue) : Type 0 where
  pub local : Contents
  pub read : IsLocal told new local
  pub opened : IsNew new local repo

-- ---- why it isn't

-- Out of memory is never wrapped.
abbrev pub creation_refusal : CreateError → Error
creation_refusal creating.NoMemory = NoMemory
creation_refusal e = Init e

-- a configuration that couldn't be read, as a refusal of the creation
abbrev pub opening_refusal : OpenError → Error
opening_refusal opening.NoMemory = NoMemory
opening_refusal e = Open e

-- The configuration in force names a branch that can't be called so.
pub record HasBadBranch (new : New) (local : Contents) (name : List ℕ) : Type 0 where
  pub setup : Setup
  pub opened : setup_in (parts_with new local) ≡ Some setup
  pub named : name ≡ default_branch_of setup.settings.config
  pub bad : branch_of name ≡ None

-- A branch can't be called so, or memory ran out.
abbrev pub IsBranchRefusal : List ℕ → Error → Type 0
IsBranchRefusal name (InvalidBranchName told) = (told ≡ name) × (branch_of name ≡ None)
IsBranchRefusal name NoMemory = ⊤
IsBranchRefusal name (Init e) = ⊥
IsBranchRefusal name (Open e) = ⊥

-- Why the local file isn't opened: an override isn't one, or the branch can't be called so.
abbrev pub IsUnopened : New → Contents → Error → Type 0
IsUnopened new local (Open (opening.Override text)) = find (λ t. not (is_override t)) new.options.api_config_overrides ≡ Some text
IsUnopened new local (Open e) = ⊥
IsUnopened new local (InvalidBranchName name) = HasBadBranch new local name
IsUnopened new local NoMemory = ⊤
IsUnopened new local (Init e) = ⊥

-- The file `config` was read, and left as it is, and what it says was refused.
pub record IsReadOnly (stood : Option Tree) (new : New) (now : Option Tree) (e : Error) : Type 0 where
  pub same : now ≡ stood
  pub local : Contents
  pub read : IsLocal stood new local
  pub why : IsUnopened new local e

-- Why it isn't opened, once all was created. The files are as the creation left them.
abbrev pub IsUnready : Bool → Option Tree → New → Option Tree → Error → Type 0
IsUnready may_fail stood new now (Open opening.Io) = (now ≡ stood) × IsRefused may_fail stood (λ t. read_in t (parts_of (config_of new)))
IsUnready may_fail stood new now (Open (opening.Missing name)) = (now ≡ stood) × IsRefusedAt stood (config_of new) (opening.Missing name)
IsUnready may_fail stood new now (Open (opening.Config line)) = (now ≡ stood) × IsRefusedAt stood (config_of new) (opening.Config line)
IsUnready may_fail stood new now (Open (opening.Override text)) = IsReadOnly stood new now (Open (opening.Override text))
IsUnready may_fail stood new now (Open opening.NoMemory) = ⊥
IsUnready may_fail stood new now (InvalidBranchName name) = IsReadOnly stood new now (InvalidBranchName name)
IsUnready may_fail stood new now NoMemory = now ≡ stood
IsUnready may_fail stood new now (Init e) = ⊥

-- All was created, and then it was refused.
pub record IsCreatedOnly (may_fail : Bool) (before : Option Tree) (steps : List Step) (new : New) (now : Option Tree)
    (e : Error) : Type 0 where
  pub stood : Option Tree
  pub created : Reaches before steps stood
  pub why : IsUnready may_fail stood new now e

-- Why there is no new repository.
abbrev pub IsInitRefusal : Bool → Option Tree → List Step → New → Option Tree → Error → Type 0
IsInitRefusal may_fail before steps new now (Init creating.NoMemory) = ⊥
IsInitRefusal may_fail before steps new now (Init e) = IsStopped may_fail before steps now e
IsInitRefusal may_fail before steps new now NoMemory = TellsStill before now
IsInitRefusal may_fail before steps new now (Open e) = IsCreatedOnly may_fail before steps new now (Open e)
IsInitRefusal may_fail before steps new now (InvalidBranchName name) = IsCreatedOnly may_fail before steps new now (InvalidBranchName name)

-- whether the files failed to be read
abbrev pub is_open_fault : OpenError → Bool
is_open_fault opening.Io = true
is_open_fault e = false

-- a refusal by a failed call of the files
abbrev pub is_init_fault : Error → Bool
is_init_fault (Init e) = is_fault e
is_init_fault (Open e) = is_open_fault e
is_init_fault (InvalidBranchName name) = false
is_init_fault NoMemory = false
