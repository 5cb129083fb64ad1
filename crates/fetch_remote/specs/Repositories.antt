-- Repositories: how they are opened, and what changes them.
use Rattle.std.specs.Prelude.{◌≡◌, Bool, true, false, not, ℕ, List, [], Option, Some, None, ⊤, find}
use Rattle.std.specs.Option.{option_map}
use Rattle.fetch_store.specs.Borders.{IdSet}
use Rattle.fetch_store.specs.Closed.{Holding}
use Rattle.fetch_store.specs.Stores.{Entries, add_all}
use Rattle.fetch_config.specs.Contents.{Contents}
use Rattle.fetch_config.specs.declared.meta.Origin.TheVariants.{System}
use Rattle.fetch_refs.specs.Names.{RefsValue}
use Rattle.fetch_refs.specs.declared.log.Signature.{Signature}
use Rattle.fetch_remote.specs.declared.repository.open_error.OpenError.{OpenError}
use Rattle.fetch_remote.specs.declared.repository.open_error.OpenError.TheVariants as errors
use Rattle.fetch_remote.specs.declared.repository.OpenOptions.{OpenOptions}
use Rattle.fetch_remote.specs.declared.repository.Parts.{Parts}
use Rattle.fetch_conversation.specs.declared.settings.Settings.{Settings}
pub use Rattle.fetch_remote.specs.RepositoryValues.{
  State,
  Setup,
  RepositoryValue,
  logging_of,
  is_override,
  with_override,
  with_overrides,
  resolved_of,
}

-- what a fetch may change
abbrev pub state_of : RepositoryValue → State
state_of r = r.state

-- the rest of a repository
abbrev pub setup_of : RepositoryValue → Setup
setup_of r = r.setup

-- the objects with their border, without the references
abbrev pub held : State → Holding
held s = record { objects = s.objects; border = s.border }

-- with these objects, and this border in place of the old one
abbrev pub with_pack : State → Entries → IdSet → State
with_pack s objects border = record s { objects = add_all s.objects objects; border = border }

-- with these references
abbrev pub with_refs : State → RefsValue → State
with_refs s refs = record s { refs = refs }

-- ---- opening

-- an override that is refused: it isn't one
abbrev pub IsOverrideRefused : List ℕ → OpenError → Type 0
IsOverrideRefused text (errors.Override told) = (is_override text ≡ false) × (told ≡ text)
IsOverrideRefused text errors.NoMemory = ⊤
IsOverrideRefused text e = ⊥

-- the first override that isn't one is told
abbrev pub IsOpenRefusal : List (List ℕ) → OpenError → Type 0
IsOpenRefusal overrides (errors.Override told) = find (λ text. not (is_override text)) overrides ≡ Some told
IsOpenRefusal overrides errors.NoMemory = ⊤
IsOpenRefusal overrides e = ⊥

-- nothing before a repository's own configuration
abbrev pub no_base : Contents
no_base = record { meta = record { source = System; level = 0; path = None; trusted = true }; sections = [] }

-- no overrides, and nothing before the repository's own configuration
abbrev pub open_options : Bool → OpenOptions
open_options lenient = record { lenient_config = lenient; api_config_overrides = []; base = no_base }

-- the state of the parts
abbrev pub state_in : Parts → State
state_in p = record { hash = p.store.hash; objects = p.store.objects; border = p.border; refs = p.refs }

-- the settings of the parts, with this configuration in force
abbrev pub settings_with : Parts → Contents → Settings
settings_with p config = record {
  kind = p.store.hash;
  config = config;
  lenient = p.options.lenient_config;
  git_dir = p.git_dir;
  committer = p.committer;
}

-- the setup of the parts, with this configuration in force
abbrev pub setup_with : Parts → Contents → Setup
setup_with p config = record {
  base = p.options.base;
  local = p.local;
  overrides = p.options.api_config_overrides;
  workdir = p.workdir;
  settings = settings_with p config;
  logging = logging_of config p.workdir;
}

-- the setup of the parts, where each override is one
abbrev pub setup_in : Parts → Option Setup
setup_in p = option_map (setup_with p) (resolved_of p.options.base p.local p.options.api_config_overrides)

-- ---- opening again

-- the setup with this configuration in force
abbrev pub in_force : Setup → Contents → Contents → Setup
in_force s local config = record s {
  local = local;
  settings = record s.settings { config = config };
  logging = logging_of config s.workdir;
}

-- the setup of the same parts with another local file
abbrev pub reopened : Setup → Contents → Option Setup
reopened s local = option_map (in_force s local) (resolved_of s.base local s.overrides)

-- the setup with this committer
abbrev pub with_committer : Signature → Setup → Setup
with_committer committer s = record s { settings = record s.settings { committer = committer } }
