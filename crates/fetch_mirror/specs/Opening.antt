-- The empty mirror that the workers fetch into.
use Rattle.std.specs.Prelude.{false, [], None, codes}
use Rattle.std.specs.FinMap as map
use Rattle.std.specs.FinSet as set
use Rattle.fetch_base.specs.declared.id.Kind.{Kind}
use Rattle.fetch_refs.specs.declared.log.Signature.{Signature}
use Rattle.fetch_remote.specs.RepositoryValues.{RepositoryValue, Setup, State}
use Rattle.fetch_mirror.specs.Settings.{config_from, own_meta}

-- without objects and references, of this hash
abbrev pub empty_state : Kind → State
empty_state kind = record {
  hash = kind;
  objects = map.empty;
  border = set.empty;
  refs = record { hash = kind; names = map.empty; logs = map.empty; packed = map.empty };
}

-- bare, at `.`, with nothing before its own configuration, and with no reflogs
abbrev pub bare_setup : Kind → Signature → Setup
bare_setup kind committer = record {
  base = record { meta = own_meta; sections = [] };
  local = config_from own_meta;
  overrides = [];
  workdir = None;
  settings = record { kind = kind; config = config_from own_meta; lenient = false; git_dir = codes "."; committer = committer };
  logging = false;
}

-- an empty bare repository of this hash, in which this one commits
abbrev pub empty_mirror : Kind → Signature → RepositoryValue
empty_mirror kind committer = record { state = empty_state kind; setup = bare_setup kind committer }
