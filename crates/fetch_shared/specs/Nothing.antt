-- A repository with nothing in it.
use Rattle.std.specs.Prelude.{[], None, false, pos}
use Rattle.std.specs.FinMap as map
use Rattle.std.specs.FinSet as set
use Rattle.fetch_base.specs.declared.id.Kind.TheVariants.{Sha1}
use Rattle.fetch_config.specs.Contents.{Contents}
use Rattle.fetch_config.specs.declared.meta.Origin.TheVariants.{Local}
use Rattle.fetch_refs.specs.declared.log.Signature.{Signature}
use Rattle.fetch_remote.specs.RepositoryValues.{State, Setup, RepositoryValue}

abbrev nothing_held : State
nothing_held = record {
  hash = Sha1;
  objects = map.empty;
  border = set.empty;
  refs = record { hash = Sha1; names = map.empty; logs = map.empty; packed = map.empty };
}

abbrev no_file : Contents
no_file = record { meta = record { source = Local; level = 0; path = None; trusted = false }; sections = [] }

abbrev nobody : Signature
nobody = record { name = []; email = []; seconds = 0; offset_minutes = pos 0 }

abbrev no_setup : Setup
no_setup = record {
  base = no_file;
  local = no_file;
  overrides = [];
  workdir = None;
  settings = record { kind = Sha1; config = no_file; lenient = false; git_dir = []; committer = nobody };
  logging = false;
}

-- a repository with nothing in it
abbrev pub nothing : RepositoryValue
nothing = record { state = nothing_held; setup = no_setup }
