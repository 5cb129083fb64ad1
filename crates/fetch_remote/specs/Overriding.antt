-- A repository that is opened with other overrides.
use Rattle.std.specs.Prelude.{ℕ, List, Option}
use Rattle.std.specs.Option.{option_map}
use Rattle.fetch_config.specs.Contents.{Contents}
use Rattle.fetch_remote.specs.RepositoryValues.{Setup, logging_of, resolved_of}

-- the setup with these overrides, and with this configuration in force
abbrev pub with_overridden : Setup → List (List ℕ) → Contents → Setup
with_overridden s overrides config = record s {
  overrides = overrides;
  settings = record s.settings { config = config };
  logging = logging_of config s.workdir;
}

-- the setup of the same parts with these overrides
abbrev pub overridden : Setup → List (List ℕ) → Option Setup
overridden s overrides = option_map (with_overridden s overrides) (resolved_of s.base s.local overrides)
