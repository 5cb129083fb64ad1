-- A repository as contracts see it: what a fetch may change of it, and the rest.
use Rattle.std.specs.Prelude.{◌≡◌, Bool, true, false, ◌&&◌, ℕ, List, [], ◌∷◌, ◌++◌, Option, Some, None, is_some, is_none, Result, Ok, Err}
use Rattle.std.specs.Prelude.{codes}
use Rattle.std.specs.List.{list_all}
use Rattle.std.specs.Option.{option_map, option_and_then}
use Rattle.fetch_base.specs.declared.id.Kind.{Kind}
use Rattle.fetch_store.specs.Borders.{IdSet}
use Rattle.fetch_store.specs.Stores.{ObjectMap}
use Rattle.fetch_config.specs.Contents.{Contents, with_sections}
use Rattle.fetch_config.specs.Lookups.{values_of, boolean_of}
use Rattle.fetch_config.specs.Overrides.{override_of, unkept_place}
use Rattle.fetch_config.specs.declared.error.Unreadable.{Unreadable}
use Rattle.fetch_refs.specs.Names.{RefsValue}
use Rattle.fetch_conversation.specs.declared.settings.Settings.{Settings}

-- what a fetch may change: objects of this hash, the commits whose parents are left out, and the references with their
-- logs and the packed list
pub record State : Type 0 where
  pub hash : Kind
  pub objects : ObjectMap
  pub border : IdSet
  pub refs : RefsValue

-- the rest: what the configuration is made of, the work tree, what is read of it, and whether the usual names are logged
pub record Setup : Type 0 where
  pub base : Contents
  pub local : Contents
  pub overrides : List (List ℕ)
  pub workdir : Option (List ℕ)
  pub settings : Settings
  pub logging : Bool

-- a repository as contracts see it
pub record RepositoryValue : Type 0 where
  pub state : State
  pub setup : Setup

-- ---- logging

-- what a setting says, or else whether there is a work tree
abbrev pub logs_by : Option (Result Bool Unreadable) → Option (List ℕ) → Bool
logs_by (Some (Ok logs)) workdir = logs
logs_by (Some (Err place)) workdir = is_some workdir
logs_by None workdir = is_some workdir

-- whether branches are logged
unfoldable pub logging_of : Contents → Option (List ℕ) → Bool
logging_of config workdir = logs_by (boolean_of (values_of (codes "core") None (codes "logAllRefUpdates") false config.sections)) workdir

-- ---- the configuration

-- an override that can be read and kept
abbrev pub is_override : List ℕ → Bool
is_override text = is_some (override_of text) && is_none (unkept_place text)

-- whether each of these is an override
abbrev pub are_overrides : List (List ℕ) → Bool
are_overrides texts = list_all is_override texts

-- one section more
abbrev pub with_override : Contents → List ℕ → Option Contents
with_override config text = option_map (λ s. with_sections config (config.sections ++ s ∷ [])) (override_of text)

-- a section more for each override
abbrev pub with_overrides : Contents → List (List ℕ) → Option Contents
with_overrides config [] = Some config
with_overrides config (text ∷ texts) = option_and_then (λ c. with_overrides c texts) (with_override config text)

-- the base, the local file, and the overrides
abbrev pub resolved_of : Contents → Contents → List (List ℕ) → Option Contents
resolved_of base local overrides = with_overrides (with_sections base (base.sections ++ local.sections)) overrides

-- Objects, references and settings are of one hash, each override is one, and the settings' configuration is that of base,
-- local file and overrides.
pub record IsWhole (hash of_refs : Kind) (settings : Settings) (base local : Contents) (overrides : List (List ℕ)) : Type 0 where
  pub same_hash : hash ≡ settings.kind
  pub same_refs : of_refs ≡ hash
  pub overrides_read : are_overrides overrides ≡ true
  pub resolved : resolved_of base local overrides ≡ Some settings.config
