-- Which mappings refuse the whole update, and with which error, in a dry run too. Each row is a record of its conditions.
use Rattle.std.specs.Prelude.{◌≡◌, ◌≢◌, ◌⊎◌, ◌++◌, ◌∷◌, ℕ, false, List, Some, None, Err, IsTrue, Contains}
use Rattle.std.specs.FinMap as finmap
use Rattle.fetch_base.specs.declared.id.ObjectId.{ObjectId}
use Rattle.fetch_specs.specs.Names.{is_full_name}
use Rattle.fetch_specs.specs.Specs.{Spec}
use Rattle.fetch_refs.specs.Peeled.{peeled}
use Rattle.fetch_refs.specs.declared.error.RefError.{RefError}
use Rattle.fetch_refs.specs.declared.error.RefError.TheVariants.{Unborn}
use Rattle.fetch_refs.specs.declared.target.Target.{Target}
use Rattle.fetch_refs.specs.declared.target.Target.TheVariants.{Symbolic}
use Rattle.fetch_map.specs.Mappings.{spec_at}
use Rattle.fetch_map.specs.declared.mapping.Mapping.{Mapping}
use Rattle.fetch_update.specs.declared.update.Error.{Error}
use Rattle.fetch_update.specs.declared.update.Error.TheVariants as errors
use Rattle.fetch_update.specs.Accepting.{IsTaken, Stands, IsUnborn, HasIds}
use Rattle.fetch_update.specs.Policy.{Policy, is_stored, is_tag, value_of}

-- ---- rows

-- The destination is no name of a reference.
pub record HasBadDestination (m : Mapping) (text : List ℕ) : Type 0 where
  pub destination : m.local ≡ Some text
  pub invalid : is_full_name text ≡ false

-- The target of an unborn reference of the remote is no name, and would be written: the destination is absent, or unborn itself.
pub record HasBadTarget (p : Policy) (m : Mapping) (text : List ℕ) : Type 0 where
  pub remote : value_of m.remote ≡ Symbolic text
  pub invalid : is_full_name text ≡ false
  pub name : List ℕ
  pub destination : m.local ≡ Some name
  pub valid : IsTrue (is_full_name name)
  pub written : (finmap.get p.names name ≡ None) ⊎ ((target : List ℕ) × IsUnborn p m name target)

-- The reference that stands at the destination leads to no object, and to no absent name either.
pub record LeadsNowhere (p : Policy) (m : Mapping) (name : List ℕ) (cause : RefError) : Type 0 where
  pub found : Target
  pub stands : Stands p m name found
  pub fails : peeled p.names p.graph name ≡ Err cause
  pub born : (end : List ℕ) → cause ≢ Unborn end

-- The ids differ: the destination is no tag, and the local object isn't stored.
pub record LacksLocal (p : Policy) (m : Mapping) (id : ObjectId) : Type 0 where
  pub asked : p.dry_run ≡ false
  pub name : List ℕ
  pub remote : ObjectId
  pub ids : HasIds p m name id remote
  pub differ : id ≢ remote
  pub no_tag : is_tag name ≡ false
  pub absent : is_stored p.graph id ≡ false

-- ---- one mapping

-- A mapping refuses with this error.
abbrev pub Refuses : Policy → Mapping → Error → Type 0
Refuses p m (errors.FindReference text) = IsTaken p (value_of m.remote) × HasBadDestination m text
Refuses p m (errors.InvalidRefName text) = HasBadTarget p m text
Refuses p m (errors.PeelToId name cause) = IsTaken p (value_of m.remote) × LeadsNowhere p m name cause
Refuses p m (errors.FindCommit id) = IsTaken p (value_of m.remote) × LacksLocal p m id
Refuses p m other = ⊥

-- ---- among all mappings

-- The refspec of a mapping is found.
abbrev pub HasSpec : List Spec → List Spec → Mapping → Type 0
HasSpec specs extra m = (s : Spec) × (spec_at m.spec_index specs extra ≡ Some s)

-- One of the mappings refuses with this error, and none before it refuses. Those whose refspec isn't found are passed over.
pub record IsRefusedWith (p : Policy) (specs extra : List Spec) (mappings : List Mapping) (e : Error) : Type 0 where
  pub before : List Mapping
  pub mapping : Mapping
  pub after : List Mapping
  pub whole : mappings ≡ before ++ mapping ∷ after
  pub found : HasSpec specs extra mapping
  pub refuses : Refuses p mapping e
  pub first : (m : Mapping) (other : Error) → Contains before m → HasSpec specs extra m → Refuses p m other → ⊥
