-- What a reference of the remote tells.
use Rattle.std.specs.Prelude.{ℕ, List, Option, Some, None}
use Rattle.std.specs.Option.{option_or}
use Rattle.fetch_base.specs.declared.id.ObjectId.{ObjectId}
use Rattle.fetch_lines.specs.declared.listings.reference.Ref.{Ref}
use Rattle.fetch_lines.specs.declared.listings.reference.Ref.TheVariants.{Direct, Symbolic, Peeled, Unborn}
use Rattle.fetch_lines.specs.declared.listings.reference.Source.{Source}
use Rattle.fetch_lines.specs.declared.listings.reference.Source.TheVariants as sources

-- the name of a reference
abbrev pub name_in : Ref → List ℕ
name_in (Direct name object) = name
name_in (Symbolic name target tag object) = name
name_in (Peeled name tag object) = name
name_in (Unborn name target) = name

-- a tag before what it peels to
abbrev pub id_in : Ref → Option ObjectId
id_in (Direct name object) = Some object
id_in (Symbolic name target (Some tag) object) = Some tag
id_in (Symbolic name target None object) = Some object
id_in (Peeled name tag object) = Some tag
id_in (Unborn name target) = None

-- what a tag peels to
abbrev pub peeled_in : Ref → Option ObjectId
peeled_in (Direct name object) = None
peeled_in (Symbolic name target (Some tag) object) = Some object
peeled_in (Symbolic name target None object) = None
peeled_in (Peeled name tag object) = Some object
peeled_in (Unborn name target) = None

-- the reference that it names
abbrev pub target_in : Ref → Option (List ℕ)
target_in (Direct name object) = None
target_in (Symbolic name target tag object) = Some target
target_in (Peeled name tag object) = None
target_in (Unborn name target) = Some target

-- the id of a source, of a tag before what it peels to
abbrev pub source_id : Source → Option ObjectId
source_id (sources.ObjectId id) = Some id
source_id (sources.Ref reference) = id_in reference

-- the peeled id, or else the id
abbrev pub source_peeled : Source → Option ObjectId
source_peeled (sources.ObjectId id) = Some id
source_peeled (sources.Ref reference) = option_or (peeled_in reference) (id_in reference)

-- the name of a source that is a reference
abbrev pub source_name : Source → Option (List ℕ)
source_name (sources.ObjectId id) = None
source_name (sources.Ref reference) = Some (name_in reference)

-- the name that a source names
abbrev pub source_target : Source → Option (List ℕ)
source_target (sources.ObjectId id) = None
source_target (sources.Ref reference) = target_in reference
