-- Whether what a clone wants is mapped.
use Rattle.std.specs.Prelude.{◌≡◌, ℕ, List, Some, None, Ok, Err, ◌⊎◌}
use Rattle.fetch_specs.specs.Specs.{Spec}
use Rattle.fetch_map.specs.declared.mapping.RefMap.{RefMap}
use Rattle.fetch_init.specs.HeadTargets.{revision_id}
use Rattle.fetch_init.specs.HeadUpdates.{IsToldAs}
use Rattle.fetch_init.specs.NamedRefs.{ref_named_in}
use Rattle.fetch_init.specs.declared.clone.fetch.Error.{Error}
use Rattle.fetch_init.specs.declared.clone.fetch.Error.TheVariants as errors
use Rattle.fetch_init.specs.declared.head_target.HeadError.TheVariants as head_errors
use Rattle.fetch_init.specs.declared.named_ref.NamedRef.{NamedRef}
use Rattle.fetch_init.specs.declared.named_ref.RefNameError.{RefNameError}

-- The ref name means one of the mapped references.
abbrev pub IsMeant : List ℕ → RefMap → Type 0
IsMeant name map = (found : NamedRef) × (ref_named_in map.mappings name ≡ Ok found)

-- Nothing that is mapped is meant by the ref name, or there are several.
abbrev pub IsUnmeant : List ℕ → RefMap → Error → Type 0
IsUnmeant name map e = (cause : RefNameError) × (ref_named_in map.mappings name ≡ Err cause)
    × IsToldAs (Some name) None (head_errors.Name cause) e

-- the same, unless memory ran out
abbrev pub IsRefusedName : List ℕ → RefMap → Error → Type 0
IsRefusedName name map e = (e ≡ errors.NoMemory) ⊎ IsUnmeant name map e

-- The revision isn't mapped, which is told with it.
abbrev pub IsUnmappedRevision : Spec → RefMap → Error → Type 0
IsUnmappedRevision revision map e = (revision_id map revision ≡ None) × IsToldAs None (Some revision) head_errors.Revision e
