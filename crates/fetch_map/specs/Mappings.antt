-- Which refspec made a mapping.
use Rattle.std.specs.Prelude.{List, Option, slice_get}
use Rattle.fetch_specs.specs.Specs.{Spec}
use Rattle.fetch_map.specs.declared.mapping.SpecIndex.{SpecIndex}
use Rattle.fetch_map.specs.declared.mapping.SpecIndex.TheVariants.{ExplicitInRemote, Implicit}

-- the refspec at this index, of the remote's or of the extra ones
abbrev pub spec_at : SpecIndex → List Spec → List Spec → Option Spec
spec_at (ExplicitInRemote index) refspecs extra = slice_get refspecs index
spec_at (Implicit index) refspecs extra = slice_get extra index
